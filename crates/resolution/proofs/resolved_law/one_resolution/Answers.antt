use Rattle.resolution.proofs.Rows.{same_winners}
use Rattle.resolution.proofs.Single.{apart, one, refused}
use Rattle.resolution.proofs.resolved_law.one_resolution.Goals as goal

pub returns : goal.returns
returns c = record { winners = same_winners; one = one; apart = apart; refused = refused }

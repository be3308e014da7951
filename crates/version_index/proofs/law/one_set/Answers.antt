use Rattle.version_index.proofs.Entered.{put_is_set, same_sets}
use Rattle.version_index.proofs.Sets.{has_put, has_set, put_ascends, set_ascends}
use Rattle.version_index.proofs.law.one_set.Goals as goal

pub returns : goal.returns
returns c = record { ascending = set_ascends; members = has_set; kept = put_ascends; union = has_put; set = put_is_set; same = same_sets }

use Rattle.std.proofs.Common.{◌≡◌, IfSome, Some, sym, subst}
use Rattle.build_core.specs.OneThread.{name_of, remote_bytes}
use Rattle.crew_modules.proofs.Staging.{staged_so}
use Rattle.crew_modules.proofs.pieces.fetch_piece.Goals as goal

pub returns-in-Ok-clause-bytes : goal.returns-in-Ok-clause-bytes
returns-in-Ok-clause-bytes g c =
    let name = name_of c.args.task.now.plan c.args.file in
    staged_so (g.R.Remote.files c.args.remote.now) name (g.A.Area.contents c.args.area.now) (g.A.Area.contents c.stage_bytes.new.area) c.as_slice.result.now c.stage_bytes.result
    (subst (λ bytes. IfSome (g.R.Remote.files c.args.remote.now) (λ files. remote_bytes files name ≡ Some bytes)) (sym c.as_slice.ensures) c.in-Ok.ensures.ok) c.stage_bytes.ensures.bytes

-- A refusal of a model names its POM.
use Rattle.std.proofs.Common.{◌≡◌, ℕ, List, Option, sym, ap, ◌∙◌}
use Rattle.mvn_base.specs.declared.machine.Machine.{Machine}
use Rattle.mvn_base.specs.declared.machine.Pair.{Pair}
use Rattle.model_types.specs.declared.model.RawModel.{RawModel}
use Rattle.interpolation.specs.Filling.{fill, fill_model, refused_in}
use Rattle.interpolation.specs.Named.{named}
use Rattle.interpolation.specs.Tables.{Fails}
use Rattle.interpolation.specs.Told.{TellsOf}
use Rattle.interpolation.specs.declared.fault.FillFault.{FillFault}
use Rattle.interpolation.specs.declared.fault.FillFault.TheVariants.{Refused, Memory}

pub fill_tells : (raw : RawModel) (basedir : Option (List ℕ)) (machine : Machine) (defines known : List Pair) (fault : FillFault) → known ≡ named raw basedir machine defines → Fails (fill_model known raw) fault → TellsOf raw.pom fault (fill raw basedir machine defines)
unfolding fill
fill_tells raw basedir machine defines known (Refused r place) is fails = ap (refused_in raw.pom) (ap (λ k. fill_model k raw) (sym is) ∙ fails)
fill_tells raw basedir machine defines known Memory is fails = record {}

-- What a worker knows still when it goes on, and where it stands when it takes its batch.
use Rattle.std.proofs.Common.{◌≡◌, ℕ, Bool, true, false, List, [], ◌∷◌, Option, None, refl, sym, ap, subst, ◌∙◌}
use Rattle.std.proofs.lemmas.Bool.{false≢true}
use Rattle.mvn_shared.specs.Files.{Files}
use Rattle.build_core.specs.declared.mode.Mode.TheVariants.{Exclusive, Shared}
use Rattle.build_core.specs.declared.ending.Ending.{Ending}
use Rattle.build_core.specs.declared.plan.Plan.{Plan}
use Rattle.scripts.specs.declared.script_place.ScriptPlace.TheVariants as place
use Rattle.scripts.specs.ScriptPlaces.{rest_of}
use Rattle.scripts.specs.Scripts.{script_of, settled}
use Rattle.scripts.specs.Outlines.{is_empty}
use Rattle.event_core.specs.Standing.{on_course}
use Rattle.scripts.specs.declared.outline.ModuleOutline.{ModuleOutline}
use Rattle.crew_turns.specs.Seen.{KeepsFit, Told, course_by, names_by, there_by}
use Rattle.crew_turns.specs.Tasks.{HasBegun, ModuleTask, plan_outline, unit_outline}
use Rattle.crew_turns.specs.Hands.{Test, told_by}
use Rattle.crew_turns.specs.Stages.{IsToTake, LacksFile}
use Rattle.crew_turns.specs.Stops.{MayStop, freed_course}

-- ---- by what a hand tells still

module _ (files later : Option Files) (tells later_tells : Bool) (same : later ≡ files) (same_tells : later_tells ≡ tells) where
  pub fits_more : (plan : Plan) (w : ℕ) (before mid pass : Told) → ((gate : Option Test) → KeepsFit plan w (told_by files tells gate) before mid)
      → ((gate : Option Test) → KeepsFit plan w (told_by later later_tells gate) mid pass) → (gate : Option Test) → KeepsFit plan w (told_by files tells gate) before pass
  fits_more plan w before mid pass a b = λ gate fits.
      subst (λ r. KeepsFit plan w (told_by r tells gate) mid pass) same (subst (λ x. KeepsFit plan w (told_by later x gate) mid pass) same_tells (b gate)) (a gate fits)

  pub stops_still : (t : ModuleTask) (e : Ending) (pass : Told) → ((gate : Option Test) → MayStop t (told_by later later_tells gate) e pass) → (gate : Option Test) → MayStop t (told_by files tells gate) e pass
  stops_still t e pass stops = λ gate. subst (λ r. MayStop t (told_by r tells gate) e pass) same (subst (λ x. MayStop t (told_by later x gate) e pass) same_tells (stops gate))

-- ---- before a batch is taken

module _ (m : ModuleOutline) where
  begins : script_of m ≡ rest_of m (place.Sharing 0)
  unfolding rest_of
  begins = refl

-- directly behind its start a worker takes the batch shared
pub begun_takes : (t : ModuleTask) (pass : Told) → HasBegun t pass → IsToTake t Shared pass
begun_takes t pass begun = record { course = begun.course ∙ ap (λ s. on_course t.number (settled (there_by t.plan pass) true s) None) (begins (unit_outline t)); held = begun.held }

freed_locks : (t : ModuleTask) (there : List Bool) (names : List ℕ) → is_empty names ≡ false
    → freed_course (plan_outline t) there names (on_course t.number (rest_of (unit_outline t) place.Unsharing) None) ≡ on_course t.number (settled there true (rest_of (unit_outline t) (place.Locking 0))) None
unfolding rest_of
freed_locks t there [] some = absurd (false≢true (sym some))
freed_locks t there (n ∷ names) some = refl

-- and once that is freed, exclusively
pub freed_takes : (t : ModuleTask) (before pass : Told) → is_empty t.unit.batch ≡ false → LacksFile t Shared 0 before → names_by t.plan t.worker pass ≡ []
    → course_by t.plan t.worker pass ≡ freed_course (plan_outline t) (there_by t.plan pass) t.unit.batch (course_by t.plan t.worker before) → IsToTake t Exclusive pass
freed_takes t before pass some lacks none course = record {
  course = course ∙ ap (freed_course (plan_outline t) (there_by t.plan pass) t.unit.batch) lacks.course ∙ freed_locks t (there_by t.plan pass) t.unit.batch some;
  held = none;
}

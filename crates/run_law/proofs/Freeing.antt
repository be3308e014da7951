-- What a worker is at when it has freed all that it held.
use Rattle.std.proofs.Common.{◌≡◌, ℕ, ◌+◌, ◌<◌, Bool, true, false, nat_eq, List, [], length, drop, get_or, slice_get, Option, Some, None, unwrap_or, refl, arith, sym, ap, subst, ◌∙◌, if◌then◌else◌}
use Rattle.std.specs.Option.{option_map_or}
use Rattle.std.proofs.lemmas.Bool.Decides.{nat_tests}
use Rattle.scripts.specs.declared.deed.Deed.TheVariants as deed
use Rattle.scripts.specs.declared.outline.ModuleOutline.{ModuleOutline}
use Rattle.scripts.specs.declared.outline.Outline.{Outline}
use Rattle.scripts.specs.declared.script_place.ScriptPlace.TheVariants as place
use Rattle.scripts.specs.ScriptPlaces.{rest_of}
use Rattle.scripts.specs.Scripts.{Script, absent, answers, answers_left, done, fetches, frees, is_gathered, may_publish, publishes, read_script, reads, release_script, settled, step, steps, takes, wanted, whole}
use Rattle.event_core.specs.Standing.{Course, after_free, goals_of, idle, off_course, on_course}
use Rattle.scripts.specs.Outlines.{is_empty}
use Rattle.scripts.proofs.ScriptPlaces.{steps_at}
use Rattle.event_core.proofs.Weights.{nothing_is}
use Rattle.run_law.proofs.Orders.{read_left}

-- frees stay until no name is held
abbrev Stays : Script → Type 0
Stays rest = (stage : ℕ) × (more : Script) × (step stage frees more ≡ rest)

not_chosen : (s rest : Script) → (if false then Some s else None) ≡ Some rest → Stays rest
not_chosen s rest e = absurd (nothing_is rest e)

free_stays : (s rest : Script) → done s deed.Free ≡ Some rest → Stays rest
free_stays whole rest e = absurd (nothing_is rest e)
free_stays (absent files this that) rest e = absurd (nothing_is rest e)
free_stays (step stage frees more) rest e = (stage, more, ap (λ o. unwrap_or o whole) e)
free_stays (step stage (may_publish f) more) rest e = free_stays more rest e
free_stays (step stage (takes m n) more) rest e = not_chosen more rest e
free_stays (step stage (reads f) more) rest e = not_chosen more rest e
free_stays (step stage (fetches f) more) rest e = not_chosen more rest e
free_stays (step stage (publishes f) more) rest e = not_chosen more rest e
free_stays (step stage (answers g) more) rest e = not_chosen more rest e

module _ (o : Outline) (there later : List Bool) where
  abbrev freed : ℕ → Script → Option Script → Course
  freed number script found = option_map_or (λ rest. on_course number (settled later true rest) None) found (off_course number (wanted script) (is_gathered (goals_of o number) script))

  abbrev once : Bool → ℕ → Script → Option Script → Course
  once empty number script found = option_map_or (λ rest. on_course number (settled there empty rest) None) found (off_course number (wanted script) (is_gathered (goals_of o number) script))

  -- a script where frees are due, once and then for the last time
  twice : (number : ℕ) (script rest : Script) → Stays rest → after_free o later [] (on_course number (settled there false rest) None) ≡ on_course number (settled later true rest) None
  twice number script rest stays = subst (λ r. after_free o later [] (on_course number (settled there false r) None) ≡ on_course number (settled later true r) None) stays.2 refl

  on_last : (number : ℕ) (script : Script) (found : Option Script) → done script deed.Free ≡ found → after_free o later [] (once false number script found) ≡ freed number script found
  on_last number script None e = refl
  on_last number script (Some rest) e = twice number script rest (free_stays script rest e)

  pub last : (held : List ℕ) (course : Course) → is_empty held ≡ false → after_free o later [] (after_free o there held course) ≡ after_free o later [] course
  last held idle some = refl
  last held (off_course number file gathered) some = refl
  last held (on_course number script answered) some =
      ap (λ b. after_free o later [] (once b number script (done script deed.Free))) some ∙ on_last number script (done script deed.Free) refl

-- ---- frees that aren't due

module _ (o : Outline) (m : ModuleOutline) (number : ℕ) (answered : Option ℕ) (there : List Bool) (is : slice_get o.modules number ≡ Some m) where
  pub fetching : (at : ℕ) → at < length m.fetch → after_free o there [] (on_course number (rest_of m (place.Fetching at)) answered) ≡ off_course number (Some (get_or m.fetch at 0)) false
  unfolding rest_of
  fetching at low =
      let here = steps_at 3 fetches m.fetch at (read_script m) low in
      ap (λ s. after_free o there [] (on_course number s answered)) here

  pub reading : (at : ℕ) → at < length m.reads → after_free o there [] (on_course number (rest_of m (place.Reading at)) answered) ≡ off_course number None true
  unfolding rest_of
  reading at low =
      let here = steps_at 4 reads m.reads at (release_script m) low in
      let count : goals_of o number ≡ m.goals = ap (λ x. option_map_or (λ (y : ModuleOutline). y.goals) x 0) is in
      let left : answers_left (steps 4 reads (drop (at + 1) m.reads) (release_script m)) ≡ goals_of o number = read_left m (drop (at + 1) m.reads) ∙ sym count in
      let all : nat_eq (answers_left (steps 4 reads (drop (at + 1) m.reads) (release_script m))) (goals_of o number) ≡ true = grind (arith, nat_tests, left) in
      ap (λ s. after_free o there [] (on_course number s answered)) here ∙ ap (λ b. off_course number None b) all

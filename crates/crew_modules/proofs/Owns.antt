-- The files that a module is installed as, by their places.
use Rattle.std.proofs.Common.{◌≡◌, ℕ, zero, suc, ◌<◌, Bool, true, false, ◌||◌, ◌==◌, nat_eq, List, [], ◌∷◌, length, map, find, get_or, slice_get, Option, Some, None, refl, arith, sym, ap, subst, ◌∙◌, if◌then◌else◌}
use Rattle.std.specs.List.{AllByRecursion, IsDistinct, list_all, slice_index_or}
use Rattle.std.proofs.lemmas.Bool.{false≢true}
use Rattle.std.proofs.lemmas.Bool.Decides.{nat_tests}
use Rattle.std.proofs.lemmas.Map.Keys.{IsDistinct-head, IsDistinct-tail}
use Rattle.goal_types.specs.declared.goal.OwnBytes.{OwnBytes}
use Rattle.goal_types.specs.declared.goal.Slot.{Slot}
use Rattle.goal_types.specs.declared.goal.Slot.TheVariants as slot
use Rattle.build_core.specs.OneThread.{own_bytes}
use Rattle.build_core.specs.Slots.{slot_number}
use Rattle.build_core.specs.declared.plan.OwnFile.{OwnFile}
use Rattle.build_core.specs.declared.plan.PlanModule.{PlanModule}
use Rattle.scripts.specs.Outlines.{is_listed}
use Rattle.event_core.specs.SoundPlans.{pom_first}
use Rattle.event_core.proofs.Weights.{nothing_is}
use Rattle.run_law.proofs.Basics.{and_is, or_right}

abbrev pub files : List OwnFile → List ℕ
files own = map (λ (o : OwnFile). o.file) own

-- what stands at a place
pub file_at_place : (own : List OwnFile) (at : ℕ) (o : OwnFile) → slice_get own at ≡ Some o → get_or (files own) at 0 ≡ o.file
file_at_place [] at o is = absurd (nothing_is o is)
file_at_place (x ∷ own) zero o is = ap (λ (y : Option OwnFile). elim y [ Some z ↦ z.file | None ↦ 0 ]) is
file_at_place (x ∷ own) (suc at) o is = file_at_place own at o is

pub place_low : (own : List OwnFile) (at : ℕ) (o : OwnFile) → slice_get own at ≡ Some o → at < length own
place_low [] at o is = absurd (nothing_is o is)
place_low (x ∷ own) zero o is = omega arith
place_low (x ∷ own) (suc at) o is = let low = place_low own at o is in omega (arith, low)

-- is listed
pub listed_at : (own : List OwnFile) (at : ℕ) (o : OwnFile) → slice_get own at ≡ Some o → is_listed o.file (files own) ≡ true
listed_at [] at o is = absurd (nothing_is o is)
listed_at (x ∷ own) zero o is =
    let same : x.file ≡ o.file = ap (λ (y : Option OwnFile). elim y [ Some z ↦ z.file | None ↦ 0 ]) is in
    let eq : nat_eq x.file o.file ≡ true = grind (arith, nat_tests, same) in
    ap (λ b. b || is_listed o.file (files own)) eq
listed_at (x ∷ own) (suc at) o is = or_right (nat_eq x.file o.file) (is_listed o.file (files own)) (listed_at own at o is)

-- and is the one that is found by its file
differs_at : (x : ℕ) (own : List OwnFile) (at : ℕ) (o : OwnFile) → AllByRecursion (λ y. nat_eq x y ≡ false) (files own) → slice_get own at ≡ Some o → nat_eq x o.file ≡ false
differs_at x [] at o all is = absurd (nothing_is o is)
differs_at x (y ∷ own) zero o all is = subst (λ k. nat_eq x k ≡ false) (ap (λ (y : Option OwnFile). elim y [ Some z ↦ z.file | None ↦ 0 ]) is) all.0
differs_at x (y ∷ own) (suc at) o all is = differs_at x own at o all.1 is

pub found_at : (own : List OwnFile) (at : ℕ) (o : OwnFile) → IsDistinct nat_eq (files own) → slice_get own at ≡ Some o → find (λ (x : OwnFile). x.file == o.file) own ≡ Some o
found_at [] at o differ is = absurd (nothing_is o is)
found_at (x ∷ own) zero o differ is =
    let same : x.file ≡ o.file = ap (λ (y : Option OwnFile). elim y [ Some z ↦ z.file | None ↦ 0 ]) is in
    let eq : (x.file == o.file) ≡ true = grind (arith, nat_tests, same) in
    ap (λ b. if b then Some x else find (λ (y : OwnFile). y.file == o.file) own) eq ∙ is
found_at (x ∷ own) (suc at) o differ is =
    let eq : (x.file == o.file) ≡ false = differs_at x.file own at o (IsDistinct-head nat_eq x.file (files own) differ) is in
    ap (λ b. if b then Some x else find (λ (y : OwnFile). y.file == o.file) own) eq ∙ found_at own at o (IsDistinct-tail nat_eq x.file (files own) differ) is

-- what holds at each place holds of all
pub all_places : (test : OwnFile → Bool) (own : List OwnFile) → ((at : ℕ) (o : OwnFile) → slice_get own at ≡ Some o → test o ≡ true) → list_all test own ≡ true
all_places test [] each = refl
all_places test (x ∷ own) each = and_is (test x) (list_all test own) (each 0 x refl) (all_places test own (λ at o is. each (suc at) o is))

-- ---- the POM's

-- a slot with the POM's number is the POM's
pom_bytes : (m : PlanModule) (own : List OwnBytes) (s : Slot) → (slot_number s == 1) ≡ true → own_bytes m own s ≡ Some m.pom
pom_bytes m own slot.Pom is = refl
pom_bytes m own slot.Nowhere is = absurd (false≢true is)
pom_bytes m own slot.Classes is = absurd (false≢true is)
pom_bytes m own slot.TestClasses is = absurd (false≢true is)
pom_bytes m own slot.Main is = absurd (false≢true is)
pom_bytes m own slot.Tests is = absurd (false≢true is)
pom_bytes m own slot.Sources is = absurd (false≢true is)
pom_bytes m own slot.Javadoc is = absurd (false≢true is)

-- for the first own file there are bytes
pub pom_there : (m : PlanModule) (own : List OwnBytes) (o : OwnFile) → pom_first m.own ≡ true → slice_get m.own 0 ≡ Some o → own_bytes m own o.slot ≡ Some m.pom
pom_there m own o first is = by m.own first is
  where
    by : (xs : List OwnFile) → pom_first xs ≡ true → slice_get xs 0 ≡ Some o → own_bytes m own o.slot ≡ Some m.pom
    by [] first is = absurd (false≢true first)
    by (x ∷ xs) first is = pom_bytes m own o.slot (subst (λ (y : OwnFile). (slot_number y.slot == 1) ≡ true) (ap (λ (y : Option OwnFile). elim y [ Some z ↦ z | None ↦ o ]) is) first)

pub some_own : (own : List OwnFile) → pom_first own ≡ true → 0 < length own
some_own [] first = absurd (false≢true first)
some_own (x ∷ own) first = omega arith

-- what is read at a place stands there
pub read_at : (xs own : List OwnFile) (at : ℕ) (d : OwnFile) → xs ≡ own → at < length own → slice_get own at ≡ Some (slice_index_or xs at d)
read_at xs own at d same low = subst (λ ys. slice_get own at ≡ Some (slice_index_or ys at d)) (sym same) (by own at low)
  where
    by : (ys : List OwnFile) (k : ℕ) → k < length ys → slice_get ys k ≡ Some (slice_index_or ys k d)
    by [] k low = absurd (omega (arith, low))
    by (y ∷ ys) zero low = refl
    by (y ∷ ys) (suc k) low = by ys k (omega (arith, low))

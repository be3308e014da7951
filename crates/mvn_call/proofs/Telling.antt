-- What follows where all that a call uses tells.
use Rattle.std.proofs.Common.{◌≡◌, ◌<◌, ◌≤◌, ℕ, zero, suc, List, [], ◌∷◌, length, take, Option, Some, None, IfSome, refl, subst, arith}
use Rattle.mvn_shared.specs.Files.{Files}
use Rattle.mvn_outside.specs.Shelf.{files_now}
use Rattle.mvn_outside.specs.declared.shelf.ShelfTold.{ShelfTold}
use Rattle.crew_turns.specs.Hands.{HandState}
use Rattle.crew.specs.CrewOutcomes.{AllTellFiles, told_of}
use Rattle.call_plan.specs.Found.{IfTold}

-- as `IfAllTell`, by the parts
abbrev pub IfAll : Option Files → Option ShelfTold → List HandState → ((tree : Files) (told : ShelfTold) (remote : Files) → Type 0) → Type 0
IfAll tree shelf hands P = IfSome tree (λ files. IfSome shelf (λ told. (remote : Files) → AllTellFiles hands remote → P files told remote))

pub all_any : (tree : Option Files) (shelf : Option ShelfTold) (hands : List HandState) (P : Files → ShelfTold → Files → Type 0) → ((files : Files) (told : ShelfTold) (remote : Files) → P files told remote) → IfAll tree shelf hands P
all_any None shelf hands P h = tt
all_any (Some files) None hands P h = tt
all_any (Some files) (Some told) hands P h = λ remote tells. h files told remote

pub all_map : (tree : Option Files) (shelf : Option ShelfTold) (hands : List HandState) (P Q : Files → ShelfTold → Files → Type 0) → ((files : Files) (told : ShelfTold) (remote : Files) → P files told remote → Q files told remote)
    → IfAll tree shelf hands P → IfAll tree shelf hands Q
all_map None shelf hands P Q h p = tt
all_map (Some files) None hands P Q h p = tt
all_map (Some files) (Some told) hands P Q h p = λ remote tells. h files told remote (p remote tells)

-- with what holds where the repository tells
pub all_with : (tree : Option Files) (shelf : Option ShelfTold) (hands : List HandState) (P R : Files → ShelfTold → Files → Type 0) (Q : ShelfTold → Files → Type 0)
    → ((files : Files) (told : ShelfTold) (remote : Files) → P files told remote → Q told remote → R files told remote)
    → IfAll tree shelf hands P → IfSome shelf (λ told. (remote : Files) → AllTellFiles hands remote → Q told remote) → IfAll tree shelf hands R
all_with None shelf hands P R Q h p q = tt
all_with (Some files) None hands P R Q h p q = tt
all_with (Some files) (Some told) hands P R Q h p q = λ remote tells. h files told remote (p remote tells) (q remote tells)

-- under a condition
pub all_if : (tree : Option Files) (shelf : Option ShelfTold) (hands : List HandState) (A : Type 0) (P : Files → ShelfTold → Files → Type 0) → (A → IfAll tree shelf hands P) → IfAll tree shelf hands (λ files told remote. A → P files told remote)
all_if None shelf hands A P h = tt
all_if (Some files) None hands A P h = tt
all_if (Some files) (Some told) hands A P h = λ remote tells a. h a remote tells

some_at : (o : Option Files) (x : Files) (P : Files → Type 0) → o ≡ Some x → IfSome o P → P x
some_at o x P e p = subst (λ (o : Option Files). IfSome o P) e p

-- where all that is used tells, the remote of the first hand does
pub all_told : (tree : Option Files) (shelf : Option ShelfTold) (hands : List HandState) (count : ℕ) (P : Files → Files → Files → Type 0) → 1 ≤ count → 1 ≤ length hands
    → IfTold tree shelf (told_of hands 0).remote P → IfAll tree shelf (take count hands) (λ files told remote. P files (files_now told) remote)
all_told None shelf hands count P low some p = tt
all_told (Some files) None hands count P low some p = tt
all_told (Some files) (Some told) [] count P low some p = absurd (omega (arith, some))
all_told (Some files) (Some told) (hand ∷ hands) zero P low some p = absurd (omega (arith, low))
all_told (Some files) (Some told) (hand ∷ hands) (suc count) P low some p =
    λ remote tells. some_at hand.told.remote remote (P files (files_now told)) (tells 0 (omega arith)).1 p

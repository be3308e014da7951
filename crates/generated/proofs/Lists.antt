-- Hands that were made alike.
use Rattle.std.proofs.Common.{◌≡◌, ◌∙◌, ℕ, zero, suc, ◌≤◌, ◌<◌, true, List, [], ◌∷◌, length, map, take, replicate, Option, Some, refl, sym, ap, subst, arith}
use Rattle.std.proofs.lemmas.List.{length-map, length-replicate, take-replicate}
use Rattle.mvn_outside.specs.declared.hand.Hand.{Hand}
use Rattle.mvn_outside.specs.declared.shelf.ShelfTold.{ShelfTold}
use Rattle.mvn_shared.specs.Files.{Files}
use Rattle.gates.specs.declared.builtin.Builtin.{Builtin}
use Rattle.crew_turns.specs.Hands.{HandState}
use Rattle.build_outcome.specs.Left.{Outside}
use Rattle.crew.specs.CrewOutcomes.{AllTellFiles, hand_of, told_of}
use Rattle.outside_mem.specs.Shelf.{shelf_told}
use Rattle.outside_mem.specs.declared.area.MemArea.{MemArea}
use Rattle.outside_mem.specs.declared.calls.NoFailures.{NoFailures}
use Rattle.outside_mem.specs.declared.remote.MemRemote.{MemRemote}
use Rattle.outside_mem.specs.declared.shelf.MemShelf.{MemShelf}
use Rattle.call_plan.specs.Seen.{IsAskedFirst, first_remote, with_first}
use Rattle.generated.specs.Made.{empty_shelf, fresh_hand, made, remote}
use Rattle.generated.specs.States.{outside, state}
use Rattle.generated.specs.SummedUp.{HasNoFaults, IsFaultless}

abbrev told_some : ShelfTold → Option ShelfTold
told_some told = Some told

abbrev MemHand : Type 0
MemHand = Hand (MemRemote NoFailures) (MemArea NoFailures) Builtin

-- each of so many alike is that one
hand_in : (n w : ℕ) (hand : HandState) → w < n → hand_of (replicate n hand) w ≡ hand
hand_in zero w hand low = absurd (omega (arith, low))
hand_in (suc n) zero hand low = refl
hand_in (suc n) (suc w) hand low = hand_in n w hand (omega (arith, low))

-- hands in memory have no faults, and neither have the first of hands that have none
abbrev AreFaultless : List HandState → Type 0
AreFaultless hands = (w : ℕ) → IsFaultless (hand_of hands w)

each_still : (hands : List MemHand) → AreFaultless (map state hands)
each_still [] w = record { remote = refl; area = refl; gate = refl }
each_still (hand ∷ hands) zero = record { remote = refl; area = refl; gate = refl }
each_still (hand ∷ hands) (suc w) = each_still hands w

made_still : (n : ℕ) → AreFaultless (replicate n (fresh_hand remote))
made_still zero w = record { remote = refl; area = refl; gate = refl }
made_still (suc n) zero = record { remote = refl; area = refl; gate = refl }
made_still (suc n) (suc w) = made_still n w

first_still : (n : ℕ) (hands : List HandState) → AreFaultless hands → AreFaultless (take n hands)
first_still zero hands all w = record { remote = refl; area = refl; gate = refl }
first_still (suc n) [] all w = record { remote = refl; area = refl; gate = refl }
first_still (suc n) (hand ∷ hands) all zero = all 0
first_still (suc n) (hand ∷ hands) all (suc w) = first_still n hands (λ v. all (suc v)) w

pub faultless : (shelf : MemShelf NoFailures) (hands : List MemHand) → HasNoFaults (outside shelf hands)
faultless shelf hands = record { shelf = refl; hands = each_still hands }

pub made_faultless : (n : ℕ) → HasNoFaults (made n)
made_faultless n = record { shelf = refl; hands = made_still n }

pub first_faultless : (n : ℕ) (outside : Outside) → HasNoFaults outside → HasNoFaults (with_first n outside)
first_faultless n outside still = record { shelf = still.shelf; hands = first_still n outside.hands still.hands }

-- so many hands of as many are all
pub all_first : (n : ℕ) → with_first n (made n) ≡ made n
all_first n = ap (λ (hands : List HandState). record (made n) { hands = hands }) (take-replicate n n (fresh_hand remote) (omega arith))

pub made_length : (n : ℕ) → length (made n).hands ≡ n
made_length n = length-replicate n (fresh_hand remote)

-- the first remote repository, and all
pub made_remote : (n : ℕ) → 1 ≤ n → first_remote (made n) ≡ Some remote
made_remote n some = ap (λ (h : HandState). h.told.remote) (hand_in n 0 (fresh_hand remote) some)

pub made_tell : (n : ℕ) → AllTellFiles (made n).hands remote
made_tell n w low =
    let is : hand_of (replicate n (fresh_hand remote)) w ≡ fresh_hand remote = hand_in n w (fresh_hand remote) (subst (λ (k : ℕ). w < k) (made_length n) low) in
    (ap (λ (h : HandState). h.told.area) is, ap (λ (h : HandState). h.told.remote) is)

-- ---- what planning leaves

-- hands of which the first alone was asked are as they were, if none has a fault
same_first : (before now : List HandState) → length now ≡ length before → IsAskedFirst before now → AreFaultless before → AreFaultless now → now ≡ before
same_first [] [] many asked p q = refl
same_first [] (a ∷ now) many asked p q = absurd (omega (arith, many))
same_first (b ∷ before) [] many asked p q = absurd (omega (arith, many))
same_first (b ∷ before) (a ∷ now) many asked p q =
    let head : a ≡ b = asked.first ∙ ap (λ (n : ℕ). record b { remote = n }) ((q 0).remote ∙ sym (p 0).remote) in
    ap (λ (h : HandState). h ∷ now) head ∙ ap (λ (hands : List HandState). b ∷ hands) asked.others

-- what was given is what was made
pub given_made : (n : ℕ) (shelf : MemShelf NoFailures) (hands : List MemHand) → shelf_told shelf ≡ empty_shelf → map state hands ≡ replicate n (fresh_hand remote) → outside shelf hands ≡ made n
given_made n shelf hands told fresh =
    ap (λ (t : ShelfTold). outside_of t (map state hands)) told ∙ ap (outside_of empty_shelf) fresh
  where
    outside_of : ShelfTold → List HandState → Outside
    outside_of t hands = record { shelf = Some t; faults = 0; hands = hands }

same_told : (a b : ShelfTold) → told_some a ≡ told_some b → a ≡ b
same_told a b e = cc

-- and so it is once it was planned
pub left_made : (n : ℕ) (shelf left : MemShelf NoFailures) (hands now : List MemHand) → shelf_told shelf ≡ empty_shelf → map state hands ≡ replicate n (fresh_hand remote)
    → told_some (shelf_told left) ≡ told_some (shelf_told shelf) → length now ≡ length hands → IsAskedFirst (map state hands) (map state now) → outside left now ≡ made n
left_made n shelf left hands now told fresh same many asked =
    given_made n left now (same_told (shelf_told left) (shelf_told shelf) same ∙ told)
    (same_first (map state hands) (map state now) (length-map now state ∙ many ∙ sym (length-map hands state)) asked (each_still hands) (each_still now) ∙ fresh)

-- The first hand of several, where its remote alone is used.
use Rattle.std.proofs.Common.{◌≡◌, ◌≤◌, List, [], ◌∷◌, length, map, drop, get_or, set, ap, subst, sym, refl, arith}
use Rattle.crew_turns.specs.Hands.{HandState}
use Rattle.crew.specs.CrewOutcomes.{hand_of}
use Rattle.call_plan.specs.Seen.{IsAskedFirst}

-- it is what is taken by its number
pub first_of : {H : Type 0} (state : H → HandState) (hands : List H) (h : H) → h ≡ get_or hands 0 h → 1 ≤ length hands → hand_of (map state hands) 0 ≡ state h
first_of state [] h is some = absurd (omega (arith, some))
first_of state (a ∷ hands) h is some = sym (ap state is)

-- another in its place
pub first_set : {H : Type 0} (state : H → HandState) (hands : List H) (h : H) → 1 ≤ length hands → hand_of (map state (set hands 0 h)) 0 ≡ state h
first_set state [] h some = absurd (omega (arith, some))
first_set state (a ∷ hands) h some = refl

-- which changes none of the others
pub others_set : {A : Type 0} (hands : List A) (h : A) → drop 1 (set hands 0 h) ≡ drop 1 hands
others_set [] h = refl
others_set (a ∷ hands) h = refl

-- and is asked alone if but its remote's count differs
pub asked_first : {H : Type 0} (state : H → HandState) (hands : List H) (h d : H) → d ≡ get_or hands 0 d → 1 ≤ length hands → state h ≡ record (state d) { remote = (state h).remote } → IsAskedFirst (map state hands) (map state (set hands 0 h))
asked_first {H = H} state [] h d is some same = absurd (omega (arith, some))
asked_first {H = H} state (a ∷ hands) h d is some same = record { first = subst (λ (x : H). state h ≡ record (state x) { remote = (state h).remote }) is same; others = refl }

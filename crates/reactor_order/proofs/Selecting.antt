-- Which modules are wanted, from marks.
use Rattle.std.proofs.Common.{◌≡◌, ◌⊎◌, inl, inr, ◌↔◌, ℕ, Bool, true, false, ◌||◌, List, [], ◌∷◌, get_or, take, drop, filter, Option, Some, None, refl, sym, ap, ◌∙◌}
use Rattle.std.proofs.lemmas.List.{take-append-drop}
use Rattle.reactor_order.specs.Graph.{Edges, has, flipped, AreBelow}
use Rattle.reactor_order.specs.Select.{from_on, IsAsked, IsWanted, Selects}
use Rattle.reactor_order.proofs.Marking.{has_append}
use Rattle.reactor_order.proofs.Reaching.{one_of, first_or, second_or}

-- what is marked in one of three is wanted, and no more
pub wanted_by : (edges : Edges) (chosen : List ℕ) (make dependents : Bool) (own above below marks : List Bool)
    → ((m : ℕ) → get_or own m false ≡ has chosen m) → ((m : ℕ) → (get_or above m false ≡ true) ↔ IsAsked make edges chosen m) → ((m : ℕ) → (get_or below m false ≡ true) ↔ IsAsked dependents (flipped edges) chosen m)
    → ((m : ℕ) → get_or marks m false ≡ (get_or own m false || (get_or above m false || get_or below m false)))
    → (m : ℕ) → (get_or marks m false ≡ true) ↔ IsWanted edges (Some chosen) make dependents m
wanted_by edges chosen make dependents own above below marks o a b each m = (λ is. there (one_of (get_or own m false) (get_or above m false || get_or below m false) (sym (each m) ∙ is)), back)
  where
    more : (get_or above m false ≡ true) ⊎ (get_or below m false ≡ true) → IsWanted edges (Some chosen) make dependents m
    more (inl up) = inr (inl ((a m).0 up))
    more (inr down) = inr (inr ((b m).0 down))

    there : (get_or own m false ≡ true) ⊎ ((get_or above m false || get_or below m false) ≡ true) → IsWanted edges (Some chosen) make dependents m
    there (inl mine) = inl (sym (o m) ∙ mine)
    there (inr other) = more (one_of (get_or above m false) (get_or below m false) other)

    back : IsWanted edges (Some chosen) make dependents m → get_or marks m false ≡ true
    back (inl mine) = each m ∙ first_or (get_or own m false) (get_or above m false || get_or below m false) (o m ∙ mine)
    back (inr (inl up)) = each m ∙ second_or (get_or own m false) (get_or above m false || get_or below m false) (first_or (get_or above m false) (get_or below m false) ((a m).1 up))
    back (inr (inr down)) = each m ∙ second_or (get_or own m false) (get_or above m false || get_or below m false) (second_or (get_or above m false) (get_or below m false) ((b m).1 down))

filter_all : (xs : List ℕ) → xs ≡ filter (λ _. true) xs
filter_all [] = refl
filter_all (x ∷ xs) = ap (λ l. x ∷ l) (filter_all xs)

pub selects_all : (order : List ℕ) (edges : Edges) (make dependents : Bool) (from : Option ℕ) (result : List ℕ) → result ≡ from_on from order → Selects order edges None make dependents from result
selects_all order edges make dependents from result is = record { keep = λ _. true; is = is ∙ filter_all (from_on from order); exactly = λ m. (λ _. tt, λ _. refl) }

pub selects_some : (order : List ℕ) (edges : Edges) (chosen : List ℕ) (make dependents : Bool) (from : Option ℕ) (marks : List Bool) (rest result : List ℕ) → rest ≡ from_on from order
    → ((m : ℕ) → (get_or marks m false ≡ true) ↔ IsWanted edges (Some chosen) make dependents m) → result ≡ filter (λ m. get_or marks m false) rest → Selects order edges (Some chosen) make dependents from result
selects_some order edges chosen make dependents from marks rest result e exactly is = record { keep = λ m. get_or marks m false; is = is ∙ ap (filter (λ m. get_or marks m false)) e; exactly = exactly }

pub below_drop : (n k : ℕ) (xs : List ℕ) → AreBelow n xs → AreBelow n (drop k xs)
below_drop n k xs below m is = below m (sym (ap (λ l. has l m) (take-append-drop k xs)) ∙ has_append (take k xs) (drop k xs) m ∙ second_or (has (take k xs) m) (has (drop k xs) m) is)

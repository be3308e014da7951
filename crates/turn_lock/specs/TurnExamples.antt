-- Examples of passes and their logs, which the checker computes: four workers, of which worker 0 opens module 7. Own.
use Rattle.std.specs.Prelude.{◌≡◌, ℕ, Bool, true, false, List, [], ◌∷◌, Some, None}
use Rattle.std.proofs.Common.{refl, ap, inl, inr, ◌∙◌}
use Rattle.std.proofs.lemmas.Bool.{false≢true}
use Rattle.turn_lock.specs.declared.kept.Role.{Role}
use Rattle.turn_lock.specs.declared.kept.Role.TheVariants.{Nobody, Opens, GoesOn, Closes}
use Rattle.turn_lock.specs.declared.view.View.{View}
use Rattle.turn_lock.specs.Rule.{weights}
use Rattle.turn_lock.specs.Turns.{AddsOne, IsFresh, MayAdd, entries_of, first_view, given, is_nobodys, is_of, joined, left_of, open_of, right_of, spent, with_turn}

-- an entry is its role here
abbrev role : Role → Role
role r = r

abbrev opened : List Role
opened = Nobody ∷ Opens 0 7 ∷ GoesOn 2 ∷ []

abbrev closed : List Role
closed = Nobody ∷ Opens 0 7 ∷ GoesOn 2 ∷ Closes 0 ∷ []

-- ---- logs

module_is_open : open_of role 0 opened ≡ Some 7
module_is_open = refl

nothing_is_open : open_of role 0 closed ≡ None
nothing_is_open = refl

going_on_opens_nothing : open_of role 2 opened ≡ None
going_on_opens_nothing = refl

its_entries : entries_of role 0 closed ≡ Opens 0 7 ∷ Closes 0 ∷ []
its_entries = refl

one_entry_more : AddsOne role 0 opened closed
one_entry_more = inr (Closes 0, refl, inr refl)

no_entry_more : AddsOne role 0 opened opened
no_entry_more = inl refl

-- ---- passes

abbrev first : View ℕ Role
first = first_view (Nobody ∷ []) 5 4

abbrev left : View ℕ Role
left = left_of first

abbrev right : View ℕ Role
right = right_of first

first_reach : (first.number ≡ 0) × (first.reach ≡ 4) × (first.weight ≡ 4)
first_reach = (refl, refl, refl)

left_reach : (left.number ≡ 0) × (left.reach ≡ 2) × (left.weight ≡ 2)
left_reach = (refl, refl, refl)

right_reach : (right.number ≡ 2) × (right.reach ≡ 4) × (right.weight ≡ 2)
right_reach = (refl, refl, refl)

-- of three workers the new pass has one
three : (left_of {F = ℕ} (first_view (Nobody ∷ []) 5 3)).reach ≡ 2
three = refl

weights_stay : weights (left ∷ right ∷ []) ≡ 4
weights_stay = refl

-- worker 0 has opened a module: its pass owes that, and has no turn any more
abbrev owing : View ℕ Role
owing = given role (with_turn left (Nobody ∷ [])) (Nobody ∷ Opens 0 7 ∷ [])

it_owes : (owing.owed ≡ Some 7) × (owing.turn ≡ None) × (owing.seen ≡ Nobody ∷ Opens 0 7 ∷ [])
it_owes = (refl, refl, refl)

-- joined: the longer log, and the whole weight again; the spent one counts no more
abbrev made_one : View ℕ Role
made_one = joined owing right

one_again : (made_one.seen ≡ Nobody ∷ Opens 0 7 ∷ []) × (made_one.weight ≡ 4) × (made_one.reach ≡ 2) × (made_one.owed ≡ Some 7)
one_again = (refl, refl, refl, refl)

weights_still : weights (made_one ∷ spent ∷ []) ≡ 4
weights_still = refl

-- ---- what isn't so

-- a log in which a worker has an entry isn't fresh
not_fresh : IsFresh role opened → ⊥
not_fresh fresh = false≢true fresh

-- worker 2 may not add an entry of worker 0
not_its_entry : AddsOne role 2 [] (Opens 0 7 ∷ []) → ⊥
not_its_entry (inl same) = false≢true (ap is_some same)
  where
    is_some : List Role → Bool
    is_some [] = true
    is_some (r ∷ rs) = false
not_its_entry (inr it) = by it.2
  where
    head : List Role → Role
    head [] = Nobody
    head (r ∷ rs) = r

    same : Opens 0 7 ≡ it.0
    same = ap head it.1

    by : MayAdd role 2 it.0 → ⊥
    by (inl e) = false≢true (ap is_nobodys same ∙ e)
    by (inr e) = false≢true (ap (is_of 2) same ∙ e)

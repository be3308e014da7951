-- What a turn lock says of a log, as laws of runs say it.
use Rattle.std.proofs.Common.{◌≡◌, ℕ, Bool, true, false, not, List, [], ◌∷◌, ◌++◌, if◌then◌else◌, refl, sym, ap, ◌∙◌}
use Rattle.std.proofs.lemmas.List.Elements.{filter-append}
use Rattle.std.specs.List.{list_all}
use Rattle.build_core.specs.declared.event.Event.{Event}
use Rattle.build_core.specs.declared.event.Event.TheVariants as event
use Rattle.event_core.specs.declared.entry.RunEntry.{RunEntry}
use Rattle.run_law.proofs.Basics.{and_is}
use Rattle.run_law.proofs.RunGathering.{not_nil}
use Rattle.turn_lock.specs.Turns.{entries_of}
use Rattle.turn_lock.specs.Turns as turns
use Rattle.board.specs.Logs.{role, role_of}
use Rattle.run_law.specs.Others.{AreOthers, is_of}

-- both name the same worker of an event
pub same_worker : (k : ℕ) (e : Event) → turns.is_of k (role_of e) ≡ is_of k e
same_worker k (event.Start w m) = refl
same_worker k (event.Skip m) = refl
same_worker k (event.Take w n mode) = refl
same_worker k (event.Free w n) = refl
same_worker k (event.Read w f) = refl
same_worker k (event.Publish w f) = refl
same_worker k (event.Answer w g) = refl
same_worker k (event.End w e) = refl

-- nothing is behind a list that is as long with it
abbrev tail : {A : Type 0} → List A → List A
tail [] = []
tail (y ∷ rest) = rest

nothing_behind : {A : Type 0} (xs ys : List A) → xs ++ ys ≡ xs → ys ≡ []
nothing_behind [] ys same = same
nothing_behind (x ∷ xs) ys same = nothing_behind xs ys (ap tail same)

-- entries of which none is a worker's are others'
others_are : (k : ℕ) (rest : List RunEntry) → entries_of role k rest ≡ [] → AreOthers k rest
others_are k [] none = refl
others_are k (e ∷ rest) none = by (turns.is_of k (role e)) refl none (others_are k rest)
  where
    by : (b : Bool) → turns.is_of k (role e) ≡ b → (if b then e ∷ entries_of role k rest else entries_of role k rest) ≡ [] → (entries_of role k rest ≡ [] → AreOthers k rest) → AreOthers k (e ∷ rest)
    by true is some again = absurd (not_nil e (entries_of role k rest) some)
    by false is rest_none again = and_is (not (is_of k e.event)) (list_all (λ (x : RunEntry). not (is_of k x.event)) rest) (ap not (sym (same_worker k e.event) ∙ is)) (again rest_none)

-- where a longer log has no more entries of a worker, what came behind is others'
pub behind : (k : ℕ) (seen rest : List RunEntry) → entries_of role k (seen ++ rest) ≡ entries_of role k seen → AreOthers k rest
behind k seen rest same = others_are k rest (nothing_behind (entries_of role k seen) (entries_of role k rest) (sym (filter-append (λ (e : RunEntry). turns.is_of k (role e)) seen rest) ∙ same))

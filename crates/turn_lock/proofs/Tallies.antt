-- Logs of entries that only go on, as a tally has them.
use Rattle.std.proofs.Common.{◌≡◌, ◌⊎◌, inl, inr, ℕ, ◌<◌, ◌≤◌, Bool, true, false, nat_eq, List, [], ◌∷◌, ◌++◌, fold, Option, None, refl, ap, ◌∙◌, if◌then◌else◌}
use Rattle.turn_lock.specs.declared.kept.Role.TheVariants.{GoesOn}
use Rattle.std.proofs.lemmas.Bool.{cases_lt, eq-eqb}
use Rattle.std.proofs.lemmas.List.{append_assoc}
use Rattle.std.proofs.lemmas.List.Elements.{filter-append}
use Rattle.turn_lock.specs.declared.tally.Note.{Note}
use Rattle.turn_lock.specs.Noted.{notes_of}
use Rattle.turn_lock.specs.Turns.{Begins, is_of, open_of, opened_by}

pub never_open : {E : Type 0} (worker_of : E → ℕ) (k : ℕ) (log : List E) → open_of (λ e. GoesOn (worker_of e)) k log ≡ None
never_open worker_of k [] = refl
never_open worker_of k (e ∷ log) = ap (λ start. fold (λ was x. if is_of k (GoesOn (worker_of x)) then opened_by (GoesOn (worker_of x)) was else was) start log) (by (nat_eq (worker_of e) k)) ∙ never_open worker_of k log
  where
    by : (b : Bool) → ◌≡◌ {A = Option ℕ} (if b then None else None) None
    by true = refl
    by false = refl

-- a note more of a worker
pub notes_more : (k : ℕ) (log : List Note) (n : Note) → n.worker ≡ k → notes_of k (log ++ n ∷ []) ≡ notes_of k log ++ n ∷ []
notes_more k log n is = filter-append (λ (m : Note). nat_eq m.worker k) log (n ∷ []) ∙ ap (λ b. notes_of k log ++ (if b then n ∷ [] else [])) (eq-eqb n.worker k is)

-- what is so of a worker's notes in the log that was taken is so of those that were seen
pub noted_more : (k : ℕ) (seen log : List Note) (n : Note) → n.worker ≡ k → notes_of k log ≡ notes_of k seen → notes_of k (log ++ n ∷ []) ≡ notes_of k seen ++ n ∷ []
noted_more k seen log n is same = notes_more k log n is ∙ ap (λ ns. ns ++ n ∷ []) same

-- a log that begins another has of each worker the notes with which the other's begin
pub begins_notes : (k : ℕ) (front front_notes log : List Note) → Begins front_notes (notes_of k front) → Begins front log → Begins front_notes (notes_of k log)
begins_notes k front front_notes log it goes_on =
    (it.0 ++ notes_of k goes_on.0, ap (notes_of k) goes_on.1 ∙ filter-append (λ (m : Note). nat_eq m.worker k) front goes_on.0 ∙ ap (λ ns. ns ++ notes_of k goes_on.0) it.1 ∙ append_assoc front_notes it.0 (notes_of k goes_on.0))

-- what two passes have seen of their halves of a reach, the one that both were made has seen of the whole
pub of_both : (value : ℕ → List Note) (first middle reach : ℕ) (one two both : List Note)
    → ((k : ℕ) → first ≤ k → k < middle → Begins (value k) (notes_of k one)) → ((k : ℕ) → middle ≤ k → k < reach → Begins (value k) (notes_of k two))
    → Begins one both → Begins two both → (k : ℕ) → first ≤ k → k < reach → Begins (value k) (notes_of k both)
of_both value first middle reach one two both of_one of_two in_one in_two k low high = by (cases_lt k middle)
  where
    by : (k < middle) ⊎ (middle ≤ k) → Begins (value k) (notes_of k both)
    by (inl less) = begins_notes k one (value k) both (of_one k low less) in_one
    by (inr far) = begins_notes k two (value k) both (of_two k far high) in_two

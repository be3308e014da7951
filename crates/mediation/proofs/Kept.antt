-- Winners in their table.
use Rattle.std.proofs.Common.{◌≡◌, ◌≤◌, ◌<◌, ◌+◌, arith, length-append, ℕ, Bool, true, false, ◌||◌, List, [], ◌∷◌, ◌++◌, length, cond, nat_lt, Option, Some, None, is_some, slice_get, IfSome, refl, sym, ap, subst, ◌∙◌, if◌then◌else◌}
use Rattle.std.specs.Prelude.{find}
use Rattle.std.specs.List.{list_any, position_or_len}
use Rattle.std.proofs.lemmas.Bool.{false≢true}
use Rattle.std.proofs.lemmas.List.Folds.{find_at}
use Rattle.indexmap.specs.IndexSet.{insert_key}
use Rattle.model_merge.specs.Keyed.{same_key}
use Rattle.mvn_base.specs.declared.key.Key.{Key}
use Rattle.mediation.specs.declared.winner.Winner.{Winner}
use Rattle.mediation.specs.Rows.{place_of, row_of}
use Rattle.mediation.specs.Libraries.{most_winners}

-- where a test has a first place, what it finds stands there
found_there : (p : Winner → Bool) (rows : List Winner) (b : Bool) → IfSome (cond b (Some (position_or_len p rows)) None) (λ i. slice_get rows i ≡ find p rows)
found_there p rows true = sym (find_at p rows)
found_there p rows false = record {}

-- at the place of a key stands the winner of the key
pub place_is : (rows : List Winner) (key : Key) (found : Option ℕ) → found ≡ place_of rows key → IfSome found (λ i. slice_get rows i ≡ row_of rows key)
place_is rows key found is =
    subst (λ o. IfSome o (λ i. slice_get rows i ≡ row_of rows key)) (sym is)
    (found_there (λ w. same_key key w.edge.key) rows (nat_lt (position_or_len (λ w. same_key key w.edge.key) rows) (length rows)))

-- what finds nothing passes nowhere
none_any : (p : Winner → Bool) (rows : List Winner) → find p rows ≡ None → list_any p rows ≡ false
none_any p [] none = refl
none_any p (w ∷ rows) none = by (p w) refl (none_any p rows)
  where
    by : (b : Bool) → p w ≡ b → (find p rows ≡ None → list_any p rows ≡ false) → list_any p (w ∷ rows) ≡ false
    by true s further = absurd (false≢true (sym (ap is_some none) ∙ ap (λ b. is_some (if b then Some w else find p rows)) s))
    by false s further =
        ap (λ b. b || list_any p rows) s
        ∙ further (sym (ap (λ b. if b then Some w else find p rows) s) ∙ none)

-- a winner more, of a key that has none, stands last
pub put_rows : (rows after : List Winner) (w : Winner) → row_of rows w.edge.key ≡ None → after ≡ insert_key (λ a b. same_key a.edge.key b.edge.key) rows w → after ≡ rows ++ w ∷ []
put_rows rows after w none is =
    is ∙ ap (λ b. if b then rows else rows ++ w ∷ []) (none_any (λ r. same_key w.edge.key r.edge.key) rows none)

-- and there are no more than there may be
pub put_few : (rows after : List Winner) (w : Winner) → row_of rows w.edge.key ≡ None → length rows < most_winners → after ≡ insert_key (λ a b. same_key a.edge.key b.edge.key) rows w → length after ≤ most_winners
put_few rows after w none room is = few (length after) (ap length (put_rows rows after w none is) ∙ length-append rows (w ∷ []))
  where
    few : (n : ℕ) → n ≡ length rows + length (w ∷ []) → n ≤ most_winners
    few n is = omega (arith, room)

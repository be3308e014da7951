-- Who holds a name after one is taken, and after one is freed.
use Rattle.std.proofs.Common.{◌≡◌, ℕ, zero, suc, ◌⊎◌, inl, inr, true, List, [], ◌∷◌, set, Option, Some, None, is_some, unwrap_or, slice_get, refl, arith, ap}
use Rattle.std.proofs.lemmas.Bool.{false≢true}
use Rattle.build_core.specs.declared.mode.Mode.{Mode}
use Rattle.build_core.specs.Locks.{hold_in}

abbrev pub row_in : List (List (Option Mode)) → ℕ → List (Option Mode)
row_in rows name = unwrap_or (slice_get rows name) []

set_holds : (row : List (Option Mode)) (w v : ℕ) (mode : Mode) → is_some (hold_in (set row w (Some mode)) v) ≡ true → (v ≡ w) ⊎ (is_some (hold_in row v) ≡ true)
set_holds [] w v mode is = inr is
set_holds (x ∷ row) zero zero mode is = inl refl
set_holds (x ∷ row) zero (suc v) mode is = inr is
set_holds (x ∷ row) (suc w) zero mode is = inr is
set_holds (x ∷ row) (suc w) (suc v) mode is = by (set_holds row w v mode is)
  where
    by : (v ≡ w) ⊎ (is_some (hold_in row v) ≡ true) → (suc v ≡ suc w) ⊎ (is_some (hold_in row v) ≡ true)
    by (inl e) = inl (ap suc e)
    by (inr h) = inr h

pub take_holds : (rows : List (List (Option Mode))) (n w k v : ℕ) (mode : Mode) → is_some (hold_in (row_in (set rows n (set (row_in rows n) w (Some mode))) k) v) ≡ true → ((k ≡ n) × (v ≡ w)) ⊎ (is_some (hold_in (row_in rows k) v) ≡ true)
take_holds [] n w k v mode is = inr is
take_holds (r ∷ rows) zero w zero v mode is = by (set_holds r w v mode is)
  where
    by : (v ≡ w) ⊎ (is_some (hold_in r v) ≡ true) → ((zero ≡ zero) × (v ≡ w)) ⊎ (is_some (hold_in r v) ≡ true)
    by (inl e) = inl (refl, e)
    by (inr h) = inr h
take_holds (r ∷ rows) zero w (suc k) v mode is = inr is
take_holds (r ∷ rows) (suc n) w zero v mode is = inr is
take_holds (r ∷ rows) (suc n) w (suc k) v mode is = by (take_holds rows n w k v mode is)
  where
    by : ((k ≡ n) × (v ≡ w)) ⊎ (is_some (hold_in (row_in rows k) v) ≡ true) → ((suc k ≡ suc n) × (v ≡ w)) ⊎ (is_some (hold_in (row_in rows k) v) ≡ true)
    by (inl e) = inl (ap suc e.0, e.1)
    by (inr h) = inr h

-- ---- and after one is freed

no_hold : (v : ℕ) → is_some (hold_in [] v) ≡ true → ⊥
no_hold zero is = false≢true is
no_hold (suc v) is = false≢true is

clear_holds : (row : List (Option Mode)) (w v : ℕ) → is_some (hold_in (set row w None) v) ≡ true → ((v ≡ w) → ⊥) × (is_some (hold_in row v) ≡ true)
clear_holds [] w v is = absurd (no_hold v is)
clear_holds (x ∷ row) zero zero is = absurd (false≢true is)
clear_holds (x ∷ row) zero (suc v) is = (λ e. absurd (omega (arith, e)), is)
clear_holds (x ∷ row) (suc w) zero is = (λ e. absurd (omega (arith, e)), is)
clear_holds (x ∷ row) (suc w) (suc v) is = by (clear_holds row w v is)
  where
    by : ((v ≡ w) → ⊥) × (is_some (hold_in row v) ≡ true) → ((suc v ≡ suc w) → ⊥) × (is_some (hold_in row v) ≡ true)
    by h = (λ e. h.0 (omega (arith, e)), h.1)

pub free_holds : (rows : List (List (Option Mode))) (n w k v : ℕ) → is_some (hold_in (row_in (set rows n (set (row_in rows n) w None)) k) v) ≡ true → (((k ≡ n) → (v ≡ w) → ⊥) × (is_some (hold_in (row_in rows k) v) ≡ true))
free_holds [] n w k v is = absurd (no_row k v is)
  where
    no_row : (k v : ℕ) → is_some (hold_in (row_in [] k) v) ≡ true → ⊥
    no_row zero v is = no_hold v is
    no_row (suc k) v is = no_hold v is
free_holds (r ∷ rows) zero w zero v is = by (clear_holds r w v is)
  where
    by : ((v ≡ w) → ⊥) × (is_some (hold_in r v) ≡ true) → (((zero ≡ zero) → (v ≡ w) → ⊥) × (is_some (hold_in r v) ≡ true))
    by h = (λ e f. h.0 f, h.1)
free_holds (r ∷ rows) zero w (suc k) v is = (λ e. absurd (omega (arith, e)), is)
free_holds (r ∷ rows) (suc n) w zero v is = (λ e. absurd (omega (arith, e)), is)
free_holds (r ∷ rows) (suc n) w (suc k) v is = by (free_holds rows n w k v is)
  where
    by : (((k ≡ n) → (v ≡ w) → ⊥) × (is_some (hold_in (row_in rows k) v) ≡ true)) → (((suc k ≡ suc n) → (v ≡ w) → ⊥) × (is_some (hold_in (row_in rows k) v) ≡ true))
    by h = (λ e f. h.0 (omega (arith, e)) f, h.1)

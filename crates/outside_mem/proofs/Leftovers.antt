-- Pieces that a stopped run has left, by number.
use Rattle.std.proofs.Common.{◌≡◌, ℕ, zero, suc, ◌+◌, Bool, true, false, if◌then◌else◌, T, List, [], ◌∷◌, take, drop, Ordering, Option, Some, None, refl, sym, ap, subst, ◌∙◌, arith}
use Rattle.std.specs.List.{slice_get}
use Rattle.std.specs.Option.{option_map}
use Rattle.std.specs.declared.cmp.Ordering.TheVariants.{Less, Equal, Greater}
use Rattle.std.specs.Ordering.{nat_cmp, is_eq}
use Rattle.std.specs.BTreeMap.{is_at}
use Rattle.std.specs.Cmp.{eq_by_cmp_equiv, nat_cmp_total}
use Rattle.std.specs.FinMap.{nat_cmp-IsAntisymmetric}
use Rattle.std.specs.FinMap as finite
use Rattle.mvn_outside.proofs.NumberMaps.{value_of, mapped, get_value, value_of-mapped}
use Rattle.outside_mem.specs.declared.pieces.Piece.{Piece}
use Rattle.outside_mem.specs.Pieces.{leftover, sealed_of, bytes_of}

module _ {A : Type 0} where
  -- the last of the first so many
  at_end : (list : List A) (number : ℕ) (x : A) → slice_get list number ≡ Some x → slice_get (take (suc number) list) number ≡ Some x
  at_end [] number x h = cc
  at_end (y ∷ ys) zero x h = h
  at_end (y ∷ ys) (suc number) x h = at_end ys number x h

  -- at every other place one more changes nothing
  at_others : (list : List A) (number n : ℕ) → (number ≡ n → T false) → slice_get (take (suc number) list) n ≡ slice_get (take number list) n
  at_others [] zero n other = refl
  at_others [] (suc number) n other = refl
  at_others (y ∷ ys) zero zero other = absurd (other refl)
  at_others (y ∷ ys) zero (suc n) other = refl
  at_others (y ∷ ys) (suc number) zero other = refl
  at_others (y ∷ ys) (suc number) (suc n) other = at_others ys number n (λ e. other (ap suc e))

  -- what the rest begins with stands at its place
  pub first_of_rest : (list rest : List A) (number : ℕ) (x : A) → drop number list ≡ x ∷ rest → slice_get list number ≡ Some x
  first_of_rest [] rest zero x h = cc
  first_of_rest [] rest (suc number) x h = cc
  first_of_rest (y ∷ ys) rest zero x h = cc
  first_of_rest (y ∷ ys) rest (suc number) x h = first_of_rest ys rest number x h

  next_rest : (list rest : List A) (number : ℕ) (x : A) → drop number list ≡ x ∷ rest → rest ≡ drop (suc number) list
  next_rest [] rest zero x h = cc
  next_rest [] rest (suc number) x h = cc
  next_rest (y ∷ ys) rest zero x h = cc
  next_rest (y ∷ ys) rest (suc number) x h = next_rest ys rest number x h

  pub rest_after : (list rest : List A) (number : ℕ) (x : A) → drop number list ≡ x ∷ rest → rest ≡ drop (number + 1) list
  rest_after list rest number x h =
      let e : suc number ≡ number + 1 = omega arith in
      subst (λ n. rest ≡ drop n list) e (next_rest list rest number x h)

  -- where nothing is left, the first so many are all
  pub past_end : (list : List A) (number : ℕ) → drop number list ≡ [] → take number list ≡ list
  past_end [] zero h = refl
  past_end [] (suc number) h = refl
  past_end (y ∷ ys) zero h = cc
  past_end (y ∷ ys) (suc number) h = ap (λ l. y ∷ l) (past_end ys number h)

by_equal : (r : Ordering) → is_eq r ≡ true → r ≡ Equal
by_equal Less e = cc
by_equal Equal e = refl
by_equal Greater e = cc

-- a number is found at itself alone
same_number : (a b : ℕ) → is_at (nat_cmp a) b ≡ true → a ≡ b
same_number a b e = nat_cmp-IsAntisymmetric a b (by_equal (nat_cmp a b) e)

not_other : (a b : ℕ) → is_at (nat_cmp a) b ≡ false → a ≡ b → T false
not_other a b other same =
    let here : is_at (nat_cmp a) b ≡ true = subst (λ n. is_at (nat_cmp a) n ≡ true) same ((eq_by_cmp_equiv nat_cmp_total).refl a) in
    subst T (sym here ∙ other) tt

module _ {A B : Type 0} (f : A → B) where
  -- one piece more
  pub one_piece : (list : List A) (number : ℕ) (x : A) → slice_get list number ≡ Some x → (n : ℕ)
      → (if is_at (nat_cmp number) n then Some (f x) else option_map f (slice_get (take number list) n)) ≡ option_map f (slice_get (take (number + 1) list) n)
  one_piece list number x h n =
      let e : suc number ≡ number + 1 = omega arith in
      let by : (b : Bool) → is_at (nat_cmp number) n ≡ b → (if b then Some (f x) else option_map f (slice_get (take number list) n)) ≡ option_map f (slice_get (take (suc number) list) n) = λ b. elim b as (λ b. is_at (nat_cmp number) n ≡ b → (if b then Some (f x) else option_map f (slice_get (take number list) n)) ≡ option_map f (slice_get (take (suc number) list) n)) [
        | true ↦ λ same. subst (λ n. Some (f x) ≡ option_map f (slice_get (take (suc number) list) n)) (same_number number n same) (sym (ap (option_map f) (at_end list number x h)))
        | false ↦ λ other. ap (option_map f) (sym (at_others list number n (not_other number n other)))
      ] in
      by _ refl ∙ ap (λ k. option_map f (slice_get (take k list) n)) e

-- an option changed twice
twice : {A B C : Type 0} (f : B → C) (g : A → B) (o : Option A) → option_map f (option_map g o) ≡ option_map (λ x. f (g x)) o
twice f g None = refl
twice f g (Some x) = refl

-- the pieces of a list are sealed
pub sealed_leftovers : (es : List (ℕ × Piece)) (list : List (List ℕ)) → ((n : ℕ) → value_of es n ≡ option_map leftover (slice_get list n)) → (n : ℕ) → finite.get (sealed_of es) n ≡ option_map (λ bytes. true) (slice_get list n)
sealed_leftovers es list made n =
    let sealed = λ (p : Piece). p.sealed in
    get_value (mapped sealed es) n ∙ value_of-mapped sealed es n ∙ ap (option_map sealed) (made n) ∙ twice sealed leftover (slice_get list n)

same_option : {A : Type 0} (o : Option A) → option_map (λ x. x) o ≡ o
same_option None = refl
same_option (Some x) = refl

-- and their bytes are the list's
pub bytes_leftovers : (es : List (ℕ × Piece)) (list : List (List ℕ)) → ((n : ℕ) → value_of es n ≡ option_map leftover (slice_get list n)) → (n : ℕ) → finite.get (bytes_of es) n ≡ slice_get list n
bytes_leftovers es list made n =
    let bytes = λ (p : Piece). p.bytes in
    get_value (mapped bytes es) n ∙ value_of-mapped bytes es n ∙ ap (option_map bytes) (made n) ∙ twice bytes leftover (slice_get list n) ∙ same_option (slice_get list n)

-- pieces of all
pub all_made : (es : List (ℕ × Piece)) (list : List (List ℕ)) (number : ℕ) → ((n : ℕ) → value_of es n ≡ option_map leftover (slice_get (take number list) n)) → drop number list ≡ [] → (n : ℕ) → value_of es n ≡ option_map leftover (slice_get list n)
all_made es list number made e n = made n ∙ ap (λ l. option_map leftover (slice_get l n)) (past_end list number e)

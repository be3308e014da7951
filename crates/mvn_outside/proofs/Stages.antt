-- A piece that is begun, written and sealed, in the maps that an area tells.
use Rattle.std.proofs.Common.{◌≡◌, ℕ, ◌+◌, Bool, true, false, List, [], ◌++◌, Option, Some, None, Ordering, Less, Equal, Greater, is_eq, cond, refl, sym, ap, ◌∙◌, take, drop, unwrap_or, is_some, ◌⊎◌, inl, inr}
use Rattle.std.proofs.Math.Seq.{take-add}
use Rattle.std.specs.Ordering.{nat_cmp, eq_by_cmp}
use Rattle.std.specs.Cmp.{nat_cmp_total, eq_by_cmp_equiv}
use Rattle.std.specs.FinMap.{FinMap, get, insert, get-insert, same_map, nat_cmp-IsAntisymmetric}
use Rattle.mvn_outside.specs.Pieces.{Pieces, Contents, extended}
use Rattle.mvn_outside.specs.Staged.{staged, KeepsPieces}

cond_twice : {X : Type 0} (t : Bool) (x y z : Option X) → cond t x (cond t y z) ≡ cond t x z
cond_twice true x y z = refl
cond_twice false x y z = refl

-- of two values put at one key the later counts
pub insert_twice : {X : Type 0} (m : FinMap nat_cmp X) (k : ℕ) (a b : X) → insert (insert m k a) k b ≡ insert m k b
insert_twice m k a b = same_map nat_cmp_total nat_cmp-IsAntisymmetric _ _ (λ q.
    get-insert nat_cmp_total (insert m k a) k b q ∙ ap (cond (eq_by_cmp nat_cmp q k) (Some b)) (get-insert nat_cmp_total m k a q)
    ∙ cond_twice (eq_by_cmp nat_cmp q k) (Some b) (Some a) (get m q) ∙ sym (get-insert nat_cmp_total m k b q))

pub put_there : {X : Type 0} (m : FinMap nat_cmp X) (k : ℕ) (v : X) → get (insert m k v) k ≡ Some v
put_there m k v = get-insert nat_cmp_total m k v k ∙ ap (λ b. cond b (Some v) (get m k)) ((eq_by_cmp_equiv nat_cmp_total).refl k)

extend_put : (m : Contents) (k : ℕ) (a more : List ℕ) → insert (insert m k a) k (unwrap_or (get (insert m k a) k) [] ++ more) ≡ insert m k (a ++ more)
extend_put m k a more = ap (λ o. insert (insert m k a) k (unwrap_or o [] ++ more)) (put_there m k a) ∙ insert_twice m k a (a ++ more)

-- a part more of the bytes
pub one_part_more : (told : Option Contents) (piece done count : ℕ) (bytes : List ℕ) → extended (staged told piece (take done bytes)) piece (take count (drop done bytes)) ≡ staged told piece (take (done + count) bytes)
one_part_more None piece done count bytes = refl
one_part_more (Some m) piece done count bytes = ap Some (extend_put m piece (take done bytes) (take count (drop done bytes)) ∙ ap (insert m piece) (sym (take-add done count bytes)))

-- what a map with one more has at a key
by_key : (o now : Option Bool) (t : Bool) → (t ≡ true → o ≡ None) → now ≡ cond t (Some false) o → (now ≡ o) ⊎ ((o ≡ None) × (now ≡ Some false))
by_key o now true fresh e = inr (fresh refl, e)
by_key o now false fresh e = inl e

equal_if : (r : Ordering) → is_eq r ≡ true → r ≡ Equal
equal_if Less e = cc
equal_if Equal e = refl
equal_if Greater e = cc

same_key : (m : Pieces) (k q : ℕ) → get m k ≡ None → eq_by_cmp nat_cmp q k ≡ true → get m q ≡ None
same_key m k q fresh same = ap (get m) (nat_cmp-IsAntisymmetric q k (equal_if (nat_cmp q k) same)) ∙ fresh

-- a new open piece leaves all others
pub keeps_pieces : (m n : Pieces) (k : ℕ) → get m k ≡ None → n ≡ insert m k false → KeepsPieces m n
keeps_pieces m n k fresh is = λ q. by_key (get m q) (get n q) (eq_by_cmp nat_cmp q k) (same_key m k q fresh) (ap (λ x. get x q) is ∙ get-insert nat_cmp_total m k false q)

-- an area that tells still tells with a piece staged
pub staged_tells : (told : Option Contents) (piece : ℕ) (bytes : List ℕ) → is_some (staged told piece bytes) ≡ is_some told
staged_tells None piece bytes = refl
staged_tells (Some m) piece bytes = refl

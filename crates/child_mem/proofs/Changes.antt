-- Changing the record at a place, against writing to a slice.
use Rattle.std.proofs.Common.{◌≡◌, ℕ, zero, suc, ◌<◌, ◌≤◌, ◌+◌, List, [], ◌∷◌, length, IfSome, refl, ap, ◌∙◌, arith}
use Rattle.std.specs.Prelude.{slice_get, slice_set, slice_index_or}
use Rattle.children.specs.declared.spawner.ChildRecord.{ChildRecord}
use Rattle.children.specs.Children.{change_at, read_on}

-- a change is a write of the changed item
change_set : {A : Type 0} (f : A → A) (d : A) (n : ℕ) (xs : List A) → n < length xs → slice_set xs n (f (slice_index_or xs n d)) ≡ change_at f n xs
change_set f d n [] low = absurd (omega (arith, low))
change_set f d zero (x ∷ xs) low = refl
change_set f d (suc n) (x ∷ xs) low = ap (λ ys. x ∷ ys) (change_set f d n xs (omega (arith, low)))

pub changed_there : {A : Type 0} (f : A → A) (d y : A) (n : ℕ) (xs : List A) → n < length xs → y ≡ f (slice_index_or xs n d) → slice_set xs n y ≡ change_at f n xs
changed_there f d y n xs low e = ap (λ z. slice_set xs n z) e ∙ change_set f d n xs low

-- an item that is written where it stood
same_set : {A : Type 0} (d : A) (n : ℕ) (xs : List A) → n < length xs → slice_set xs n (slice_index_or xs n d) ≡ xs
same_set d n [] low = absurd (omega (arith, low))
same_set d zero (x ∷ xs) low = refl
same_set d (suc n) (x ∷ xs) low = ap (λ ys. x ∷ ys) (same_set d n xs (omega (arith, low)))

pub kept_there : {A : Type 0} (d y : A) (n : ℕ) (xs : List A) → n < length xs → y ≡ slice_index_or xs n d → slice_set xs n y ≡ xs
kept_there d y n xs low e = ap (λ z. slice_set xs n z) e ∙ same_set d n xs low

-- behind the last item there is nothing to change
pub change_beyond : {A : Type 0} (f : A → A) (n : ℕ) (xs : List A) → length xs ≤ n → xs ≡ change_at f n xs
change_beyond f n [] past = refl
change_beyond f zero (x ∷ xs) past = absurd (omega (arith, past))
change_beyond f (suc n) (x ∷ xs) past = ap (λ ys. x ∷ ys) (change_beyond f n xs (omega (arith, past)))

-- an item that is there is found, and none behind the last
pub found_there : {A : Type 0} (P : A → Type 0) (d : A) (n : ℕ) (xs : List A) → n < length xs → P (slice_index_or xs n d) → IfSome (slice_get xs n) P
found_there P d n [] low p = absurd (omega (arith, low))
found_there P d zero (x ∷ xs) low p = p
found_there P d (suc n) (x ∷ xs) low p = found_there P d n xs (omega (arith, low)) p

pub found_beyond : {A : Type 0} (P : A → Type 0) (n : ℕ) (xs : List A) → length xs ≤ n → IfSome (slice_get xs n) P
found_beyond P n [] past = tt
found_beyond P zero (x ∷ xs) past = absurd (omega (arith, past))
found_beyond P (suc n) (x ∷ xs) past = found_beyond P n xs (omega (arith, past))

-- a child of whose output nothing was read
pub read_nothing_on : (child : ChildRecord) → child ≡ read_on 0 child
read_nothing_on child =
    let same : child.taken ≡ child.taken + 0 = omega arith in
    ap (λ n. record child { taken = n }) same

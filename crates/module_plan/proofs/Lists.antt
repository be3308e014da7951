-- Laws of lists and places.
use Rattle.std.proofs.Common.{◌≡◌, ℕ, ◌+◌, Bool, true, false, cond, not, nat_lt, List, [], ◌∷◌, ◌++◌, length, Option, Some, None, refl, sym, ap, ◌∙◌, if◌then◌else◌}

-- an item that may be left out, before others
pub some_then : {A : Type 0} (b : Bool) (x y : A) (ys : List A) → (x ∷ (if b then y ∷ [] else [])) ++ ys ≡ x ∷ (if b then y ∷ ys else ys)
some_then true x y ys = refl
some_then false x y ys = refl

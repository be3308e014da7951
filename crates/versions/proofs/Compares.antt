-- Lists that are level as far as both go compare by their lengths.
use Rattle.std.proofs.Common.{◌≡◌, ℕ, min, List, [], ◌∷◌, map, length, drop, Ordering, refl, ◌∙◌, length-drop, arith}
use Rattle.std.proofs.lemmas.Bool.Decides.{nat_tests}
use Rattle.std.specs.Ordering.{nat_cmp}
use Rattle.std.specs.Cmp.Lexicographic.{slice_cmp}
use Rattle.versions.specs.declared.cut.Cut.{Cut}
use Rattle.versions.specs.Tokens.{Token}

one_ended : (R : Token → Token → Ordering) (f g : Cut → Token) (xs ys : List Cut) → min (length xs) (length ys) ≡ 0 → slice_cmp R (map f xs) (map g ys) ≡ nat_cmp (length xs) (length ys)
one_ended R f g [] [] e = refl
one_ended R f g [] (y ∷ ys) e = grind (arith, nat_tests)
one_ended R f g (x ∷ xs) [] e = grind (arith, nat_tests)
one_ended R f g (x ∷ xs) (y ∷ ys) e = grind (arith, e)

pub level_end : (R : Token → Token → Ordering) (f g : Cut → Token) (xs ys : List Cut) (n : ℕ) → n ≡ min (length xs) (length ys) → slice_cmp R (map f (drop n xs)) (map g (drop n ys)) ≡ nat_cmp (length xs) (length ys)
level_end R f g xs ys n e =
    one_ended R f g (drop n xs) (drop n ys) (grind (arith, e, length-drop n xs, length-drop n ys)) ∙ grind (arith, nat_tests, e, length-drop n xs, length-drop n ys)

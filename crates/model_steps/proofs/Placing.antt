-- A folder that was placed stays as it is.
use Rattle.std.proofs.Common.{◌≡◌, ℕ, Bool, true, false, ◌||◌, List, [], ◌∷◌, ◌++◌, length, take, drop, Option, Some, None, refl, sym, ap, ◌∙◌, if◌then◌else◌}
use Rattle.std.proofs.lemmas.List.{take_at}
use Rattle.std.specs.Prelude.{codes}
use Rattle.std.specs.Cmp.Lexicographic.{nat_list_eq_equiv}
use Rattle.std.specs.Option.{is_some}
use Rattle.std.specs.Str.{bytes_eq}
use Rattle.mvn_base.specs.Paths.{joined}
use Rattle.profiles.specs.Lookups.{behind}
use Rattle.model_steps.specs.Folders.{from_basedir, is_absolute, placed, stays}

-- a text begins with its front
is_behind : (front rest : List ℕ) → is_some (behind front (front ++ rest)) ≡ true
is_behind front rest = by (bytes_eq (take (length front) (front ++ rest)) front) (ap (λ t. bytes_eq t front) (take_at front rest (length front) refl) ∙ nat_list_eq_equiv.refl front)
  where
    by : (b : Bool) → b ≡ true → is_some (if b then Some (drop (length front) (front ++ rest)) else None) ≡ true
    by true e = refl
    by false e = cc

slash_apart : (front rest : List ℕ) → (front ++ codes "/") ++ rest ≡ front ++ 47 ∷ rest
slash_apart [] rest = refl
slash_apart (b ∷ front) rest = ap (λ t. b ∷ t) (slash_apart front rest)

or_last : (a b c : Bool) → c ≡ true → (a || b || c) ≡ true
or_last true b c e = refl
or_last false true c e = refl
or_last false false c e = e

below_stays : (basedir rest : List ℕ) → stays basedir (basedir ++ 47 ∷ rest) ≡ true
below_stays basedir rest =
    or_last (is_absolute (basedir ++ 47 ∷ rest)) (bytes_eq (basedir ++ 47 ∷ rest) basedir) (is_some (behind (basedir ++ codes "/") (basedir ++ 47 ∷ rest)))
    (ap (λ t. is_some (behind (basedir ++ codes "/") t)) (sym (slash_apart basedir rest)) ∙ is_behind (basedir ++ codes "/") rest)

-- what is followed from the basedir on is absolute, or below the basedir
from_stays : (basedir folder : List ℕ) → stays basedir (from_basedir basedir folder) ≡ true
from_stays basedir folder = by (is_absolute basedir)
  where
    by : (b : Bool) → stays basedir (if b then 47 ∷ joined basedir folder else basedir ++ 47 ∷ joined [] folder) ≡ true
    by true = refl
    by false = below_stays basedir (joined [] folder)

if_true : (b : Bool) (x y : List ℕ) → b ≡ true → (if b then x else y) ≡ x
if_true true x y e = refl
if_true false x y e = cc

pub placed_twice : (basedir folder : List ℕ) → placed basedir (placed basedir folder) ≡ placed basedir folder
unfolding placed
placed_twice basedir folder = by (stays basedir folder) refl
  where
    by : (b : Bool) → stays basedir folder ≡ b → (if stays basedir (if b then folder else from_basedir basedir folder) then (if b then folder else from_basedir basedir folder) else from_basedir basedir (if b then folder else from_basedir basedir folder)) ≡ (if b then folder else from_basedir basedir folder)
    by true e = if_true (stays basedir folder) folder (from_basedir basedir folder) e
    by false e = if_true (stays basedir (from_basedir basedir folder)) (from_basedir basedir folder) (from_basedir basedir (from_basedir basedir folder)) (from_stays basedir folder)

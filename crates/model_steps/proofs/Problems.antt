-- The first problem in a list, one item at a time.
use Rattle.std.proofs.Common.{◌≡◌, ℕ, ◌+◌, ◌<◌, List, [], ◌∷◌, drop, get_or, length, Option, None, Some, refl, sym, ap, ◌∙◌}
use Rattle.std.proofs.lemmas.List.{drop_more}
use Rattle.std.specs.Option.{option_or}
use Rattle.model_types.specs.declared.dependency.Dependency.{Dependency}
use Rattle.model_steps.specs.Validation.{first_problem}
use Rattle.model_steps.specs.declared.problem.Problem.{Problem}

module _ (test : Dependency → Option Problem) (items : List Dependency) (i : ℕ) (d : Dependency) where
  -- the rest of a list has the problem of its first item, or else that of the further ones
  rest_at : i < length items → d ≡ get_or items i d → first_problem test (drop i items) ≡ option_or (test d) (first_problem test (drop (i + 1) items))
  rest_at low is = ap (first_problem test) (drop_more items i d low) ∙ ap (λ x. option_or (test x) (first_problem test (drop (i + 1) items))) (sym is)

  -- an item that has a problem gives the first one of the list
  pub here : (found : Problem) (whole : Option Problem) → i < length items → d ≡ get_or items i d → first_problem test (drop i items) ≡ whole → Some found ≡ test d → Some found ≡ whole
  here found whole low is so there = ap (λ p. option_or p (first_problem test (drop (i + 1) items))) there ∙ sym (rest_at low is) ∙ so

  -- and after one that has none the first one is that of the further items
  pub later : (whole : Option Problem) → i < length items → d ≡ get_or items i d → first_problem test (drop i items) ≡ whole → None ≡ test d → first_problem test (drop (i + 1) items) ≡ whole
  later whole low is so none = ap (λ p. option_or p (first_problem test (drop (i + 1) items))) none ∙ sym (rest_at low is) ∙ so

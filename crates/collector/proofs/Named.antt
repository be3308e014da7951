-- A declaration is named by its two texts, or by `*` for either.
use Rattle.std.proofs.Common.{◌≡◌, ℕ, Bool, true, false, ◌&&◌, ◌||◌, List, [], ◌∷◌, codes, refl, sym, ap, ◌∙◌}
use Rattle.std.specs.List.{list_any}
use Rattle.std.specs.Str.{bytes_eq}
use Rattle.model_types.specs.declared.dependency.Exclusion.{Exclusion}
use Rattle.collector.specs.Nodes.{is_same, names}

-- the order of four tests counts for nothing
shuffled : (a b c d : Bool) → ((a || b) || (c || d)) ≡ ((a || c) || (b || d))
shuffled true true true d = refl
shuffled true true false d = refl
shuffled true false true d = refl
shuffled true false false d = refl
shuffled false true true d = refl
shuffled false true false d = refl
shuffled false false true d = refl
shuffled false false false d = refl

-- one of two tests is passed where the first is, or the second
either : (p q : Exclusion → Bool) (xs : List Exclusion) → list_any (λ e. p e || q e) xs ≡ (list_any p xs || list_any q xs)
either p q [] = refl
either p q (x ∷ xs) = ap (λ b. (p x || q x) || b) (either p q xs) ∙ shuffled (p x) (q x) (list_any p xs) (list_any q xs)

-- of two choices there are four ways
ways : (any_group group any_artifact artifact : Bool)
    → ((any_group || group) && (any_artifact || artifact)) ≡ ((group && artifact) || ((group && any_artifact) || ((any_group && artifact) || (any_group && any_artifact))))
ways true true true true = refl
ways true true true false = refl
ways true true false true = refl
ways true true false false = refl
ways true false true true = refl
ways true false true false = refl
ways true false false true = refl
ways true false false false = refl
ways false true true true = refl
ways false true true false = refl
ways false true false true = refl
ways false true false false = refl
ways false false true true = refl
ways false false true false = refl
ways false false false true = refl
ways false false false false = refl

-- so four look-ups tell whether some exclusion names a group and an artifact
four : (group artifact : List ℕ) (xs : List Exclusion)
    → list_any (names group artifact) xs
    ≡ (list_any (is_same group artifact) xs || (list_any (is_same group (codes "*")) xs || (list_any (is_same (codes "*") artifact) xs || list_any (is_same (codes "*") (codes "*")) xs)))
four group artifact xs =
    let star = codes "*" in
    let one = is_same group artifact in
    let two = is_same group star in
    let three = is_same star artifact in
    let four = is_same star star in
    (λ i. list_any (λ e. ways (bytes_eq e.group star) (bytes_eq e.group group) (bytes_eq e.artifact star) (bytes_eq e.artifact artifact) i) xs)
    ∙ either one (λ e. two e || (three e || four e)) xs
    ∙ ap (λ b. list_any one xs || b) (either two (λ e. three e || four e) xs ∙ ap (λ b. list_any two xs || b) (either three four xs))

-- what four look-ups gave
pub named : (group artifact : List ℕ) (xs : List Exclusion) (a b c d : Bool) → a ≡ list_any (is_same group artifact) xs → b ≡ list_any (is_same group (codes "*")) xs
    → c ≡ list_any (is_same (codes "*") artifact) xs → d ≡ list_any (is_same (codes "*") (codes "*")) xs → (a || (b || (c || d))) ≡ list_any (names group artifact) xs
named group artifact xs a b c d first second third fourth = (λ i. first i || (second i || (third i || fourth i))) ∙ sym (four group artifact xs)

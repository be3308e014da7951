-- An element that is changed in a list of elements.
use Rattle.std.proofs.Common.{◌≡◌, ℕ, zero, suc, true, ◌<◌, ◌≤◌, List, [], ◌∷◌, length, get_or, set, refl, ap, ◌∙◌, arith}
use Rattle.std.specs.Str.{bytes_eq}
use Rattle.std.proofs.lemmas.Slice.Eq.{bytes_eq-Decides}
use Rattle.pom_text.specs.declared.node.Node.{Node}
use Rattle.pom_text.specs.Tree.{changed}

-- names that are found equal are one
pub same_name : (name other : List ℕ) → bytes_eq name other ≡ true → name ≡ other
same_name name other same = (bytes_eq-Decides name other).0 same

pub set_changed : (f : Node → Node) (at : ℕ) (nodes : List Node) (old now : Node) → at < length nodes → old ≡ get_or nodes at old → now ≡ f old → set nodes at now ≡ changed f at nodes
set_changed f at [] old now low here is = absurd (omega (arith, low))
set_changed f zero (node ∷ nodes) old now low here is = ap (λ n. n ∷ nodes) (is ∙ ap f here)
set_changed f (suc at) (node ∷ nodes) old now low here is = ap (λ l. node ∷ l) (set_changed f at nodes old now (omega (arith, low)) here is)

pub not_changed : (f : Node → Node) (at : ℕ) (nodes : List Node) → length nodes ≤ at → changed f at nodes ≡ nodes
not_changed f at [] end = refl
not_changed f zero (node ∷ nodes) end = absurd (omega (arith, end))
not_changed f (suc at) (node ∷ nodes) end = ap (λ l. node ∷ l) (not_changed f at nodes (omega (arith, end)))

-- an item that is set to itself
pub set_same : (at : ℕ) (nodes : List Node) (old now : Node) → at < length nodes → old ≡ get_or nodes at old → now ≡ old → set nodes at now ≡ nodes
set_same at [] old now low here is = absurd (omega (arith, low))
set_same zero (node ∷ nodes) old now low here is = ap (λ n. n ∷ nodes) (is ∙ here)
set_same (suc at) (node ∷ nodes) old now low here is = ap (λ l. node ∷ l) (set_same at nodes old now (omega (arith, low)) here is)

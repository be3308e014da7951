-- Properties, one after another.
use Rattle.std.proofs.Common.{◌≡◌, ℕ, List, [], ◌∷◌, refl, ap, if◌then◌else◌}
use Rattle.std.specs.Str.{bytes_eq}
use Rattle.indexmap.specs.IndexMap.{insert_entry}
use Rattle.pom_text.specs.declared.node.Node.{Node}
use Rattle.pom_model.specs.Elements.{own_text}
use Rattle.pom_model.specs.AnyNames.{put_entry}

pub put_same : (entries : List (List ℕ × List ℕ)) (node : Node) → insert_entry bytes_eq entries node.name (own_text node) ≡ put_entry entries node
put_same [] node = refl
put_same (e ∷ entries) node = ap (λ l. if bytes_eq node.name e.0 then (e.0, own_text node) ∷ entries else e ∷ l) (put_same entries node)

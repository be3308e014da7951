-- What lacks nothing, whatever stands in it: no line of the table asks for an element there.
use Rattle.std.proofs.Common.{◌≡◌, ℕ, zero, suc, List, [], None, refl, sym, ap, ◌∙◌}
use Rattle.pom_text.specs.declared.node.Node.{Node}
use Rattle.pom_model.specs.declared.table.Kind.TheVariants as kinds
use Rattle.pom_model.specs.declared.table.Kind.{Kind}
use Rattle.pom_model.specs.Faults.{among, ended, fault_within, missing, or, version_fault}
use Rattle.pom_model.specs.Table.{kind_number, table}

-- a text with no element in it, so deep
leaf_within : (depth : ℕ) (nodes : List Node) (node : Node) → node.children ≡ [] → None ≡ fault_within depth nodes kinds.Leaf node
unfolding fault_within ended version_fault missing table kind_number
leaf_within zero nodes node none = refl
leaf_within (suc depth) nodes node none = sym (ap (λ ks. or (among (fault_within depth nodes) nodes kinds.Leaf [] ks) (ended nodes kinds.Leaf node)) none)

pub bare : (depth : ℕ) (nodes : List Node) (kind : Kind) (node : Node) → kind ≡ kinds.Leaf → node.children ≡ [] → None ≡ fault_within depth nodes kind node
bare depth nodes kind node leaf none = leaf_within depth nodes node none ∙ ap (λ k. fault_within depth nodes k node) (sym leaf)

-- A POM without a parent states its group and its version, or it is refused.
use Rattle.std.proofs.Common.{◌≡◌, ℕ, suc, Bool, true, false, not, ◌&&◌, List, [], ◌∷◌, Option, None, Some, Result, Ok, Err, refl, sym, ap, subst, ◌∙◌, if◌then◌else◌}
use Rattle.std.specs.Prelude.{codes, find, is_some, option_map, slice_get}
use Rattle.std.specs.Str.{bytes_eq}
use Rattle.mvn_base.specs.declared.refusal.PomId.{PomId}
use Rattle.mvn_base.specs.declared.refusal.Refusal.{Refusal}
use Rattle.mvn_base.specs.declared.rule.Rule.TheVariants.{MissingField}
use Rattle.model_types.specs.declared.model.RawModel.{RawModel}
use Rattle.pom_text.specs.Answers.{answer}
use Rattle.pom_text.specs.declared.node.Node.{Node}
use Rattle.pom_model.specs.Elements.{child, text_of}
use Rattle.pom_model.specs.Faults.{among, at_path, ended, fault_within, first_fault, is_alone, is_missing, missing, missing_name, or, root_fault, under, version_fault}
use Rattle.pom_model.specs.Fields.{coordinates, model, parent}
use Rattle.pom_model.specs.Raw.{raw, unless}
use Rattle.pom_model.specs.Table.{Row, kind_number, table}
use Rattle.pom_source.specs.Answers.{refused}
use Rattle.pom_source.specs.Chains.{bound, ok_is}
use Rattle.lineage.specs.Reading.{elements, read}
use Rattle.model_laws.specs.Lines.{is_stated}
use Rattle.model_laws.proofs.LinesOnce.{both_true}

unmapped : {A B : Type 0} (f : A → B) (o : Option A) → option_map f o ≡ None → o ≡ None
unmapped f (Some x) e = cc
unmapped f None e = refl

second_none : {A : Type 0} (a b : Option A) → or a b ≡ None → b ≡ None
second_none (Some x) b e = cc
second_none None b e = e

chosen : {A : Type 0} (b : Bool) (o : Option A) (x : A) → (if b then o else Some x) ≡ None → o ≡ None
chosen true o x e = e
chosen false o x e = cc

-- what isn't found first isn't found later
later : {A : Type 0} (test : A → Bool) (x : A) (xs : List A) → find test (x ∷ xs) ≡ None → (test x ≡ false) × (find test xs ≡ None)
later test x xs e = by (test x) refl e
  where
    by : (b : Bool) → test x ≡ b → (if b then Some x else find test xs) ≡ None → (test x ≡ false) × (find test xs ≡ None)
    by true is e = cc
    by false is e = (is, e)

third_fourth : {A : Type 0} (test : A → Bool) (a b c d : A) (rest : List A) → find test (a ∷ b ∷ c ∷ d ∷ rest) ≡ None → (test c ≡ false) × (test d ≡ false)
third_fourth test a b c d rest e =
    let one = later test a (b ∷ c ∷ d ∷ rest) e in
    let two = later test b (c ∷ d ∷ rest) one.1 in
    let three = later test c (d ∷ rest) two.1 in
    (three.0, (later test d rest three.1).0)

there : (alone : Bool) (o : Option (List ℕ)) → alone ≡ true → ((true && alone) && not (is_some o)) ≡ false → is_some o ≡ true
there true (Some x) is e = refl
there true None is e = cc
there false o is e = cc

-- what is refused in an element, one level at a time
within_is : (depth : ℕ) → fault_within (suc depth) ≡ (λ nodes kind node. or (among (fault_within depth nodes) nodes kind [] node.children) (ended nodes kind node))
unfolding fault_within
within_is depth = refl

top_level : 64 ≡ suc 63
top_level = refl

-- the first four lines of the table, and the rest
abbrev Lines : Type 0
Lines = (a : Row) × (b : Row) × (c : Row) × (d : Row) × (rest : List Row) × (table ≡ a ∷ b ∷ c ∷ d ∷ rest)

lines : Lines
unfolding table
lines = (_, _, _, _, _, refl)

-- a project that lacks nothing lacks neither the group nor the version
rows_there : (nodes : List Node) (root : Node) → missing nodes lines.0.under root ≡ None
    → (is_missing nodes lines.0.under root (is_alone nodes root) lines.2 ≡ false) × (is_missing nodes lines.0.under root (is_alone nodes root) lines.3 ≡ false)
unfolding missing
rows_there nodes root lacks =
    let test : Row → Bool = is_missing nodes lines.0.under root (is_alone nodes root) in
    let unnamed = unmapped (at_path MissingField) (missing_name table nodes lines.0.under root (is_alone nodes root)) lacks in
    let found = unmapped (λ (r : Row). r.name) (find test table) unnamed in
    third_fourth test lines.0 lines.1 lines.2 lines.3 lines.4 (ap (find test) (sym lines.5) ∙ found)

-- where an element ends, nothing is lacking
none_missing : (nodes : List Node) (root : Node) → ended nodes lines.0.under root ≡ None → missing nodes lines.0.under root ≡ None
unfolding ended
none_missing nodes root is = second_none (version_fault nodes lines.0.under root) (missing nodes lines.0.under root) is

none_ended : (nodes : List Node) (root : Node) → fault_within 64 nodes lines.0.under root ≡ None → ended nodes lines.0.under root ≡ None
none_ended nodes root is =
    let same = ap fault_within top_level ∙ within_is 63 in
    second_none (among (fault_within 63 nodes) nodes lines.0.under [] root.children) (ended nodes lines.0.under root) (sym (ap (λ f. f nodes lines.0.under root) same) ∙ is)

no_fault : (nodes : List Node) (root : Node) → root_fault nodes (Some root) ≡ None → fault_within 64 nodes lines.0.under root ≡ None
unfolding lines table
no_fault nodes root e =
    let o = option_map (under (codes "project")) (fault_within 64 nodes lines.0.under root) in
    unmapped (under (codes "project")) (fault_within 64 nodes lines.0.under root) (chosen (bytes_eq root.name (codes "project")) o _ e)

-- a POM without a parent that isn't refused has both
root_states : (nodes : List Node) (root : Node) → root_fault nodes (Some root) ≡ None → is_alone nodes root ≡ true
    → (is_some (text_of nodes (codes "groupId") (Some root)) ≡ true) × (is_some (text_of nodes (codes "version") (Some root)) ≡ true)
unfolding lines table kind_number
root_states nodes root e alone =
    let rows = rows_there nodes root (none_missing nodes root (none_ended nodes root (no_fault nodes root e))) in
    (there (is_alone nodes root) (text_of nodes (codes "groupId") (Some root)) alone rows.0, there (is_alone nodes root) (text_of nodes (codes "version") (Some root)) alone rows.1)

-- a POM that has no element for its parent
alone_is : (nodes : List Node) (root : Node) → option_map (parent nodes) (child nodes (codes "parent") (Some root)) ≡ None → is_alone nodes root ≡ true
alone_is nodes root e = ap (λ o. not (is_some o)) (unmapped (parent nodes) (child nodes (codes "parent") (Some root)) e)

model_stated : (nodes : List Node) (pom : PomId) (root : Node) → (model nodes pom (Some root)).parent ≡ None → root_fault nodes (Some root) ≡ None → is_stated (model nodes pom (Some root)) ≡ true
unfolding model coordinates
model_stated nodes pom root none sound =
    let states = root_states nodes root sound (alone_is nodes root none) in
    both_true (is_some (text_of nodes (codes "groupId") (Some root))) _ states.0 states.1

-- a text without a fault has a root
root_is : (nodes : List Node) (o : Option Node) → root_fault nodes o ≡ None → (root : Node) × (o ≡ Some root) × (root_fault nodes (Some root) ≡ None)
root_is nodes None e = cc
root_is nodes (Some root) e = (root, refl, e)

err_not_ok : (x : Refusal) (y : RawModel) → ◌≡◌ {A = Result RawModel Refusal} (Err x) (Ok y) → ⊥
err_not_ok x y e = cc

raw_ok : (x y : RawModel) → ◌≡◌ {A = Result RawModel Refusal} (Ok x) (Ok y) → x ≡ y
raw_ok x y e = cc

-- what a text without a fault says
unfaulted : {F : Type 0} (said : Option F → Result RawModel Refusal) (m r : RawModel) → ((fault : F) → said (Some fault) ≡ Ok r → ⊥) → said None ≡ Ok m → (o : Option F) → said o ≡ Ok r → (o ≡ None) × (m ≡ r)
unfaulted said m r never none None e = (refl, raw_ok m r (sym none ∙ e))
unfaulted said m r never none (Some fault) e = absurd (never fault e)

model_is : (nodes : List Node) (pom : PomId) (r : RawModel) → raw nodes pom ≡ Ok r → (root_fault nodes (slice_get nodes 0) ≡ None) × (model nodes pom (slice_get nodes 0) ≡ r)
unfolding raw first_fault
model_is nodes pom r e =
    unfaulted (λ fault. unless fault nodes pom) (model nodes pom (slice_get nodes 0)) r (λ fault wrong. err_not_ok _ r wrong) refl (root_fault nodes (slice_get nodes 0)) e

-- a value that isn't refused
unrefused : (said : Result RawModel Refusal) (r : RawModel) → refused said ≡ Ok r → said ≡ Ok r
unrefused (Ok x) r e = ap (λ y. Ok y) (ok_is x r e)
unrefused (Err refusal) r e = cc

-- what was read, by its elements
read_nodes : (pom : PomId) (bytes : List ℕ) (r : RawModel) → read pom bytes ≡ Ok r → (nodes : List Node) × (raw nodes pom ≡ Ok r)
unfolding read
read_nodes pom bytes r e = let one = bound (elements pom (answer bytes)) _ r e in (one.0, unrefused (raw one.0 pom) r one.2)

pub alone_stated : (pom : PomId) (bytes : List ℕ) (r : RawModel) → read pom bytes ≡ Ok r → r.parent ≡ None → is_stated r ≡ true
alone_stated pom bytes r e none =
    let nodes = read_nodes pom bytes r e in
    let is = model_is nodes.0 pom r nodes.1 in
    let root = root_is nodes.0 (slice_get nodes.0 0) is.0 in
    let same : model nodes.0 pom (Some root.0) ≡ r = ap (model nodes.0 pom) (sym root.1) ∙ is.1 in
    subst (λ (m : RawModel). is_stated m ≡ true) same (model_stated nodes.0 pom root.0 (ap (λ (m : RawModel). m.parent) same ∙ none) root.2)

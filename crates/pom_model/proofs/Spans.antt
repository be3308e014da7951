-- The lines of the table under a kind of element are found where they stand, and nowhere else.
use Rattle.std.proofs.Common.{◌≡◌, ℕ, Bor, zero, suc, ◌-◌, ◌≤◌, arith, subst, Bool, true, false, ◌&&◌, not, List, [], ◌∷◌, map, take, drop, find, Some, is_some, option_map, refl, sym, ap, ◌∙◌, if◌then◌else◌}
use Rattle.std.specs.List.{filter}
use Rattle.pom_text.specs.declared.node.Node.{Node}
use Rattle.pom_model.specs.declared.table.Kind.{Kind}
use Rattle.pom_model.specs.declared.table.Kind.TheVariants as kind
use Rattle.pom_model.specs.declared.table.Times.{Times}
use Rattle.pom_model.specs.declared.table.Times.TheVariants as times
use Rattle.pom_model.specs.Faults.{is_missing, is_required, missing_name}
use Rattle.pom_model.specs.Elements.{text_of}
use Rattle.pom_model.specs.Spans.{is_lacking, is_named, is_under, may_lack, required_span, required_under, rows_under, span}
use Rattle.pom_model.specs.Table.{Row, found, kind_number, row_view, table}

-- what is found of two tests is found by the second of what passes the first
find_kept : (p q : Row → Bool) (rows : List Row) → find (λ r. p r && q r) rows ≡ find q (filter p rows)
find_kept p q [] = refl
find_kept p q (r ∷ rows) = by (p r) refl (find_kept p q rows)
  where
    by : (b : Bool) → p r ≡ b → find (λ r. p r && q r) rows ≡ find q (filter p rows) → find (λ r. p r && q r) (r ∷ rows) ≡ find q (filter p (r ∷ rows))
    by true e further =
        ap (λ b. if b && q r then Some r else find (λ r. p r && q r) rows) e ∙ ap (λ o. if q r then Some r else o) further
        ∙ sym (ap (λ b. find q (if b then r ∷ filter p rows else filter p rows)) e)
    by false e further =
        ap (λ b. if b && q r then Some r else find (λ r. p r && q r) rows) e ∙ further
        ∙ sym (ap (λ b. find q (if b then r ∷ filter p rows else filter p rows)) e)

pub found_so : (under : Kind) (name : List ℕ) → option_map (λ r. (r.inner, r.times)) (find (is_named name) (rows_under under)) ≡ found under name
unfolding found
found_so under name = sym (ap (option_map (λ (r : Row). (r.inner, r.times))) (find_kept (is_under under) (is_named name) table))

-- the same is found of tests that agree
find_alike : (p q : Row → Bool) → ((r : Row) → p r ≡ q r) → (rows : List Row) → find p rows ≡ find q rows
find_alike p q same [] = refl
find_alike p q same (r ∷ rows) = ap (λ b. if b then Some r else find p rows) (same r) ∙ ap (λ o. if q r then Some r else o) (find_alike p q same rows)

grouped : (a b c : Bool) → ((a && b) && c) ≡ (a && (b && c))
grouped true b c = refl
grouped false b c = refl

-- they stand there
pub span_so : (k : Kind) → take ((span k).1 - (span k).0) (drop (span k).0 table) ≡ rows_under k
unfolding table kind_number
span_so kind.Project = refl
span_so kind.Parent = refl
span_so kind.Modules = refl
span_so kind.Properties = refl
span_so kind.DependencyManagement = refl
span_so kind.Dependencies = refl
span_so kind.Dependency = refl
span_so kind.Exclusions = refl
span_so kind.Exclusion = refl
span_so kind.Build = refl
span_so kind.Resources = refl
span_so kind.TestResources = refl
span_so kind.Resource = refl
span_so kind.PluginManagement = refl
span_so kind.Plugins = refl
span_so kind.Plugin = refl
span_so kind.Executions = refl
span_so kind.Execution = refl
span_so kind.Goals = refl
span_so kind.Extensions = refl
span_so kind.Extension = refl
span_so kind.Configuration = refl
span_so kind.Profiles = refl
span_so kind.Profile = refl
span_so kind.ProfileBuild = refl
span_so kind.Activation = refl
span_so kind.ActivationProperty = refl
span_so kind.ActivationFile = refl
span_so kind.ActivationOs = refl
span_so kind.Leaf = refl

-- and so do the program's
map_dropped : {A B : Type 0} (f : A → B) (n : ℕ) (xs : List A) → map f (drop n xs) ≡ drop n (map f xs)
map_dropped f zero xs = refl
map_dropped f (suc n) [] = refl
map_dropped f (suc n) (x ∷ xs) = map_dropped f n xs

map_taken : {A B : Type 0} (f : A → B) (n : ℕ) (xs : List A) → map f (take n xs) ≡ take n (map f xs)
map_taken f zero xs = refl
map_taken f (suc n) [] = refl
map_taken f (suc n) (x ∷ xs) = ap (λ l. f x ∷ l) (map_taken f n xs)

-- those that may have to be there
pub required_so : (k : Kind) → take ((required_span k).1 - (required_span k).0) (drop (required_span k).0 table) ≡ required_under k
unfolding table kind_number
required_so kind.Project = refl
required_so kind.Parent = refl
required_so kind.Modules = refl
required_so kind.Properties = refl
required_so kind.DependencyManagement = refl
required_so kind.Dependencies = refl
required_so kind.Dependency = refl
required_so kind.Exclusions = refl
required_so kind.Exclusion = refl
required_so kind.Build = refl
required_so kind.Resources = refl
required_so kind.TestResources = refl
required_so kind.Resource = refl
required_so kind.PluginManagement = refl
required_so kind.Plugins = refl
required_so kind.Plugin = refl
required_so kind.Executions = refl
required_so kind.Execution = refl
required_so kind.Goals = refl
required_so kind.Extensions = refl
required_so kind.Extension = refl
required_so kind.Configuration = refl
required_so kind.Profiles = refl
required_so kind.Profile = refl
required_so kind.ProfileBuild = refl
required_so kind.Activation = refl
required_so kind.ActivationProperty = refl
required_so kind.ActivationFile = refl
required_so kind.ActivationOs = refl
required_so kind.Leaf = refl

-- within the table
record IsSpan (s : ℕ × ℕ) : Type 0 where
  pub ordered : s.0 ≤ s.1
  pub low : s.1 ≤ 89

span_fits : (k : Kind) → IsSpan (span k)
span_fits kind.Project = record { ordered = omega arith; low = omega arith }
span_fits kind.Parent = record { ordered = omega arith; low = omega arith }
span_fits kind.Modules = record { ordered = omega arith; low = omega arith }
span_fits kind.Properties = record { ordered = omega arith; low = omega arith }
span_fits kind.DependencyManagement = record { ordered = omega arith; low = omega arith }
span_fits kind.Dependencies = record { ordered = omega arith; low = omega arith }
span_fits kind.Dependency = record { ordered = omega arith; low = omega arith }
span_fits kind.Exclusions = record { ordered = omega arith; low = omega arith }
span_fits kind.Exclusion = record { ordered = omega arith; low = omega arith }
span_fits kind.Build = record { ordered = omega arith; low = omega arith }
span_fits kind.Resources = record { ordered = omega arith; low = omega arith }
span_fits kind.TestResources = record { ordered = omega arith; low = omega arith }
span_fits kind.Resource = record { ordered = omega arith; low = omega arith }
span_fits kind.PluginManagement = record { ordered = omega arith; low = omega arith }
span_fits kind.Plugins = record { ordered = omega arith; low = omega arith }
span_fits kind.Plugin = record { ordered = omega arith; low = omega arith }
span_fits kind.Executions = record { ordered = omega arith; low = omega arith }
span_fits kind.Execution = record { ordered = omega arith; low = omega arith }
span_fits kind.Goals = record { ordered = omega arith; low = omega arith }
span_fits kind.Extensions = record { ordered = omega arith; low = omega arith }
span_fits kind.Extension = record { ordered = omega arith; low = omega arith }
span_fits kind.Configuration = record { ordered = omega arith; low = omega arith }
span_fits kind.Profiles = record { ordered = omega arith; low = omega arith }
span_fits kind.Profile = record { ordered = omega arith; low = omega arith }
span_fits kind.ProfileBuild = record { ordered = omega arith; low = omega arith }
span_fits kind.Activation = record { ordered = omega arith; low = omega arith }
span_fits kind.ActivationProperty = record { ordered = omega arith; low = omega arith }
span_fits kind.ActivationFile = record { ordered = omega arith; low = omega arith }
span_fits kind.ActivationOs = record { ordered = omega arith; low = omega arith }
span_fits kind.Leaf = record { ordered = omega arith; low = omega arith }

required_fits : (k : Kind) → IsSpan (required_span k)
required_fits kind.Project = record { ordered = omega arith; low = omega arith }
required_fits kind.Parent = record { ordered = omega arith; low = omega arith }
required_fits kind.Modules = record { ordered = omega arith; low = omega arith }
required_fits kind.Properties = record { ordered = omega arith; low = omega arith }
required_fits kind.DependencyManagement = record { ordered = omega arith; low = omega arith }
required_fits kind.Dependencies = record { ordered = omega arith; low = omega arith }
required_fits kind.Dependency = record { ordered = omega arith; low = omega arith }
required_fits kind.Exclusions = record { ordered = omega arith; low = omega arith }
required_fits kind.Exclusion = record { ordered = omega arith; low = omega arith }
required_fits kind.Build = record { ordered = omega arith; low = omega arith }
required_fits kind.Resources = record { ordered = omega arith; low = omega arith }
required_fits kind.TestResources = record { ordered = omega arith; low = omega arith }
required_fits kind.Resource = record { ordered = omega arith; low = omega arith }
required_fits kind.PluginManagement = record { ordered = omega arith; low = omega arith }
required_fits kind.Plugins = record { ordered = omega arith; low = omega arith }
required_fits kind.Plugin = record { ordered = omega arith; low = omega arith }
required_fits kind.Executions = record { ordered = omega arith; low = omega arith }
required_fits kind.Execution = record { ordered = omega arith; low = omega arith }
required_fits kind.Goals = record { ordered = omega arith; low = omega arith }
required_fits kind.Extensions = record { ordered = omega arith; low = omega arith }
required_fits kind.Extension = record { ordered = omega arith; low = omega arith }
required_fits kind.Configuration = record { ordered = omega arith; low = omega arith }
required_fits kind.Profiles = record { ordered = omega arith; low = omega arith }
required_fits kind.Profile = record { ordered = omega arith; low = omega arith }
required_fits kind.ProfileBuild = record { ordered = omega arith; low = omega arith }
required_fits kind.Activation = record { ordered = omega arith; low = omega arith }
required_fits kind.ActivationProperty = record { ordered = omega arith; low = omega arith }
required_fits kind.ActivationFile = record { ordered = omega arith; low = omega arith }
required_fits kind.ActivationOs = record { ordered = omega arith; low = omega arith }
required_fits kind.Leaf = record { ordered = omega arith; low = omega arith }

pub span_ordered : (k : Kind) (s : ℕ × ℕ) → s ≡ span k → s.0 ≤ s.1
span_ordered k s is = subst (λ p. p.0 ≤ p.1) (sym is) (span_fits k).ordered

pub span_low : (k : Kind) (s : ℕ × ℕ) → s ≡ span k → s.1 ≤ 89
span_low k s is = subst (λ p. p.1 ≤ 89) (sym is) (span_fits k).low

pub cut_so : (k : Kind) (s : ℕ × ℕ) (rows : List (Kind × Bor (List ℕ) × Kind × Times)) → s ≡ span k → map row_view rows ≡ table → map row_view (take (s.1 - s.0) (drop s.0 rows)) ≡ rows_under k
cut_so k s rows same all =
    let n = s.1 - s.0 in
    map_taken row_view n (drop s.0 rows) ∙ ap (take n) (map_dropped row_view s.0 rows) ∙ ap (λ t. take n (drop s.0 t)) all
    ∙ ap (λ p. take (p.1 - p.0) (drop p.0 table)) same ∙ span_so k

pub required_ordered : (k : Kind) (s : ℕ × ℕ) → s ≡ required_span k → s.0 ≤ s.1
required_ordered k s is = subst (λ p. p.0 ≤ p.1) (sym is) (required_fits k).ordered

pub required_low : (k : Kind) (s : ℕ × ℕ) → s ≡ required_span k → s.1 ≤ 89
required_low k s is = subst (λ p. p.1 ≤ 89) (sym is) (required_fits k).low

pub required_cut : (k : Kind) (s : ℕ × ℕ) (rows : List (Kind × Bor (List ℕ) × Kind × Times)) → s ≡ required_span k → map row_view rows ≡ table → map row_view (take (s.1 - s.0) (drop s.0 rows)) ≡ required_under k
required_cut k s rows same all =
    let n = s.1 - s.0 in
    map_taken row_view n (drop s.0 rows) ∙ ap (take n) (map_dropped row_view s.0 rows) ∙ ap (λ t. take n (drop s.0 t)) all
    ∙ ap (λ p. take (p.1 - p.0) (drop p.0 table)) same ∙ required_so k

-- what is lacking is among them
lacking_required : (alone filled : Bool) (times : Times) → (is_required alone times && filled) ≡ (is_required true times && (is_required alone times && filled))
lacking_required alone filled times.Optional = refl
lacking_required alone filled times.Required = refl
lacking_required alone filled times.RequiredAlone = refl
lacking_required alone filled times.Repeated = refl

pub required_lacking : (nodes : List Node) (node : Node) (alone : Bool) (rows : List Row) → find (is_lacking nodes node alone) (filter may_lack rows) ≡ find (is_lacking nodes node alone) rows
required_lacking nodes node alone rows =
    sym (find_kept may_lack (is_lacking nodes node alone) rows)
    ∙ sym (find_alike (is_lacking nodes node alone) (λ r. may_lack r && is_lacking nodes node alone r) (λ r. lacking_required alone (not (is_some (text_of nodes r.name (Some node)))) r.times) rows)

pub missing_so : (nodes : List Node) (k : Kind) (node : Node) (alone : Bool) → option_map (λ r. r.name) (find (is_lacking nodes node alone) (required_under k)) ≡ missing_name table nodes k node alone
missing_so nodes k node alone =
    ap (option_map (λ (r : Row). r.name)) (required_lacking nodes node alone (rows_under k) ∙ sym (find_kept (is_under k) (is_lacking nodes node alone) table)
    ∙ sym (find_alike (is_missing nodes k node alone) (λ r. is_under k r && is_lacking nodes node alone r) (λ r. grouped (is_under k r) (is_required alone r.times) (not (is_some (text_of nodes r.name (Some node))))) table))

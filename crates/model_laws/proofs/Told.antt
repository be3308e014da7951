-- At one place and turn one thing alone is wrong: what is told is a function of both.
use Rattle.std.proofs.Common.{◌≡◌, inl, inr, ℕ, zero, suc, ◌≤◌, List, [], ◌∷◌, length, codes, Option, Some, None, slice_get, option_and_then, option_map, sym, ap, ◌∙◌, subst, arith}
use Rattle.std.specs.Cmp.Lexicographic.{slice_cmp, nat_list_cmp_total}
use Rattle.std.specs.Ordering.{nat_cmp, is_lt, ordering_reverse}
use Rattle.std.specs.declared.cmp.Ordering.TheVariants.{Less, Greater}
use Rattle.std.proofs.lemmas.Bool.{false≢true}
use Rattle.mvn_base.specs.declared.rule.Rule.TheVariants.{TooLarge, RootNotProject, RepeatedElement, MissingField, CombineAttribute}
use Rattle.pom_text.specs.declared.node.Node.{Node}
use Rattle.pom_model.specs.Faults.{read_child}
use Rattle.pom_model.specs.Table.{Row, table}
use Rattle.model_laws.specs.Breaks.{Breaks, IsFirst, Kind, Told, first_kind, of_text, on_element, outward, IsNotAfter, IsWrong, IsWrongAbove, element_at, step_to, again, combines, too_many, inside, version, lacks, no_root, other_root, in_project}
use Rattle.model_laws.proofs.Parts.{IsLong, Read, is_long, no_version, none_at}

-- what is told where an element begins, and where one ends
abbrev begun_told : List Node → Kind → Node → ℕ → Read → ℕ → Option Told
begun_told nodes kind node i e zero = Some (on_element RepeatedElement e.1.name)
begun_told nodes kind node i e (suc zero) = Some (on_element CombineAttribute (step_to nodes kind node i e.0.1 e.1))
begun_told nodes kind node i e (suc (suc k)) = Some (on_element TooLarge [])

abbrev end_told : List Node → Node → ℕ → Option Told
end_told nodes node zero = Some (no_version nodes node)
end_told nodes node (suc n) = option_map (λ (r : Row). on_element MissingField r.name) (slice_get table n)

abbrev here_told : List Node → Kind → Node → ℕ → Option Read → ℕ → Option Told
here_told nodes kind node i (Some e) turn = begun_told nodes kind node i e turn
here_told nodes kind node i None turn = end_told nodes node turn

abbrev inside_told : (Kind → Node → Option Told) → List Node → Kind → Node → ℕ → Option Read → Option Told
inside_told further nodes kind node i (Some e) = option_map (outward (step_to nodes kind node i e.0.1 e.1)) (further e.0.0 e.1)
inside_told further nodes kind node i None = None

abbrev told : List Node → List ℕ → ℕ → Kind → Node → Option Told
told nodes [] turn kind node = None
told nodes (i ∷ []) turn kind node = here_told nodes kind node i (element_at nodes kind node i) turn
told nodes (i ∷ j ∷ rest) turn kind node = inside_told (told nodes (j ∷ rest) turn) nodes kind node i (element_at nodes kind node i)

told_further : (nodes : List Node) (kind : Kind) (node : Node) (i : ℕ) (e : Read) (place : List ℕ) (turn : ℕ) → IsLong place → element_at nodes kind node i ≡ Some e
    → told nodes (i ∷ place) turn kind node ≡ option_map (outward (step_to nodes kind node i e.0.1 e.1)) (told nodes place turn e.0.0 e.1)
told_further nodes kind node i e place turn long is =
    subst (λ p. told nodes (i ∷ p) turn kind node ≡ option_map (outward (step_to nodes kind node i e.0.1 e.1)) (told nodes p turn e.0.0 e.1)) (sym long.is)
    (ap (inside_told (told nodes (long.i ∷ long.rest) turn) nodes kind node i) is)

pub wrong_told : (nodes : List Node) {kind : Kind} {node : Node} {place : List ℕ} {turn : ℕ} {fault : Told} → Breaks nodes kind node place turn fault → told nodes place turn kind node ≡ Some fault
wrong_told nodes (again kind node i e is once stands) = ap (λ o. here_told nodes kind node i o 0) is
wrong_told nodes (combines kind node i e is configures says) = ap (λ o. here_told nodes kind node i o 1) is
wrong_told nodes (too_many kind node i e is listed full) = ap (λ o. here_told nodes kind node i o 2) is
wrong_told nodes (inside kind node i e place turn fault is breaks) =
    told_further nodes kind node i e place turn (is_long nodes breaks) is ∙ ap (option_map (outward (step_to nodes kind node i e.0.1 e.1))) (wrong_told nodes breaks)
wrong_told nodes (version kind node project other) =
    ap (λ o. here_told nodes kind node (length node.children) (option_and_then (read_child nodes kind) o) 0) (none_at node.children)
wrong_told nodes (lacks kind node n line there lacking) =
    ap (λ o. here_told nodes kind node (length node.children) (option_and_then (read_child nodes kind) o) (suc n)) (none_at node.children)
    ∙ ap (option_map (λ (r : Row). on_element MissingField r.name)) there

-- and so in a POM
abbrev root_told : List Node → List ℕ → ℕ → Option Kind → Option Node → Option Told
root_told nodes [] turn first (Some root) = Some (of_text RootNotProject root.name)
root_told nodes [] turn first None = Some (of_text RootNotProject [])
root_told nodes (i ∷ rest) turn (Some kind) (Some root) = option_map (outward (codes "project")) (told nodes (i ∷ rest) turn kind root)
root_told nodes (i ∷ rest) turn None (Some root) = None
root_told nodes (i ∷ rest) turn first None = None

all_told : (nodes : List Node) {place : List ℕ} {turn : ℕ} {fault : Told} → IsWrong nodes place turn fault → root_told nodes place turn first_kind (slice_get nodes 0) ≡ Some fault
all_told nodes (no_root none) = ap (root_told nodes [] 0 first_kind) none
all_told nodes (other_root root is differs) = ap (root_told nodes [] 0 first_kind) is
all_told nodes (in_project root kind place turn fault is name first breaks) = by place (is_long nodes breaks) (wrong_told nodes breaks)
  where
    by : (p : List ℕ) → IsLong p → told nodes p turn kind root ≡ Some fault → root_told nodes p turn first_kind (slice_get nodes 0) ≡ Some (outward (codes "project") fault)
    by p long e =
        ap (root_told nodes p turn first_kind) is ∙ ap (λ o. root_told nodes p turn o (Some root)) first ∙ ap (λ q. root_told nodes q turn (Some kind) (Some root)) long.is
        ∙ ap (λ q. option_map (outward (codes "project")) (told nodes q turn kind root)) (sym long.is) ∙ ap (option_map (outward (codes "project"))) e

some_is : {A : Type 0} (x y : A) → ◌≡◌ {A = Option A} (Some x) (Some y) → x ≡ y
some_is x y e = cc

pub one_wrong : (nodes : List Node) (place : List ℕ) (turn : ℕ) (one other : Told) → IsWrong nodes place turn one → IsWrong nodes place turn other → one ≡ other
one_wrong nodes place turn one other a b = some_is one other (sym (all_told nodes a) ∙ all_told nodes b)

-- two places, neither of which is after the other, are one
less_greater : Less ≡ Greater → ⊥
less_greater e = false≢true (sym (ap is_lt e))

not_both : (p q : List ℕ) → slice_cmp nat_cmp p q ≡ Less → slice_cmp nat_cmp q p ≡ Less → ⊥
not_both p q one two = less_greater (sym one ∙ nat_list_cmp_total.antisymm p q ∙ ap ordering_reverse two)

not_itself : (p q : List ℕ) → slice_cmp nat_cmp p q ≡ Less → p ≡ q → ⊥
not_itself p q less same = let back = ap (λ r. slice_cmp nat_cmp r p) (sym same) ∙ ap (slice_cmp nat_cmp p) same ∙ less in not_both p q less back

same_place : (p : List ℕ) (k : ℕ) (q : List ℕ) (l : ℕ) → IsNotAfter p k q l → IsNotAfter q l p k → (p ≡ q) × (k ≡ l)
same_place p k q l (inl a) (inl b) = absurd (not_both p q a b)
same_place p k q l (inl a) (inr b) = absurd (not_itself p q a (sym b.0))
same_place p k q l (inr a) (inl b) = absurd (not_itself q p b (sym a.0))
same_place p k q l (inr a) (inr b) = (a.0, turns a.1 b.1)
  where
    turns : k ≤ l → l ≤ k → k ≡ l
    turns x y = omega (arith, x, y)

pub one_first : (nodes : List Node) (f g : Told) → IsFirst (IsWrongAbove nodes) f → IsFirst (IsWrongAbove nodes) g → f ≡ g
one_first nodes f g x y =
    let same = same_place x.place x.turn y.place y.turn (x.first y.place y.turn g y.has) (y.first x.place x.turn f x.has) in
    one_wrong nodes y.place y.turn f g (subst (λ k. IsWrong nodes y.place k f) same.1 (subst (λ p. IsWrong nodes p x.turn f) same.0 x.has.0)) y.has.0

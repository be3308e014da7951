-- The walk over an element, one child after another.
use Rattle.std.proofs.Common.{◌≡◌, ℕ, Bor, zero, suc, ◌+◌, ◌-◌, ◌<◌, List, [], ◌∷◌, ◌++◌, length, get_or, take, drop, Option, Some, None, is_some, option_map, refl, sym, ap, ◌∙◌, arith}
use Rattle.std.proofs.Math.Seq.{drop-cons}
use Rattle.std.proofs.lemmas.List.{take_more}
use Rattle.std.proofs.lemmas.List.Sums.{count_by_more_yes}
use Rattle.pom_text.specs.declared.node.Node.{Node}
use Rattle.pom_model.specs.declared.fault.Fault.{Fault}
use Rattle.pom_model.specs.declared.table.Kind.{Kind}
use Rattle.pom_model.specs.declared.table.Times.{Times}
use Rattle.pom_model.specs.Faults.{among, begun, child_fault, count_read, ended, fault_within, or, read_child, step, under}

pub fault_zero : (depth : ℕ) (nodes : List Node) (kind : Kind) (node : Node) → depth ≡ 0 → None ≡ fault_within depth nodes kind node
unfolding fault_within
fault_zero depth nodes kind node none = sym (ap (λ d. fault_within d nodes kind node) none)

pub fault_more : (depth : ℕ) (nodes : List Node) (kind : Kind) (node : Node) → (depth ≡ 0 → ⊥) → fault_within depth nodes kind node ≡ or (among (fault_within (depth - 1) nodes) nodes kind [] node.children) (ended nodes kind node)
unfolding fault_within
fault_more zero nodes kind node some = absurd (some refl)
fault_more (suc depth) nodes kind node some =
    let one : depth ≡ suc depth - 1 = omega arith in
    ap (λ d. or (among (fault_within d nodes) nodes kind [] node.children) (ended nodes kind node)) one

-- where a loop stands: so many children are done, and of the others comes what comes of all
pub record StandsAt (depth : ℕ) (nodes : List Node) (kind : Kind) (node : Node) (children : List ℕ) (i read : ℕ) : Type 0 where
  pub some : depth ≡ 0 → ⊥
  pub whole : children ≡ node.children
  pub same : among (fault_within (depth - 1) nodes) nodes kind (take i children) (drop i children) ≡ among (fault_within (depth - 1) nodes) nodes kind [] children
  pub counted : read ≡ count_read nodes kind (take i children)

-- a child that is read
pub record IsRead (nodes : List Node) (kind : Kind) (children : List ℕ) (i : ℕ) (inner : Kind) (times : Times) (node : Node) : Type 0 where
  pub low : i < length children
  pub is : read_child nodes kind (get_or children i 0) ≡ Some ((inner, times), node)

pub read_seen : (nodes : List Node) (kind : Kind) (k : ℕ) (inner : Kind) (times : Times) (child : Bor Node) (o : Option ((Kind × Times) × Bor Node)) → o ≡ Some ((inner, times), child) → option_map (λ e. (e.0, e.1.now)) o ≡ read_child nodes kind k
    → read_child nodes kind k ≡ Some ((inner, times), child.now)
read_seen nodes kind k inner times child o is so = sym so ∙ ap (option_map (λ (e : (Kind × Times) × Bor Node). (e.0, e.1.now))) is

child_here : (further : Kind → Node → Option Fault) (nodes : List Node) (kind : Kind) (children : List ℕ) (i : ℕ) (inner : Kind) (times : Times) (node : Node) → IsRead nodes kind children i inner times node
    → among further nodes kind (take i children) (drop i children)
    ≡ or (child_fault further nodes (take i children) (count_read nodes kind (take i children)) (Some ((inner, times), node))) (among further nodes kind (take i children ++ get_or children i 0 ∷ []) (drop (suc i) children))
child_here further nodes kind children i inner times node r =
    ap (among further nodes kind (take i children)) (drop-cons children i 0 r.low)
    ∙ ap (λ e. or (child_fault further nodes (take i children) (count_read nodes kind (take i children)) e) (among further nodes kind (take i children ++ get_or children i 0 ∷ []) (drop (suc i) children))) r.is

-- a refusal of a child is the element's
refused : (depth : ℕ) (nodes : List Node) (kind : Kind) (node : Node) (children : List ℕ) (i read : ℕ) (fault : Fault) → StandsAt depth nodes kind node children i read
    → among (fault_within (depth - 1) nodes) nodes kind (take i children) (drop i children) ≡ Some fault → Some fault ≡ fault_within depth nodes kind node
refused depth nodes kind node children i read fault s here =
    let all = ap (among (fault_within (depth - 1) nodes) nodes kind []) (sym s.whole) ∙ sym s.same ∙ here in
    sym (fault_more depth nodes kind node s.some ∙ ap (λ o. or o (ended nodes kind node)) all)

pub begun_refused : (depth : ℕ) (nodes : List Node) (kind : Kind) (node : Node) (children : List ℕ) (i read : ℕ) (inner : Kind) (times : Times) (child : Node) (before : List ℕ) (o : Option Fault) (fault : Fault)
    → StandsAt depth nodes kind node children i read → IsRead nodes kind children i inner times child → before ≡ take i children → o ≡ begun nodes before read (inner, times) child → o ≡ Some fault
    → Some fault ≡ fault_within depth nodes kind node
begun_refused depth nodes kind node children i read inner times child before o fault s r front begins is =
    let further = fault_within (depth - 1) nodes in
    let rest = among further nodes kind (take i children ++ get_or children i 0 ∷ []) (drop (suc i) children) in
    let within = option_map (under (step times (count_read nodes kind (take i children)) child.name)) (further inner child) in
    let first : begun nodes (take i children) (count_read nodes kind (take i children)) (inner, times) child ≡ Some fault =
    ap (λ b. begun nodes b (count_read nodes kind (take i children)) (inner, times) child) (sym front) ∙ ap (λ k. begun nodes before k (inner, times) child) (sym s.counted) ∙ sym begins ∙ is in
    refused depth nodes kind node children i read fault s (child_here further nodes kind children i inner times child r ∙ ap (λ x. or (or x within) rest) first)

pub within_refused : (depth : ℕ) (nodes : List Node) (kind : Kind) (node : Node) (children : List ℕ) (i read : ℕ) (inner : Kind) (times : Times) (child : Node) (before name : List ℕ) (o p : Option Fault) (fault whole : Fault)
    → StandsAt depth nodes kind node children i read → IsRead nodes kind children i inner times child → before ≡ take i children → o ≡ begun nodes before read (inner, times) child → o ≡ None
    → p ≡ fault_within (depth - 1) nodes inner child → p ≡ Some fault → name ≡ child.name → whole ≡ under (step times read name) fault → Some whole ≡ fault_within depth nodes kind node
within_refused depth nodes kind node children i read inner times child before name o p fault whole s r front begins is goes here named told =
    let further = fault_within (depth - 1) nodes in
    let count = count_read nodes kind (take i children) in
    let rest = among further nodes kind (take i children ++ get_or children i 0 ∷ []) (drop (suc i) children) in
    let within = option_map (under (step times count child.name)) (further inner child) in
    let first : begun nodes (take i children) count (inner, times) child ≡ None =
    ap (λ b. begun nodes b count (inner, times) child) (sym front) ∙ ap (λ k. begun nodes before k (inner, times) child) (sym s.counted) ∙ sym begins ∙ is in
    let second : within ≡ Some whole =
    ap (option_map (under (step times count child.name))) (sym goes ∙ here) ∙ ap (λ k. Some (under (step times k child.name) fault)) (sym s.counted) ∙ ap (λ n. Some (under (step times read n) fault)) (sym named) ∙ ap Some (sym told) in
    refused depth nodes kind node children i read whole s (child_here further nodes kind children i inner times child r ∙ ap (λ x. or (or x within) rest) first ∙ ap (λ x. or x rest) second)

-- a child in which nothing is refused is done
pub nothing_refused : (depth : ℕ) (nodes : List Node) (kind : Kind) (node : Node) (children : List ℕ) (i read : ℕ) (inner : Kind) (times : Times) (child : Node) (before : List ℕ) (o : Option Fault)
    → StandsAt depth nodes kind node children i read → IsRead nodes kind children i inner times child → before ≡ take i children → o ≡ begun nodes before read (inner, times) child → o ≡ None
    → None ≡ fault_within (depth - 1) nodes inner child
    → among (fault_within (depth - 1) nodes) nodes kind (take (i + 1) children) (drop (i + 1) children) ≡ among (fault_within (depth - 1) nodes) nodes kind [] children
nothing_refused depth nodes kind node children i read inner times child before o s r front begins is nothing =
    let further = fault_within (depth - 1) nodes in
    let count = count_read nodes kind (take i children) in
    let rest = among further nodes kind (take i children ++ get_or children i 0 ∷ []) (drop (suc i) children) in
    let first : begun nodes (take i children) count (inner, times) child ≡ None =
    ap (λ b. begun nodes b count (inner, times) child) (sym front) ∙ ap (λ k. begun nodes before k (inner, times) child) (sym s.counted) ∙ sym begins ∙ is in
    let within : option_map (under (step times count child.name)) (further inner child) ≡ None = ap (option_map (under (step times count child.name))) (sym nothing) in
    let on : i + 1 ≡ suc i = omega arith in
    ap (λ t. among further nodes kind t (drop (i + 1) children)) (take_more children i 0 r.low) ∙ ap (λ n. among further nodes kind (take i children ++ get_or children i 0 ∷ []) (drop n children)) on
    ∙ sym (child_here further nodes kind children i inner times child r ∙ ap (λ x. or (or x (option_map (under (step times count child.name)) (further inner child))) rest) first ∙ ap (λ x. or x rest) within)
    ∙ s.same

-- it is counted
pub one_more_read : (nodes : List Node) (kind : Kind) (children : List ℕ) (i read : ℕ) (inner : Kind) (times : Times) (child : Node) → IsRead nodes kind children i inner times child
    → read ≡ count_read nodes kind (take i children) → read + 1 ≡ count_read nodes kind (take (i + 1) children)
one_more_read nodes kind children i read inner times child r counted =
    ap (λ n. n + 1) counted ∙ sym (count_by_more_yes (λ k. is_some (read_child nodes kind k)) children i 0 r.low (ap is_some r.is))

-- all children are done
pub ended_same : (depth : ℕ) (nodes : List Node) (kind : Kind) (node : Node) (children : List ℕ) (i read : ℕ) → StandsAt depth nodes kind node children i read → drop i children ≡ [] → ended nodes kind node ≡ fault_within depth nodes kind node
ended_same depth nodes kind node children i read s done =
    let all = ap (among (fault_within (depth - 1) nodes) nodes kind []) (sym s.whole) ∙ sym s.same ∙ ap (among (fault_within (depth - 1) nodes) nodes kind (take i children)) done in
    sym (fault_more depth nodes kind node s.some ∙ ap (λ o. or o (ended nodes kind node)) all)

-- The modules that are built stand in order.
use Rattle.std.proofs.Common.{◌≡◌, ℕ, suc, ◌<◌, ◌≤◌, Bool, true, false, List, [], ◌∷◌, filter, find, get_or, length, map, Option, Some, None, Result, Ok, Err, refl, sym, ap, subst, ◌∙◌, arith, if◌then◌else◌}
use Rattle.std.proofs.lemmas.List.{length-map}
use Rattle.model_types.specs.declared.model.Model.{Model}
use Rattle.classpaths.specs.declared.resolution.Resolution.{Resolution}
use Rattle.cli_words.specs.declared.command_line.CommandLine.{CommandLine}
use Rattle.cli_words.specs.declared.command_line.Word.{Word}
use Rattle.reactor.specs.Selection.{IsChosen, first_meant, resumed, resumed_at}
use Rattle.reactor.proofs.Below.{keeps_below}
use Rattle.reactor.specs.declared.ordering.BuildOrder.{BuildOrder}
use Rattle.reactor.specs.Edges.{soft_edges}
use Rattle.reactor_order.specs.Graph.{AreBelow, AreEdgesBelow, Edges, has}
use Rattle.reactor_order.specs.Cycle.{order}
use Rattle.reactor_order.specs.Select.{from_on}
use Rattle.reactor_order.proofs.Orders.{each_once, order_exactly, upstreams_before}
use Rattle.reactor.specs.Reactor.{AreBuilt, AreInOrder, Orders, Selects}
use Rattle.reactor.specs.Upstreams.{Ascends, all_upstreams, firm_edges, upstream_places}
use Rattle.reactor.specs.declared.modules.ReactorModules.{ReactorModules}
use Rattle.reactor.proofs.Bounds.{firm_are_below, soft_are_below}
use Rattle.reactor.proofs.Laid.{Stand, all_stand, distinct, filter_stand, from_stand, places_ascend, upstreams_before as before_each}

abbrev given : List ℕ → Result (List ℕ) ℕ
given list = Ok list

abbrev unknown : ℕ → Result (List ℕ) ℕ
unknown place = Err place

same_list : (a b : List ℕ) → given a ≡ given b → a ≡ b
same_list a b e = ap inner e
  where
    inner : Result (List ℕ) ℕ → List ℕ
    inner (Ok x) = x
    inner (Err x) = a

never : (place : ℕ) (list : List ℕ) → unknown place ≡ given list → ⊥
never place list e = cc

-- the order of all
order_stands : (n : ℕ) (edges : Edges) (list : List ℕ) → order n edges ≡ Ok list → Stand n edges list
order_stands n edges list e = let is = (order_exactly n edges list).0 e in all_stand n edges list is.all (each_once n edges list is) (upstreams_before n edges list is)

-- those that words choose
chosen_stands : (modules : List Model) (n : ℕ) (edges : Edges) (all : List ℕ) (line : CommandLine) (whole : List ℕ) → Stand n edges all → IsChosen modules all edges line whole → Stand n edges whole
chosen_stands modules n edges all line whole s chosen = subst (Stand n edges) (sym chosen.is) (filter_stand n edges chosen.keep all s)

-- and those from one on
at_stands : (n : ℕ) (edges : Edges) (whole : List ℕ) (place : ℕ) (first : Option ℕ) (list : List ℕ) → Stand n edges whole → resumed_at whole place first ≡ Ok list → Stand n edges list
at_stands n edges whole place None list s e = absurd (never place list e)
at_stands n edges whole place (Some m) list s e = by (has whole m) refl
  where
    by : (b : Bool) → has whole m ≡ b → Stand n edges list
    by true there = subst (Stand n edges) (same_list (from_on (Some m) whole) list (sym (ap (λ b. if b then given (from_on (Some m) whole) else unknown place) there) ∙ e)) (from_stand n edges (Some m) whole s)
    by false there = absurd (never place list (sym (ap (λ b. if b then given (from_on (Some m) whole) else unknown place) there) ∙ e))

resumed_stands : (modules : List Model) (n : ℕ) (edges : Edges) (all whole : List ℕ) (from : Option Word) (list : List ℕ) → Stand n edges whole → resumed modules all whole from ≡ Ok list → Stand n edges list
resumed_stands modules n edges all whole None list s e = subst (Stand n edges) (same_list whole list e) s
resumed_stands modules n edges all whole (Some w) list s e = at_stands n edges whole w.place (first_meant modules all w) list s e

pub selected_stand : (modules : List Model) (resolutions : List Resolution) (line : CommandLine) (found : BuildOrder) (numbers : List ℕ)
    → Orders modules resolutions (Ok found) → Selects modules line found (Ok numbers) → Stand (length modules) found.edges numbers
selected_stand modules resolutions line found numbers ordered selected =
    let s = order_stands (length modules) found.edges found.order ordered.1 in
    let chosen = selected.1 in
    resumed_stands modules (length modules) found.edges found.order chosen.0 line.from numbers
    (chosen_stands modules (length modules) found.edges found.order line chosen.0 s chosen.1) chosen.2

-- ---- what the calls require

pub has_order : (modules : List Model) (resolutions : List Resolution) (found : BuildOrder) → Orders modules resolutions (Ok found) → length found.order ≡ length modules
has_order modules resolutions found ordered = ((order_exactly (length modules) found.edges found.order).0 ordered.1).all

pub is_few : (modules : List Model) (resolutions : List Resolution) (found : BuildOrder) → length modules < 4294967296 → Orders modules resolutions (Ok found) → length found.order < 4294967296
is_few modules resolutions found few ordered = let same = has_order modules resolutions found ordered in omega (arith, few, same)

pub edges_below : (modules : List Model) (resolutions : List Resolution) (found : BuildOrder) → Orders modules resolutions (Ok found) → AreEdgesBelow (length modules) found.edges
edges_below modules resolutions found ordered = keeps_below (length modules) (firm_edges modules resolutions) (soft_edges modules) found.edges (firm_are_below modules resolutions) (soft_are_below modules) ordered.0

pub edges_below_order : (modules : List Model) (resolutions : List Resolution) (found : BuildOrder) → Orders modules resolutions (Ok found) → AreEdgesBelow (length found.order) found.edges
edges_below_order modules resolutions found ordered = subst (λ n. AreEdgesBelow n found.edges) (sym (has_order modules resolutions found ordered)) (edges_below modules resolutions found ordered)

pub order_below : (modules : List Model) (resolutions : List Resolution) (found : BuildOrder) → Orders modules resolutions (Ok found) → AreBelow (length found.order) found.order
order_below modules resolutions found ordered =
    subst (λ n. AreBelow n found.order) (sym (has_order modules resolutions found ordered)) (order_stands (length modules) found.edges found.order ordered.1).below

-- ---- what is built

pub built_in_order : (modules : List Model) (resolutions : List Resolution) (line : CommandLine) (built : ReactorModules) → AreBuilt modules resolutions line built → AreInOrder (length modules) built
built_in_order modules resolutions line built b =
    let s = selected_stand modules resolutions line b.found built.numbers b.ordered b.selected in
    record {
      below = s.below;
      once = distinct built.numbers s.once;
      long = ap length b.upstreams ∙ length-map built.numbers (upstream_places b.found.edges built.numbers);
      before = λ place u is. before_each b.found.edges built.numbers s.laid place u (sym (ap (λ l. has (get_or l place []) u) b.upstreams) ∙ is);
      ascend = λ place. subst (λ l. Ascends 0 (get_or l place [])) (sym b.upstreams) (places_ascend b.found.edges built.numbers place);
    }

-- A declaration of the project's own wins.
use Rattle.std.proofs.Common.{◌≡◌, ℕ, zero, suc, Bool, true, false, List, [], ◌∷◌, map, flat_map, find, Some, refl, ap, ◌∙◌, cond}
use Rattle.std.specs.Option.{option_map, option_or}
use Rattle.collector.specs.declared.edge.Edge.{Edge}
use Rattle.mvn_base.specs.declared.key.Key.{Key}
use Rattle.model_merge.specs.Keyed.{same_key}
use Rattle.collector.specs.Winners.{Graph, Path, counting, level, longer, winner_of, winners}
use Rattle.collector.proofs.Firsts.{first_counts, found_behind, or_none}

mapped : (key : Key) (path : Path) (edges : List Edge) → winner_of (map (λ e. e ∷ path) edges) key ≡ option_map (λ e. e ∷ path) (find (λ e. same_key key e.key) edges)
mapped key path [] = refl
mapped key path (e ∷ edges) = by (same_key key e.key) (mapped key path edges)
  where
    by : (b : Bool) → winner_of (map (λ e. e ∷ path) edges) key ≡ option_map (λ e. e ∷ path) (find (λ e. same_key key e.key) edges)
        → cond b (Some (e ∷ path)) (winner_of (map (λ e. e ∷ path) edges) key) ≡ option_map (λ e. e ∷ path) (cond b (Some e) (find (λ e. same_key key e.key) edges))
    by true rest = refl
    by false rest = rest

first_of : (graph : Graph) (n : ℕ) (key : Key) (e : Edge) → find (λ e. same_key key e.key) graph.direct ≡ Some e → winner_of (counting graph (suc n)) key ≡ Some (e ∷ [])
first_of graph zero key e is =
    found_behind key (longer graph []) [] ∙ or_none (winner_of (longer graph []) key) ∙ mapped key [] graph.direct ∙ ap (λ o. option_map (λ e. e ∷ []) o) is
first_of graph (suc n) key e is =
    let paths = flat_map (longer graph) (level graph (suc n)) in
    found_behind key (counting graph (suc n)) paths ∙ ap (λ o. option_or o (winner_of paths key)) (first_of graph n key e is)

pub direct_stands : (graph : Graph) (n : ℕ) (key : Key) (e : Edge) → find (λ e. same_key key e.key) graph.direct ≡ Some e → winner_of (winners graph (suc n)) key ≡ Some (e ∷ [])
direct_stands graph n key e is = first_counts graph (suc n) key ∙ first_of graph n key e is

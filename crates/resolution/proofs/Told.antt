-- What is answered says what the definition says.
use Rattle.std.proofs.Common.{◌≡◌, ◌⊎◌, inl, inr, ℕ, List, ◌++◌, flat_map, Option, Some, None, Result, Ok, Err, refl, sym, ap, ◌∙◌}
use Rattle.std.proofs.lemmas.List.Folds.{flat_map-map}
use Rattle.mvn_base.specs.Key.{key_text}
use Rattle.mvn_base.specs.declared.key.Key.{Key}
use Rattle.mvn_base.specs.declared.rule.Rule.TheVariants.{RangeConflict}
use Rattle.model_types.specs.declared.dependency.Dependency.{Dependency}
use Rattle.classpaths.specs.declared.resolution.Resolution.{Resolution}
use Rattle.mediation.specs.Faults.{Reason, Says}
use Rattle.mediation.specs.Libraries.{Libraries, graph_of}
use Rattle.mediation.specs.Rows.{IsWhole, Resolves, edges_below, reason}
use Rattle.mediation.specs.declared.fault.MediationFault.{MediationFault}
use Rattle.mediation.specs.declared.fault.MediationFault.TheVariants.{Refused, Lookup, Memory}
use Rattle.mediation.specs.declared.winner.Winner.{Winner}
use Rattle.collector.specs.Edges.{direct_edges}
use Rattle.collector.specs.declared.edge.Edge.{Edge}
use Rattle.resolution.specs.Conflicts.{conflict_among, first_conflict}
use Rattle.resolution.specs.Links.{AreDeclared}
use Rattle.resolution.specs.Resolved.{IsMade, Mediates, reason_of}

-- the first conflict among what is declared
declared_conflict : (managed : List (Key × Dependency)) (direct : List Dependency) (rows : List Winner) (own : List Edge) (below : List (List Edge)) (places : List ℕ) → AreDeclared managed direct rows own below places
    → conflict_among rows (own ++ flat_map (λ edges. edges) below) ≡ first_conflict managed direct rows
declared_conflict managed direct rows own below places declared =
    ap (λ own. conflict_among rows (own ++ flat_map (λ edges. edges) below)) declared.own_is
    ∙ ap (λ below. conflict_among rows (direct_edges direct ++ flat_map (λ edges. edges) below)) declared.below_is
    ∙ ap (λ edges. conflict_among rows (direct_edges direct ++ edges)) (flat_map-map (λ edges. edges) (edges_below managed) rows)

module _ (libraries : Libraries) (managed : List (Key × Dependency)) (direct : List Dependency) where
  pub conflict_told : (rows : List Winner) (w : Winner) (result : Result Resolution MediationFault) → IsWhole libraries (graph_of libraries managed direct) rows
      → first_conflict managed direct rows ≡ Some w → Says {T = Resolution} (Err (RangeConflict, key_text w.edge.key)) result → Mediates libraries managed direct result
  conflict_told rows w (Ok x) whole is says = absurd (never says)
    where
      never : ◌≡◌ {A = Result Resolution Reason} (Err (RangeConflict, key_text w.edge.key)) (Ok x) → ⊥
      never e = cc
  conflict_told rows w (Err (Refused rule place)) whole is says = inr (record { rows = rows; whole = whole; is = ap reason_of is ∙ ap reason says })
  conflict_told rows w (Err Lookup) whole is says = tt
  conflict_told rows w (Err Memory) whole is says = tt

  pub made_told : (rows : List Winner) (resolution : Resolution) → IsWhole libraries (graph_of libraries managed direct) rows
      → first_conflict managed direct rows ≡ None → IsMade managed direct rows resolution → Mediates libraries managed direct (Ok resolution)
  made_told rows resolution whole free made = record { rows = rows; whole = whole; free = free; made = made }

  pub judged_conflict : (rows : List Winner) (own : List Edge) (below : List (List Edge)) (places : List ℕ) (w : Winner) (result : Result Resolution MediationFault) → AreDeclared managed direct rows own below places → IsWhole libraries (graph_of libraries managed direct) rows
      → conflict_among rows (own ++ flat_map (λ edges. edges) below) ≡ Some w → Says {T = Resolution} (Err (RangeConflict, key_text w.edge.key)) result → Mediates libraries managed direct result
  judged_conflict rows own below places w result declared whole is says = conflict_told rows w result whole (sym (declared_conflict managed direct rows own below places declared) ∙ is) says

  pub judged_made : (rows : List Winner) (own : List Edge) (below : List (List Edge)) (places : List ℕ) (resolution : Resolution) → AreDeclared managed direct rows own below places → IsWhole libraries (graph_of libraries managed direct) rows
      → conflict_among rows (own ++ flat_map (λ edges. edges) below) ≡ None → IsMade managed direct rows resolution → Mediates libraries managed direct (Ok resolution)
  judged_made rows own below places resolution declared whole free made = made_told rows resolution whole (sym (declared_conflict managed direct rows own below places declared) ∙ free) made

  pub refused_told : (fault : MediationFault) → Resolves libraries (graph_of libraries managed direct) (Err fault) → Mediates libraries managed direct (Err fault)
  refused_told (Refused rule place) is = inl is
  refused_told Lookup is = tt
  refused_told Memory is = tt

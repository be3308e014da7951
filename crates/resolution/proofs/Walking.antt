-- Walks over the places of winners are walks over the winners.
use Rattle.std.proofs.Common.{◌≡◌, ◌⊎◌, inl, inr, ℕ, zero, suc, ◌+◌, ◌<◌, ◌≤◌, Bool, true, false, List, [], ◌∷◌, ◌++◌, All, Contains, flat_map, get_or, length, map, slice_get, Option, Some, None, is_none, is_some, unwrap_or, Result, Ok, refl, sym, ap, subst, ◌∙◌, arith, if◌then◌else◌}
use Rattle.std.proofs.lemmas.Bool.{false≢true}
use Rattle.std.proofs.lemmas.List.Elements.{All-get_or}
use Rattle.std.proofs.lemmas.Option.{get_or_from_slice_get, slice_get_within}
use Rattle.mvn_base.specs.declared.key.Key.{Key}
use Rattle.model_merge.specs.Keyed.{same_key}
use Rattle.model_types.specs.declared.dependency.Dependency.{Dependency}
use Rattle.collector.specs.Edges.{direct_edges, transitive_edges}
use Rattle.collector.specs.declared.edge.Edge.{Edge}
use Rattle.collector.specs.declared.scope.Scope.{Scope}
use Rattle.resolution.specs.declared.link.Link.{Link}
use Rattle.resolution.specs.Walks as places
use Rattle.resolution.proofs.Raising.{IsIn, in_from, in_to}
use Rattle.mediation.specs.Counting.{Counts, IsMediated}
use Rattle.mediation.specs.Libraries.{Libraries, declarations, gav_of, graph_of, leads_to, picked}
use Rattle.mediation.specs.Rows.{IsPicked, IsWhole, edges_below, paths_of, place_of, row_of}
use Rattle.mediation.specs.declared.winner.Winner.{Winner}
use Rattle.mediation.proofs.Nearest.{won_mediated}
use Rattle.mediation.proofs.Paths.{has_path}
use Rattle.mediation.proofs.Places.{all_at}
use Rattle.mediation.proofs.Within.{found_alone, same_self}
use Rattle.mediation.proofs.Within as within
use Rattle.collector.specs.Winners.{Graph, Path, SharesNone, ends_at, is_won, next_edges, shares_end, winner_of}
use Rattle.resolution.specs.Links.{is_direct, is_direct_row, link_at, link_below, link_below_at, link_of, link_to, links, links_below, starts}
use Rattle.resolution.specs.Scopes.{Walk, begins, brought, goes, is_near, is_near_path, is_single}
use Rattle.resolution.proofs.Placed.{FoundAt, PathOf, has_place, path_of, placed, same_key_at, some_is_none}

-- what stands in lists that are joined comes from one of them
pub record ComesFrom {A B : Type 0} (f : A → List B) (xs : List A) (y : B) : Type 0 where
  pub item : A
  pub among : IsIn xs item
  pub gives : IsIn (f item) y

in_left : {B : Type 0} (xs ys : List B) (y : B) → IsIn xs y → IsIn (xs ++ ys) y
in_left [] ys y there = absurd there
in_left (x ∷ xs) ys y (inl same) = inl same
in_left (x ∷ xs) ys y (inr there) = inr (in_left xs ys y there)

in_right : {B : Type 0} (xs ys : List B) (y : B) → IsIn ys y → IsIn (xs ++ ys) y
in_right [] ys y there = there
in_right (x ∷ xs) ys y there = inr (in_right xs ys y there)

in_either : {B : Type 0} (xs ys : List B) (y : B) → IsIn (xs ++ ys) y → IsIn xs y ⊎ IsIn ys y
in_either [] ys y there = inr there
in_either (x ∷ xs) ys y (inl same) = inl (inl same)
in_either (x ∷ xs) ys y (inr there) = by (in_either xs ys y there)
  where
    by : IsIn xs y ⊎ IsIn ys y → IsIn (x ∷ xs) y ⊎ IsIn ys y
    by (inl first) = inl (inr first)
    by (inr second) = inr second

comes_from : {A B : Type 0} (f : A → List B) (xs : List A) (y : B) → IsIn (flat_map f xs) y → ComesFrom f xs y
comes_from f [] y there = absurd there
comes_from f (x ∷ xs) y there = by (in_either (f x) (flat_map f xs) y there) (comes_from f xs y)
  where
    by : IsIn (f x) y ⊎ IsIn (flat_map f xs) y → (IsIn (flat_map f xs) y → ComesFrom f xs y) → ComesFrom f (x ∷ xs) y
    by (inl first) rest = record { item = x; among = inl refl; gives = first }
    by (inr second) rest =
        let c = rest second in
        record { item = c.item; among = inr c.among; gives = c.gives }

goes_to : {A B : Type 0} (f : A → List B) (xs : List A) (x : A) (y : B) → IsIn xs x → IsIn (f x) y → IsIn (flat_map f xs) y
goes_to f [] x y there gives = absurd there
goes_to f (z ∷ xs) x y (inl same) gives = in_left (f z) (flat_map f xs) y (subst (λ v. IsIn (f v) y) (sym same) gives)
goes_to f (z ∷ xs) x y (inr there) gives = in_right (f z) (flat_map f xs) y (goes_to f xs x y there gives)

-- what a place of a mapped list has
mapped_at : {B : Type 0} (f : Winner → B) (rows : List Winner) (k : ℕ) (w : Winner) (d : B) → slice_get rows k ≡ Some w → get_or (map f rows) k d ≡ f w
mapped_at f [] k w d is = absurd (some_is_none w (sym is))
mapped_at f (v ∷ rows) zero w d is = ap f (ap (λ o. unwrap_or o v) is)
mapped_at f (v ∷ rows) (suc k) w d is = mapped_at f rows k w d is

got_in : (paths : List Path) (k : ℕ) (p : Path) → slice_get paths k ≡ Some p → within.IsIn paths p
got_in [] k p is = absurd (some_is_none p (sym is))
got_in (q ∷ paths) zero p is = inl (ap (λ o. unwrap_or o q) is)
got_in (q ∷ paths) (suc k) p is = inr (got_in paths k p is)

-- a link to a winner, and the place that it leads to
pub record LeadsTo (rows : List Winner) (e : Edge) (l : Link) : Type 0 where
  pub place : ℕ
  pub is_place : place_of rows e.key ≡ Some place
  pub is : link_of e place ≡ l

leads_to_one : (rows : List Winner) (e : Edge) (l : Link) → IsIn (link_to rows e) l → LeadsTo rows e l
leads_to_one rows e l there = by (place_of rows e.key) refl there
  where
    by : (o : Option ℕ) → place_of rows e.key ≡ o → IsIn (link_at e o) l → LeadsTo rows e l
    by None is there = absurd there
    by (Some p) is (inl same) = record { place = p; is_place = is; is = same }
    by (Some p) is (inr there) = absurd there

leads_below : (rows : List Winner) (e : Edge) (l : Link) → IsIn (link_below rows e) l → (t : LeadsTo rows e l) × (is_direct rows t.place ≡ false)
leads_below rows e l there = by (place_of rows e.key) refl there
  where
    one : (p : ℕ) (b : Bool) → place_of rows e.key ≡ Some p → is_direct rows p ≡ b → IsIn (if b then [] else link_of e p ∷ []) l → (t : LeadsTo rows e l) × (is_direct rows t.place ≡ false)
    one p true is_place near there = absurd there
    one p false is_place near (inl same) = (record { place = p; is_place = is_place; is = same }, near)
    one p false is_place near (inr there) = absurd there

    by : (o : Option ℕ) → place_of rows e.key ≡ o → IsIn (link_below_at rows e o) l → (t : LeadsTo rows e l) × (is_direct rows t.place ≡ false)
    by None is there = absurd there
    by (Some p) is there = one p (is_direct rows p) is refl there

module _ (libraries : Libraries) (managed : List (Key × Dependency)) (direct : List Dependency) (rows : List Winner) (whole : IsWhole libraries (graph_of libraries managed direct) rows) where
  abbrev graph : Graph
  graph = graph_of libraries managed direct

  abbrev won : List Path
  won = paths_of rows

  pub mediated : IsMediated graph won
  mediated = won_mediated libraries managed direct rows whole

  -- a winner's path wins its key
  pub wins : (i : ℕ) (w : Winner) (p : PathOf won i w) → winner_of won w.edge.key ≡ Some (w.edge ∷ p.front)
  wins i w p = found_alone won w.edge p.front mediated.one (got_in won i (w.edge ∷ p.front) p.got)

  -- a winner leads to what its POM leads to
  leads : (i : ℕ) (w : Winner) (front : Path) → slice_get rows i ≡ Some w → next_edges graph (w.edge ∷ front) ≡ edges_below managed w
  leads i w front got =
      let pick = all_at (IsPicked libraries) rows i w whole.versions got in
      ap (λ p. leads_to libraries managed w.edge p) pick.version
      ∙ ap (λ k. transitive_edges (declarations k) managed w.edge.exclusions) (sym pick.known)

  -- a winner that the project doesn't declare isn't near
  near_is : (i : ℕ) (w : Winner) → slice_get rows i ≡ Some w → is_near won w.edge.key ≡ is_direct rows i
  near_is i w got =
      let p = path_of rows i w got in
      ap is_near_path (wins i w p) ∙ p.single ∙ sym (ap is_direct_row got)

  -- a walk that stands at a place stands at its winner's key
  pub record Stands (scope : Scope) (i : ℕ) : Type 0 where
    pub row : Winner
    pub got : slice_get rows i ≡ Some row
    pub walk : Walk graph won scope row.edge.key

  stands_at : (scope : Scope) (e : Edge) (l : Link) (t : LeadsTo rows e l) → Walk graph won scope e.key → Stands scope l.to
  stands_at scope e l t walk =
      let found = placed rows e.key t.place t.is_place in
      subst (λ l. Stands scope l.to) t.is (record {
        row = found.row;
        got = found.got;
        walk = subst (λ k. Walk graph won scope k) (same_key_at rows e.key t.place found.row found found.got) walk;
      })

  pub sound : (scope : Scope) (i : ℕ) → places.Walk (starts rows direct) (links managed rows) scope i → Stands scope i
  sound scope i (places.begins l there) =
      let c = comes_from (link_to rows) (direct_edges direct) l (in_from (starts rows direct) l there) in
      let t = leads_to_one rows c.item l c.gives in
      let at : Stands c.item.scope l.to = stands_at c.item.scope c.item l t (begins c.item (in_to (direct_edges direct) c.item c.among)) in
      subst (λ s. Stands s l.to) (ap (λ l. l.scope) t.is) at
  sound last i (places.goes {scope} {place} walk l there) = next (sound scope place walk)
    where
      next : Stands scope place → Stands (places.walked scope l) l.to
      next at =
          let c = comes_from (link_below rows) (edges_below managed at.row) l
          (subst (λ ls. IsIn ls l) (mapped_at (links_below managed rows) rows place at.row [] at.got) (in_from (places.links_at (links managed rows) place) l there)) in
          let t = leads_below rows c.item l c.gives in
          let p = path_of rows place at.row at.got in
          let found = placed rows c.item.key t.0.place t.0.is_place in
          let key : c.item.key ≡ found.row.edge.key = same_key_at rows c.item.key t.0.place found.row found found.got in
          let far : is_near won c.item.key ≡ false = ap (is_near won) key ∙ near_is t.0.place found.row found.got ∙ t.1 in
          let further : Walk graph won (brought scope c.item) c.item.key =
          goes at.walk (at.row.edge ∷ p.front) (wins place at.row p) c.item
          (in_to (next_edges graph (at.row.edge ∷ p.front)) c.item (subst (λ es. IsIn es c.item) (sym (leads place at.row p.front at.got)) c.among))
          far in
          subst (λ l'. Stands (places.walked scope l') l.to) t.0.is (stands_at (brought scope c.item) c.item l t.0 further)

  pub complete : (scope : Scope) (key : Key) → Walk graph won scope key → (i : ℕ) → place_of rows key ≡ Some i → places.Walk (starts rows direct) (links managed rows) scope i
  complete scope key (begins e there) i is =
      places.begins (link_of e i)
      (in_to (starts rows direct) (link_of e i)
      (goes_to (link_to rows) (direct_edges direct) e (link_of e i) (in_from (direct_edges direct) e there)
      (subst (λ o. IsIn (link_at e o) (link_of e i)) (sym is) (inl refl))))
  complete last to (goes {scope} {key} walk front wins_it e there far) i is = next from_place (complete scope key walk from_place.0 from_place.1)
    where
      some : is_some (row_of rows key) ≡ true
      some = sym (has_path rows key) ∙ ap is_some wins_it

      from_place : (j : ℕ) × (place_of rows key ≡ Some j)
      from_place = has_place rows key some

      next : (j : (j : ℕ) × (place_of rows key ≡ Some j)) → places.Walk (starts rows direct) (links managed rows) scope j.0 → places.Walk (starts rows direct) (links managed rows) (brought scope e) i
      next j below =
          let found = placed rows key j.0 j.1 in
          let named : key ≡ found.row.edge.key = same_key_at rows key j.0 found.row found found.got in
          let p = path_of rows j.0 found.row found.got in
          let same : front ≡ found.row.edge ∷ p.front = ap (λ o. unwrap_or o front) (sym wins_it ∙ ap (winner_of won) named ∙ wins j.0 found.row p) in
          let among : IsIn (edges_below managed found.row) e =
          subst (λ es. IsIn es e) (leads j.0 found.row p.front found.got) (subst (λ f. IsIn (next_edges graph f) e) same (in_from (next_edges graph front) e there)) in
          let end = placed rows e.key i is in
          let not_direct : is_direct rows i ≡ false = sym (near_is i end.row end.got) ∙ ap (is_near won) (sym (same_key_at rows e.key i end.row end end.got)) ∙ far in
          let gives : IsIn (link_below rows e) (link_of e i) =
          subst (λ o. IsIn (link_below_at rows e o) (link_of e i)) (sym is) (subst (λ b. IsIn (if b then [] else link_of e i ∷ []) (link_of e i)) (sym not_direct) (inl refl)) in
          let stands : IsIn (places.links_at (links managed rows) j.0) (link_of e i) =
          subst (λ ls. IsIn ls (link_of e i)) (sym (mapped_at (links_below managed rows) rows j.0 found.row [] found.got)) (goes_to (link_below rows) (edges_below managed found.row) e (link_of e i) among gives) in
          places.goes below (link_of e i) (in_to (places.links_at (links managed rows) j.0) (link_of e i) stands)

  -- each winner's own path is a walk
  own : (e : Edge) (path : Path) → Counts graph won (e ∷ path) → winner_of won e.key ≡ Some (e ∷ path) → (scope : Scope) × Walk graph won scope e.key
  own e [] counts is = (e.scope, begins e counts.0)
  own e (f ∷ path) counts is =
      let above = own f path counts.2 counts.1 in
      (brought above.0 e, goes above.1 (f ∷ path) counts.1 e counts.0 (ap is_near_path is))

  pub walks : (i : ℕ) (w : Winner) → slice_get rows i ≡ Some w → (scope : Scope) × Walk graph won scope w.edge.key
  walks i w got =
      let p = path_of rows i w got in
      let is = wins i w p in
      own w.edge p.front (mediated.counts w.edge.key (w.edge ∷ p.front) is) is

  -- a winner stands at its key's place
  clash : (i j : ℕ) (v w : Winner) → slice_get rows i ≡ Some v → slice_get rows j ≡ Some w → v.edge.key ≡ w.edge.key → i < j → ⊥
  clash i j v w got_v got_w same before =
      let p = path_of rows i v got_v in
      let q = path_of rows j w got_w in
      let d = v.edge ∷ p.front in
      let apart = mediated.one i j d before (slice_get_within won j (w.edge ∷ q.front) q.got) in
      let first : get_or won i d ≡ v.edge ∷ p.front = get_or_from_slice_get won i (v.edge ∷ p.front) d p.got in
      let second : get_or won j d ≡ w.edge ∷ q.front = get_or_from_slice_get won j (w.edge ∷ q.front) d q.got in
      false≢true
      (sym (ap (λ x. shares_end x (get_or won j d)) (sym first) ∙ ap (λ y. shares_end (get_or won i d) y) refl ∙ apart)
      ∙ ap (λ y. shares_end (v.edge ∷ p.front) y) second
      ∙ ap (same_key w.edge.key) same
      ∙ same_self w.edge.key)

  pub stands_there : (i : ℕ) (w : Winner) → slice_get rows i ≡ Some w → place_of rows w.edge.key ≡ Some i
  stands_there i w got = by found (order found.0 i)
    where
      some : is_some (row_of rows w.edge.key) ≡ true
      some = sym (has_path rows w.edge.key) ∙ ap is_some (wins i w (path_of rows i w got))

      found : (j : ℕ) × (place_of rows w.edge.key ≡ Some j)
      found = has_place rows w.edge.key some

      order : (a b : ℕ) → (a ≡ b) ⊎ ((a < b) ⊎ (b < a))
      order zero zero = inl refl
      order zero (suc b) = inr (inl (omega arith))
      order (suc a) zero = inr (inr (omega arith))
      order (suc a) (suc b) = lift (order a b)
        where
          lift : (a ≡ b) ⊎ ((a < b) ⊎ (b < a)) → (suc a ≡ suc b) ⊎ ((suc a < suc b) ⊎ (suc b < suc a))
          lift (inl e) = inl (ap suc e)
          lift (inr (inl l)) = inr (inl (omega (arith, l)))
          lift (inr (inr l)) = inr (inr (omega (arith, l)))

      by : (f : (j : ℕ) × (place_of rows w.edge.key ≡ Some j)) → (f.0 ≡ i) ⊎ ((f.0 < i) ⊎ (i < f.0)) → place_of rows w.edge.key ≡ Some i
      by f (inl same) = f.1 ∙ ap Some same
      by f (inr (inl less)) =
          let at = placed rows w.edge.key f.0 f.1 in
          absurd (clash f.0 i at.row w at.got got (sym (same_key_at rows w.edge.key f.0 at.row at at.got)) less)
      by f (inr (inr more)) =
          let at = placed rows w.edge.key f.0 f.1 in
          absurd (clash i f.0 w at.row got at.got (same_key_at rows w.edge.key f.0 at.row at at.got) more)

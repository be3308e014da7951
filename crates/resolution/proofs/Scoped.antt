-- The scopes that are found are the winners' scopes.
use Rattle.std.proofs.Common.{◌≡◌, ℕ, zero, suc, ◌+◌, ◌<◌, Bool, true, false, List, [], ◌∷◌, ◌++◌, flat_map, get_or, length, map, slice_get, Option, Some, None, is_none, unwrap_or, refl, sym, ap, subst, ◌∙◌, arith, if◌then◌else◌}
use Rattle.std.proofs.lemmas.Bool.{false≢true}
use Rattle.std.proofs.lemmas.Option.{slice_get_within}
use Rattle.mvn_base.specs.declared.key.Key.{Key}
use Rattle.model_types.specs.declared.dependency.Dependency.{Dependency}
use Rattle.collector.specs.declared.edge.Edge.{Edge}
use Rattle.collector.specs.declared.scope.Scope.{Scope}
use Rattle.collector.specs.declared.scope.Scope.TheVariants.{Test}
use Rattle.resolution.specs.Walks as places
use Rattle.resolution.specs.declared.link.Link.{Link}
use Rattle.mediation.specs.Libraries.{Libraries, graph_of}
use Rattle.mediation.specs.Rows.{ArePlaced, IsWhole, edges_below, paths_of}
use Rattle.mediation.specs.declared.winner.Winner.{Winner}
use Rattle.mediation.proofs.Paths.{length_paths}
use Rattle.collector.specs.Winners.{Path}
use Rattle.resolution.specs.Links.{AreDeclared, AreWidest, found_scope, links, links_below, links_of, scope_at, scopes_from, starts, starts_of}
use Rattle.resolution.specs.Scopes.{IsScope, Walk, is_single}
use Rattle.resolution.proofs.Placed.{PathOf, path_of, some_is_none}
use Rattle.resolution.proofs.Walking.{complete, sound, stands_there, walks}

-- the scope at a place of the list
scope_there : (widest : List (Option Scope)) (rows : List Winner) (k at : ℕ) (w : Winner) → slice_get rows k ≡ Some w → get_or (scopes_from widest at rows) k Test ≡ scope_at widest (at + k) w
scope_there widest [] k at w is = absurd (some_is_none w (sym is))
scope_there widest (v ∷ rows) zero at w is =
    let here : at ≡ at + 0 = omega arith in
    ap (scope_at widest at) (ap (λ o. unwrap_or o v) is) ∙ ap (λ n. scope_at widest n w) here
scope_there widest (v ∷ rows) (suc k) at w is =
    let there : at + 1 + k ≡ at + suc k = omega arith in
    scope_there widest rows k (at + 1) w is ∙ ap (λ n. scope_at widest n w) there

got_row : (rows : List Winner) (k : ℕ) → k < length rows → (w : Winner) × (slice_get rows k ≡ Some w)
got_row [] k low = absurd (never k low)
  where
    never : (k : ℕ) → k < 0 → ⊥
    never k low = omega (arith, low)
got_row (w ∷ rows) zero low = (w, refl)
got_row (w ∷ rows) (suc k) low = got_row rows k (omega (arith, low))

mapped_long : {B : Type 0} (f : Winner → B) (rows : List Winner) → length (map f rows) ≡ length rows
mapped_long f [] = refl
mapped_long f (w ∷ rows) = ap suc (mapped_long f rows)

pub links_long : (managed : List (Key × Dependency)) (rows : List Winner) → length (links managed rows) ≡ length rows
links_long managed rows = mapped_long (links_below managed rows) rows

mapped_twice : {B C : Type 0} (g : B → C) (f : Winner → B) (rows : List Winner) → map g (map f rows) ≡ map (λ w. g (f w)) rows
mapped_twice g f [] = refl
mapped_twice g f (w ∷ rows) = ap (λ l. g (f w) ∷ l) (mapped_twice g f rows)

-- what is the widest of lists that hold what is declared is so of the declarations
pub widest_declared : (managed : List (Key × Dependency)) (direct : List Dependency) (rows : List Winner) (own : List Edge) (below : List (List Edge)) (places : List ℕ) (widest : List (Option Scope))
    → AreDeclared managed direct rows own below places → (ArePlaced rows (own ++ flat_map (λ edges. edges) below) places → AreWidest (starts_of rows own) (map (links_of rows) below) widest) → AreWidest (starts rows direct) (links managed rows) widest
widest_declared managed direct rows own below places widest declared given =
    let found : AreWidest (starts_of rows own) (map (links_of rows) below) widest = given declared.placed in
    let links_are : map (links_of rows) below ≡ links managed rows = ap (map (links_of rows)) declared.below_is ∙ mapped_twice (links_of rows) (edges_below managed) rows in
    subst (λ l. AreWidest (starts rows direct) l widest) links_are (subst (λ own. AreWidest (starts_of rows own) (map (links_of rows) below) widest) declared.own_is found)

-- what is the widest of lists of links is so of those that are found
pub widest_found : (rows : List Winner) (own : List Edge) (below : List (List Edge)) (starts : List Link) (links : List (List Link)) (widest : List (Option Scope)) → starts ≡ starts_of rows own → links ≡ map (links_of rows) below
    → AreWidest starts links widest → AreWidest (starts_of rows own) (map (links_of rows) below) widest
widest_found rows own below starts links widest starts_are links_are found =
    subst (λ l. AreWidest (starts_of rows own) l widest) links_are (subst (λ s. AreWidest s links widest) starts_are found)

module _ (libraries : Libraries) (managed : List (Key × Dependency)) (direct : List Dependency) (rows : List Winner) (whole : IsWhole libraries (graph_of libraries managed direct) rows)
    (widest : List (Option Scope)) (found : (place : ℕ) → place < length (links managed rows) → places.IsWidest (starts rows direct) (links managed rows) place (get_or widest place None)) where
  abbrev pub IsWinnersScope : Path → Scope → Type 0
  IsWinnersScope path scope = IsScope (graph_of libraries managed direct) (paths_of rows) path scope

  -- the widest that was found, where the project doesn't declare the winner
  below : (k : ℕ) (w : Winner) (front : Path) → slice_get rows k ≡ Some w → is_single (w.edge ∷ front) ≡ false → k < length (links managed rows) → IsWinnersScope (w.edge ∷ front) (found_scope (get_or widest k None))
  below k w [] got far low = absurd (false≢true (sym far))
  below k w (f ∷ front) got far low = by (get_or widest k None) (found k low)
    where
      there : (scope : Scope) → Walk (graph_of libraries managed direct) (paths_of rows) scope w.edge.key → places.Walk (starts rows direct) (links managed rows) scope k
      there scope walk = complete libraries managed direct rows whole scope w.edge.key walk k (stands_there libraries managed direct rows whole k w got)

      by : (o : Option Scope) → places.IsWidest (starts rows direct) (links managed rows) k o → IsWinnersScope (w.edge ∷ f ∷ front) (found_scope o)
      by None none =
          let own = walks libraries managed direct rows whole k w got in
          absurd (none own.0 (there own.0 own.1))
      by (Some scope) is =
          let at = sound libraries managed direct rows whole scope k is.0 in
          let same : at.row ≡ w = ap (λ o. unwrap_or o w) (sym at.got ∙ got) in
          (subst (λ v. Walk (graph_of libraries managed direct) (paths_of rows) scope v.edge.key) same at.walk, λ other walk. is.1 other (there other walk))

  -- the declared scope, where it does
  near : (e : Edge) (front : Path) → is_single (e ∷ front) ≡ true → IsWinnersScope (e ∷ front) e.scope
  near e [] is = refl
  near e (f ∷ front) is = absurd (false≢true is)

  one_scope : (k : ℕ) (w : Winner) → slice_get rows k ≡ Some w → k < length (links managed rows) → (p : PathOf (paths_of rows) k w) → IsWinnersScope (w.edge ∷ p.front) (scope_at widest k w)
  one_scope k w got low p = by (is_none w.above) refl
    where
      by : (b : Bool) → is_none w.above ≡ b → IsWinnersScope (w.edge ∷ p.front) (if b then w.edge.scope else found_scope (get_or widest k None))
      by true is = near w.edge p.front (p.single ∙ is)
      by false is = below k w p.front got (p.single ∙ is) low

  pub scoped : (scopes : List Scope) → scopes ≡ scopes_from widest 0 rows → length (links managed rows) ≡ length rows
      → (place : ℕ) (path : Path) → slice_get (paths_of rows) place ≡ Some path → IsWinnersScope path (get_or scopes place Test)
  scoped scopes is long place path got =
      let low : place < length rows = omega (arith, slice_get_within (paths_of rows) place path got, length_paths rows) in
      let row = got_row rows place low in
      let p = path_of rows place row.0 row.1 in
      let same : row.0.edge ∷ p.front ≡ path = ap (λ o. unwrap_or o path) (sym p.got ∙ got) in
      let zero_more : 0 + place ≡ place = omega arith in
      let scope : scope_at widest place row.0 ≡ get_or scopes place Test =
      sym (ap (λ l. get_or l place Test) is ∙ scope_there widest rows place 0 row.0 row.1 ∙ ap (λ n. scope_at widest n row.0) zero_more) in
      subst (λ s. IsWinnersScope path s) scope (subst (λ q. IsWinnersScope q (scope_at widest place row.0)) same
      (one_scope place row.0 row.1 (omega (arith, low, long)) p))

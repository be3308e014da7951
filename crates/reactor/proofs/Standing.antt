-- Edges that stand in lists of edges.
use Rattle.std.proofs.Common.{◌≡◌, ◌⊎◌, inl, inr, ℕ, zero, suc, ◌+◌, ◌<◌, ◌≤◌, Bool, true, false, ◌||◌, ◌==◌, List, [], ◌∷◌, ◌++◌, flat_map, get_or, length, map, Option, None, Some, slice_get, refl, sym, ap, subst, ◌∙◌, arith, if◌then◌else◌}
use Rattle.std.proofs.lemmas.Bool.{false≢true}
use Rattle.std.proofs.lemmas.Bool.Decides.{nat_tests}
use Rattle.reactor_order.specs.Graph.{Edges, has, upstreams}
use Rattle.reactor_order.specs.Keep.{Keeps}
use Rattle.reactor_order.proofs.Marking.{has_append}
use Rattle.std.specs.Cmp.Lexicographic.{nat_list_eq_equiv}
use Rattle.std.specs.List.{list_all, list_any}
use Rattle.std.specs.Option.{option_map_or}
use Rattle.std.specs.Prelude.{Contains, codes, slice_index_or, not, ◌&&◌, nat_lt, Result, Ok, Err}
use Rattle.std.specs.Str.{bytes_eq}
use Rattle.mvn_base.specs.Names.{has_expression, is_dots, is_filled, is_version, is_version_byte}
use Rattle.mvn_base.specs.declared.gav.Gav.{Gav}
use Rattle.model_types.specs.declared.model.Model.{Model}
use Rattle.versions.specs.Requirements.{divider_place, is_divider, requirement, soft}
use Rattle.versions.specs.declared.requirement.Requirement.{Requirement}
use Rattle.versions.specs.declared.requirement.Requirement.TheVariants.{Soft}
use Rattle.reactor.specs.Edges.{by_winner, edges_to, firm_from, firm_upstreams}
use Rattle.reactor.specs.Naming.{asks_for, is_asked, is_named, named}
use Rattle.reactor.specs.Numbers.{numbers_from}
use Rattle.classpaths.specs.declared.resolution.Resolution.{Resolution}
use Rattle.classpaths.specs.declared.resolution.Resolved.{Resolved}
use Rattle.reactor.proofs.Winners.{at_number}
use Rattle.reactor.specs.Edges as given
use Rattle.cli_words.specs.declared.command_line.CommandLine.{CommandLine}
use Rattle.reactor.specs.Reactor.{AreBuilt, StandsOnWinners}
use Rattle.reactor.specs.Upstreams.{all_upstreams, firm_edges, places_from, upstream_places, winner_gavs}
use Rattle.reactor.specs.declared.modules.ReactorModules.{ReactorModules}

-- ---- edges that stand in a list of edges

left_or : (a b : Bool) → a ≡ true → (a || b) ≡ true
left_or true b e = refl
left_or false b e = absurd (false≢true e)

right_or : (a b : Bool) → b ≡ true → (a || b) ≡ true
right_or true b e = refl
right_or false b e = e

same_number : (x : ℕ) → (x == x) ≡ true
same_number x = grind (arith, nat_tests)

upstreams_both : (xs ys : Edges) (m : ℕ) → upstreams (xs ++ ys) m ≡ upstreams xs m ++ upstreams ys m
upstreams_both [] ys m = refl
upstreams_both (e ∷ xs) ys m = by (e.0 == m) (upstreams_both xs ys m)
  where
    by : (b : Bool) → upstreams (xs ++ ys) m ≡ upstreams xs m ++ upstreams ys m
        → (if b then e.1 ∷ upstreams (xs ++ ys) m else upstreams (xs ++ ys) m) ≡ (if b then e.1 ∷ upstreams xs m else upstreams xs m) ++ upstreams ys m
    by true rest = ap (λ l. e.1 ∷ l) rest
    by false rest = rest

in_left : (xs ys : Edges) (m u : ℕ) → has (upstreams xs m) u ≡ true → has (upstreams (xs ++ ys) m) u ≡ true
in_left xs ys m u is = ap (λ l. has l u) (upstreams_both xs ys m) ∙ has_append (upstreams xs m) (upstreams ys m) u ∙ left_or (has (upstreams xs m) u) (has (upstreams ys m) u) is

in_right : (xs ys : Edges) (m u : ℕ) → has (upstreams ys m) u ≡ true → has (upstreams (xs ++ ys) m) u ≡ true
in_right xs ys m u is = ap (λ l. has l u) (upstreams_both xs ys m) ∙ has_append (upstreams xs m) (upstreams ys m) u ∙ right_or (has (upstreams xs m) u) (has (upstreams ys m) u) is

own_edges : (n : ℕ) (us : List ℕ) → upstreams (edges_to n us) n ≡ us
own_edges n [] = refl
own_edges n (u ∷ us) = rw (same_number n) (ap (λ l. u ∷ l) (own_edges n us))

kept_in : (kept soft result : Edges) (m u : ℕ) → Keeps kept soft result → has (upstreams kept m) u ≡ true → has (upstreams result m) u ≡ true
kept_in kept [] result m u e is = subst (λ l. has (upstreams l m) u ≡ true) (sym e) is
kept_in kept (e ∷ soft) result m u (inl closes) is = kept_in kept soft result m u closes.1 is
kept_in kept (e ∷ soft) result m u (inr opens) is = kept_in (kept ++ e ∷ []) soft result m u opens.1 (in_left kept (e ∷ []) m u is)

-- ---- lists in lists

in_flat : (f : Gav → List ℕ) (winners : List Resolved) (k : ℕ) (w : Resolved) (u : ℕ) → k < length winners → slice_index_or winners k w ≡ w → has (f w.gav) u ≡ true
    → has (flat_map f (map (λ (x : Resolved). x.gav) winners)) u ≡ true
in_flat f [] k w u low same is = absurd (omega (arith, low))
in_flat f (y ∷ winners) zero w u low same is =
    has_append (f y.gav) (flat_map f (map (λ (x : Resolved). x.gav) winners)) u
    ∙ left_or (has (f y.gav) u) (has (flat_map f (map (λ (x : Resolved). x.gav) winners)) u) (ap (λ (x : Resolved). has (f x.gav) u) same ∙ is)
in_flat f (y ∷ winners) (suc k) w u low same is =
    has_append (f y.gav) (flat_map f (map (λ (x : Resolved). x.gav) winners)) u
    ∙ right_or (has (f y.gav) u) (has (flat_map f (map (λ (x : Resolved). x.gav) winners)) u) (in_flat f winners k w u (omega (arith, low)) same is)

-- ---- a number that passes has its place

places_have : (test : ℕ → Bool) (at : ℕ) (xs : List ℕ) (i : ℕ) → i < length xs → test (get_or xs i 0) ≡ true → has (places_from test at xs) (at + i) ≡ true
places_have test at [] i low passes = absurd (omega (arith, low))
places_have test at (x ∷ xs) zero low passes = by (test x) passes
  where
    same : (at == at + 0) ≡ true
    same = grind (arith, nat_tests)

    by : (b : Bool) → b ≡ true → has (if b then at ∷ places_from test (suc at) xs else places_from test (suc at) xs) (at + 0) ≡ true
    by true e = ap (λ b. b || has (places_from test (suc at) xs) (at + 0)) same
    by false e = absurd (false≢true e)
places_have test at (x ∷ xs) (suc i) low passes = by (test x) (places_have test (suc at) xs i (omega (arith, low)) passes)
  where
    one : suc at + i ≡ at + suc i
    one = omega arith

    by : (b : Bool) → has (places_from test (suc at) xs) (suc at + i) ≡ true → has (if b then at ∷ places_from test (suc at) xs else places_from test (suc at) xs) (at + suc i) ≡ true
    by true rest = right_or (at == at + suc i) (has (places_from test (suc at) xs) (at + suc i)) (subst (λ k. has (places_from test (suc at) xs) k ≡ true) one rest)
    by false rest = subst (λ k. has (places_from test (suc at) xs) k ≡ true) one rest

at_map : (f : ℕ → List ℕ) (xs : List ℕ) (p : ℕ) → p < length xs → get_or (map f xs) p [] ≡ f (get_or xs p 0)
at_map f [] p low = absurd (omega (arith, low))
at_map f (x ∷ xs) zero low = refl
at_map f (x ∷ xs) (suc p) low = at_map f xs p (omega (arith, low))

-- what a selected module has as an upstream has its place among the places of that module's upstreams
pub upstream_has_place : (kept : Edges) (selected : List ℕ) (p q : ℕ) → p < length selected → q < length selected
    → has (upstreams kept (get_or selected p 0)) (get_or selected q 0) ≡ true → has (get_or (all_upstreams kept selected) p []) q ≡ true
unfolding upstream_places
upstream_has_place kept selected p q low qlow is =
    ap (λ l. has l q) (at_map (upstream_places kept selected) selected p low)
    ∙ subst (λ k. has (upstream_places kept selected (get_or selected p 0)) k ≡ true) (let none_more : 0 + q ≡ q = omega arith in none_more) (places_have (has (upstreams kept (get_or selected p 0))) 0 selected q qlow is)

-- ---- numbers of modules that pass a test

numbers_have : (test : Gav → Bool) (at i : ℕ) (modules : List Model) (m : Model) → slice_get modules i ≡ Some m → test m.gav ≡ true → has (numbers_from test at modules) (at + i) ≡ true
numbers_have test at i [] m there passes = absurd (none there)
  where
    none : slice_get [] i ≡ Some m → ⊥
    none e = cc
numbers_have test at zero (x ∷ modules) m there passes = by (test x.gav) (ap (λ (y : Model). test y.gav) (inner x m there) ∙ passes)
  where
    inner : (a b : Model) → Some a ≡ Some b → a ≡ b
    inner a b e = ap (of a) e
      where
        of : Model → Option Model → Model
        of d None = d
        of d (Some y) = y

    same : (at == at + 0) ≡ true
    same = grind (arith, nat_tests)

    by : (b : Bool) → b ≡ true → has (if b then at ∷ numbers_from test (suc at) modules else numbers_from test (suc at) modules) (at + 0) ≡ true
    by true e = ap (λ b. b || has (numbers_from test (suc at) modules) (at + 0)) same
    by false e = absurd (false≢true e)
numbers_have test at (suc i) (x ∷ modules) m there passes = by (test x.gav) (numbers_have test (suc at) i modules m there passes)
  where
    one : suc at + i ≡ at + suc i
    one = omega arith

    by : (b : Bool) → has (numbers_from test (suc at) modules) (suc at + i) ≡ true → has (if b then at ∷ numbers_from test (suc at) modules else numbers_from test (suc at) modules) (at + suc i) ≡ true
    by true rest = right_or (at == at + suc i) (has (numbers_from test (suc at) modules) (at + suc i)) (subst (λ k. has (numbers_from test (suc at) modules) k ≡ true) one rest)
    by false rest = subst (λ k. has (numbers_from test (suc at) modules) k ≡ true) one rest

-- ---- a valid version asks for itself

and_first : (a b : Bool) → (a && b) ≡ true → a ≡ true
and_first true b e = refl
and_first false b e = e

and_second : (a b : Bool) → (a && b) ≡ true → b ≡ true
and_second true b e = e
and_second false b e = absurd (false≢true e)

-- a byte of a version is no divider
no_divider : (b : ℕ) → is_version_byte b ≡ true → is_divider b ≡ false
unfolding is_version_byte
no_divider b e = by (b == 91) (b == 93) (b == 40) (b == 41) (b == 44) refl refl refl refl refl
  where
    allowed : list_any (λ c. c == b) (codes "\\/:\"<>|?*[](),") ≡ false
    allowed = grind (arith, nat_tests, and_second (nat_lt 32 b) (not (list_any (λ c. c == b) (codes "\\/:\"<>|?*[](),"))) e)

    by : (o p q r s : Bool) → (b == 91) ≡ o → (b == 93) ≡ p → (b == 40) ≡ q → (b == 41) ≡ r → (b == 44) ≡ s → is_divider b ≡ false
    by o p q r s eo ep eq er es = grind (arith, nat_tests, allowed)

divider_end : (text : List ℕ) → list_all is_version_byte text ≡ true → divider_place text ≡ length text
divider_end [] e = refl
divider_end (b ∷ text) e =
    ap (λ t. if t then 0 else suc (divider_place text)) (no_divider b (and_first (is_version_byte b) (list_all is_version_byte text) e))
    ∙ ap suc (divider_end text (and_second (is_version_byte b) (list_all is_version_byte text) e))

third : (a b c d : Bool) → (a && b && c && d) ≡ true → c ≡ true
third true true true d e = refl
third true true false d e = absurd (false≢true e)
third true false c d e = absurd (false≢true e)
third false b c d e = absurd (false≢true e)

abbrev as_soft : List ℕ → Result Requirement ℕ
as_soft version = Ok (Soft version)

is_soft : (version : List ℕ) → is_version version ≡ true → requirement version ≡ as_soft version
unfolding is_version requirement
is_soft [] e = absurd (false≢true e)
is_soft (b ∷ text) e =
    let bytes = third (is_filled (b ∷ text)) (not (is_dots (b ∷ text))) (list_all is_version_byte (b ∷ text)) (not (has_expression (b ∷ text))) e in
    let test : (divider_place (b ∷ text) == length (b ∷ text)) ≡ true = ap (λ n. n == length (b ∷ text)) (divider_end (b ∷ text) bytes) ∙ same_number (length (b ∷ text)) in
    rw test refl

asks_itself : (version : List ℕ) → is_version version ≡ true → asks_for version (requirement version) ≡ true
asks_itself version e = ap (asks_for version) (is_soft version e) ∙ nat_list_eq_equiv.refl version

names_itself : (gav : Gav) → is_version gav.version ≡ true → is_named gav.group gav.artifact (Some gav.version) gav ≡ true
names_itself gav e =
    rw (nat_list_eq_equiv.refl gav.artifact) (rw (nat_list_eq_equiv.refl gav.group) (asks_itself gav.version e))

-- a winner names the module that has its coordinates
winner_names : (modules : List Model) (i : ℕ) (m : Model) → slice_get modules i ≡ Some m → is_version m.gav.version ≡ true → has (by_winner modules m.gav) i ≡ true
unfolding named
winner_names modules i m there valid =
    let none_more : 0 + i ≡ i = omega arith in
    subst (λ k. has (numbers_from (is_named m.gav.group m.gav.artifact (Some m.gav.version)) 0 modules) k ≡ true) none_more
    (numbers_have (is_named m.gav.group m.gav.artifact (Some m.gav.version)) 0 i modules m there (names_itself m.gav valid))

-- ---- the firm edges of the module of a number

firm_has : (all : List Model) (winners : List (List Gav)) (at i : ℕ) (modules : List Model) (m : Model) (u : ℕ) → slice_get modules i ≡ Some m
    → has (flat_map (by_winner all) (get_or winners (at + i) [])) u ≡ true → has (upstreams (firm_from all winners at modules) (at + i)) u ≡ true
firm_has all winners at i [] m u there is = absurd (none there)
  where
    none : slice_get [] i ≡ Some m → ⊥
    none e = cc
firm_has all winners at zero (x ∷ modules) m u there is =
    in_left (edges_to at (firm_upstreams all x ++ flat_map (by_winner all) (get_or winners at []))) (firm_from all winners (suc at) modules) (at + 0) u
    (subst (λ k. has (upstreams (edges_to at (firm_upstreams all x ++ flat_map (by_winner all) (get_or winners at []))) k) u ≡ true) (sym none_more)
    (ap (λ l. has l u) (own_edges at (firm_upstreams all x ++ flat_map (by_winner all) (get_or winners at [])))
    ∙ has_append (firm_upstreams all x) (flat_map (by_winner all) (get_or winners at [])) u
    ∙ right_or (has (firm_upstreams all x) u) (has (flat_map (by_winner all) (get_or winners at [])) u)
    (subst (λ k. has (flat_map (by_winner all) (get_or winners k [])) u ≡ true) none_more is)))
  where
    none_more : at + 0 ≡ at
    none_more = omega arith
firm_has all winners at (suc i) (x ∷ modules) m u there is =
    in_right (edges_to at (firm_upstreams all x ++ flat_map (by_winner all) (get_or winners at []))) (firm_from all winners (suc at) modules) (at + suc i) u
    (subst (λ k. has (upstreams (firm_from all winners (suc at) modules) k) u ≡ true) one
    (firm_has all winners (suc at) i modules m u there (subst (λ k. has (flat_map (by_winner all) (get_or winners k [])) u ≡ true) (sym one) is)))
  where
    one : suc at + i ≡ at + suc i
    one = omega arith

-- a module stands on the module that a winner of its dependencies is
winner_is_upstream : (modules : List Model) (resolutions : List Resolution) (soft kept : Edges) (n u : ℕ) (m v : Model) (r : Resolution) (w : Resolved)
    → Keeps (firm_from modules (map winner_gavs resolutions) 0 modules) soft kept → slice_get modules n ≡ Some m → slice_get modules u ≡ Some v
    → slice_get resolutions n ≡ Some r → Contains r.winners w → v.gav ≡ w.gav → is_version v.gav.version ≡ true → has (upstreams kept n) u ≡ true
winner_is_upstream modules resolutions soft kept n u m v r w keeps at_n at_u resolved wins same valid =
    let none_more : 0 + n ≡ n = omega arith in
    let winners : get_or (map winner_gavs resolutions) n [] ≡ winner_gavs r = at_number resolutions n ∙ ap (λ o. option_map_or winner_gavs o []) resolved in
    let names : has (by_winner modules w.gav) u ≡ true = subst (λ g. has (by_winner modules g) u ≡ true) same (winner_names modules u v at_u valid) in
    let flat : has (flat_map (by_winner modules) (winner_gavs r)) u ≡ true = in_flat (by_winner modules) r.winners wins.0 w u wins.1 wins.2 names in
    let there : has (flat_map (by_winner modules) (get_or (map winner_gavs resolutions) n [])) u ≡ true = subst (λ l. has (flat_map (by_winner modules) l) u ≡ true) (sym winners) flat in
    kept_in (firm_from modules (map winner_gavs resolutions) 0 modules) soft kept n u keeps
    (subst (λ k. has (upstreams (firm_from modules (map winner_gavs resolutions) 0 modules) k) u ≡ true) none_more
    (firm_has modules (map winner_gavs resolutions) 0 n modules m u at_n (subst (λ k. has (flat_map (by_winner modules) (get_or (map winner_gavs resolutions) k [])) u ≡ true) (sym none_more) there)))

firm_is : (modules : List Model) (resolutions : List Resolution) → firm_edges modules resolutions ≡ firm_from modules (map winner_gavs resolutions) 0 modules
unfolding firm_edges given.firm_edges
firm_is modules resolutions = refl

pub stands_on_winners : (modules : List Model) (resolutions : List Resolution) (line : CommandLine) (built : ReactorModules) → AreBuilt modules resolutions line built → StandsOnWinners modules resolutions built
stands_on_winners modules resolutions line built b place other r w m v low other_low at_place at_other resolved wins same valid =
    let keeps = subst (λ firm. Keeps firm (given.soft_edges modules) b.found.edges) (firm_is modules resolutions) b.ordered.0 in
    let there = winner_is_upstream modules resolutions (given.soft_edges modules) b.found.edges (get_or built.numbers place 0) (get_or built.numbers other 0) m v r w keeps at_place at_other resolved wins same valid in
    ap (λ l. has (get_or l place []) other) b.upstreams ∙ upstream_has_place b.found.edges built.numbers place other low other_low there

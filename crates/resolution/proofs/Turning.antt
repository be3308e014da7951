-- Winners one after another.
use Rattle.std.proofs.Common.{◌≡◌, ℕ, zero, suc, ◌+◌, ◌-◌, ◌<◌, ◌≤◌, Bool, true, false, List, [], ◌∷◌, ◌++◌, drop, flat_map, get_or, length, map, nat_lt, replicate, slice_get, Option, Some, None, refl, sym, ap, ◌∙◌, arith, append-nil, append_assoc, unwrap_or, if◌then◌else◌}
use Rattle.std.specs.Option.{option_to_list}
use Rattle.std.proofs.lemmas.Bool.Decides.{nat_tests}
use Rattle.std.proofs.lemmas.Grind.{fold-append}
use Rattle.std.proofs.lemmas.List.{drop-drop, drop_all, drop_more}
use Rattle.collector.specs.declared.edge.Edge.{Edge}
use Rattle.collector.specs.declared.scope.Scope.{Scope}
use Rattle.resolution.specs.declared.link.Link.{Link}
use Rattle.resolution.specs.Search.{Search, below_scope, raised, raised_all, turned}
use Rattle.resolution.specs.Walks.{walked}
use Rattle.mediation.specs.declared.winner.Winner.{Winner}
use Rattle.mediation.specs.Rows.{ArePlaced, place_of}
use Rattle.resolution.specs.Links.{PlacesBegin, begins_within, cut_links, each_from, link_at, link_below, link_below_at, link_below_by, link_by, link_to, links_of, of_edge, onward, scope_at, scopes_from, starts_of}

next_scope : (widest : List (Option Scope)) (rows : List Winner) (k at : ℕ) → scopes_from widest at (drop k rows) ≡ map (scope_at widest at) (option_to_list (slice_get rows k)) ++ scopes_from widest (at + 1) (drop (suc k) rows)
next_scope widest [] zero at = refl
next_scope widest [] (suc k) at = refl
next_scope widest (w ∷ rows) zero at = refl
next_scope widest (w ∷ rows) (suc k) at = next_scope widest rows k at

-- so with the scopes
pub scope_one : (widest : List (Option Scope)) (old new all : List Scope) (rows : List Winner) (k : ℕ) → new ≡ old ++ map (scope_at widest k) (option_to_list (slice_get rows k))
    → old ++ scopes_from widest k (drop k rows) ≡ all → new ++ scopes_from widest (k + 1) (drop (k + 1) rows) ≡ all
scope_one widest old new all rows k is before =
    let next : k + 1 ≡ suc k = omega arith in
    ap (λ n. new ++ scopes_from widest (k + 1) (drop n rows)) next
    ∙ ap (λ l. l ++ scopes_from widest (k + 1) (drop (suc k) rows)) is
    ∙ append_assoc old (map (scope_at widest k) (option_to_list (slice_get rows k))) (scopes_from widest (k + 1) (drop (suc k) rows))
    ∙ ap (λ l. old ++ l) (sym (next_scope widest rows k k))
    ∙ before

pub scope_all : (widest : List (Option Scope)) (list all : List Scope) (rows : List Winner) (k : ℕ) → length rows ≤ k → list ++ scopes_from widest k (drop k rows) ≡ all → list ≡ all
scope_all widest list all rows k low is = sym (append-nil list) ∙ ap (λ l. list ++ scopes_from widest k l) (sym (drop_all k rows low)) ∙ is

pub scopes_long : (widest : List (Option Scope)) (rows : List Winner) (at : ℕ) → length (scopes_from widest at rows) ≡ length rows
scopes_long widest [] at = refl
scopes_long widest (w ∷ rows) at = ap suc (scopes_long widest rows (at + 1))

-- nothing stands behind the end
pub past_all : (places : List ℕ) (count : ℕ) → length places ≤ count → drop (length places) places ≡ drop count places
past_all places count low = drop_all (length places) places (omega arith) ∙ sym (drop_all count places low)

cons_none : {A : Type 0} (x : A) (xs : List A) → x ∷ xs ≡ [] → ⊥
cons_none x xs e = cc

none_is : {A : Type 0} (x : A) → ◌≡◌ {A = Option A} None (Some x) → ⊥
none_is x is = cc

-- each edge of a list, one more, and all
raise_step : (brings : Link → Scope) (f : ℕ → Edge → List Link) (s t all : Search) (edges : List Edge) (k at : ℕ) → t ≡ raised_all brings s (of_edge (f at) (slice_get edges k))
    → raised_all brings s (each_from f at (drop k edges)) ≡ all → raised_all brings t (each_from f (at + 1) (drop (suc k) edges)) ≡ all
raise_step brings f s t all [] zero at is before = is ∙ before
raise_step brings f s t all [] (suc k) at is before = is ∙ before
raise_step brings f s t all (e ∷ edges) zero at is before =
    ap (λ u. raised_all brings u (each_from f (at + 1) edges)) is
    ∙ sym (fold-append (λ s l. raised s l.to (brings l)) s (f at e) (each_from f (at + 1) edges))
    ∙ before
raise_step brings f s t all (e ∷ edges) (suc k) at is before = raise_step brings f s t all edges k at is before

pub raise_one : (brings : Link → Scope) (f : ℕ → Edge → List Link) (s t all : Search) (edges : List Edge) (k : ℕ) → t ≡ raised_all brings s (of_edge (f k) (slice_get edges k))
    → raised_all brings s (each_from f k (drop k edges)) ≡ all → raised_all brings t (each_from f (k + 1) (drop (k + 1) edges)) ≡ all
raise_one brings f s t all edges k is before =
    let next : k + 1 ≡ suc k = omega arith in
    ap (λ n. raised_all brings t (each_from f (k + 1) (drop n edges))) next ∙ raise_step brings f s t all edges k k is before

pub raise_all : (brings : Link → Scope) (f : ℕ → Edge → List Link) (s all : Search) (edges : List Edge) (k : ℕ) → length edges ≤ k → raised_all brings s (each_from f k (drop k edges)) ≡ all → s ≡ all
raise_all brings f s all edges k low is = sym (ap (λ l. raised_all brings s (each_from f k l)) (drop_all k edges low)) ∙ is

-- where the lists of places begin: one more, and all
next_list : {A : Type 0} (below : List A) (k : ℕ) (edges : A) → k < length below → edges ≡ get_or below k edges → drop k below ≡ edges ∷ drop (k + 1) below
next_list below k edges low at = drop_more below k edges low ∙ ap (λ l. l ∷ drop (k + 1) below) (sym at)

pub begins_one : (end at next : ℕ) (old new all : List ℕ) (lists : List (List Edge)) (k : ℕ) (list edges : List Edge) → k < length lists → list ≡ get_or lists k list → edges ≡ list → next ≡ onward end at (length edges)
    → new ≡ old ++ at ∷ [] → old ++ begins_within end at (drop k lists) ≡ all → new ++ begins_within end next (drop (k + 1) lists) ≡ all
begins_one end at next old new all lists k list edges low item same next_is is before =
    ap (λ n. new ++ begins_within end n (drop (k + 1) lists)) (next_is ∙ ap (λ l. onward end at (length l)) same)
    ∙ ap (λ l. l ++ begins_within end (onward end at (length list)) (drop (k + 1) lists)) is
    ∙ append_assoc old (at ∷ []) (begins_within end (onward end at (length list)) (drop (k + 1) lists))
    ∙ ap (λ l. old ++ begins_within end at l) (sym (next_list lists k list low item))
    ∙ before

pub begins_all : (end at : ℕ) (list all : List ℕ) (lists : List (List Edge)) (k : ℕ) → length lists ≤ k → list ++ begins_within end at (drop k lists) ≡ all → list ≡ all
begins_all end at list all lists k low is = sym (append-nil list) ∙ ap (λ l. list ++ begins_within end at l) (sym (drop_all k lists low)) ∙ is

-- what is behind the place of the next list
behind_onward : (places : List ℕ) (at count : ℕ) → drop (onward (length places) at count) places ≡ drop count (drop at places)
behind_onward places at count = by (nat_lt count (length places - at)) refl
  where
    by : (b : Bool) → nat_lt count (length places - at) ≡ b → drop (if b then at + count else length places) places ≡ drop count (drop at places)
    by true is = sym (drop-drop count at places)
    by false is =
        let far : length places ≤ at + count = grind (arith, nat_tests, is) in
        past_all places (at + count) far ∙ sym (drop-drop count at places)

-- the links of the list at a place, from where its places begin
links_cut : (rows : List Winner) (places : List ℕ) (lists : List (List Edge)) (at k : ℕ) (edges : List Edge) → slice_get lists k ≡ Some edges
    → get_or (cut_links rows (drop at places) lists) k [] ≡ each_from (link_below_by rows (drop (get_or (begins_within (length places) at lists) k 0) places)) 0 edges
links_cut rows places [] at k edges is = absurd (none_is edges is)
links_cut rows places (list ∷ lists) at zero edges is = ap (λ o. each_from (link_below_by rows (drop at places)) 0 (unwrap_or o list)) is
links_cut rows places (list ∷ lists) at (suc k) edges is =
    ap (λ l. get_or (cut_links rows l lists) k []) (sym (behind_onward places at (length list)))
    ∙ links_cut rows places lists (onward (length places) at (length list)) k edges is

links_past : (rows : List Winner) (places : List ℕ) (lists : List (List Edge)) (k : ℕ) → slice_get lists k ≡ None → get_or (cut_links rows places lists) k [] ≡ []
links_past rows places [] k is = refl
links_past rows places (list ∷ lists) zero is = absurd (none_is list (sym is))
links_past rows places (list ∷ lists) (suc k) is = links_past rows (drop (length list) places) lists k is

-- a look at a place: along the links of its list, or along none
pub turned_at : (rows : List Winner) (places begins rest : List ℕ) (lists : List (List Edge)) (s t : Search) (place : ℕ) (above : Scope) (edges : List Edge) → begins ≡ begins_within (length places) 0 lists
    → get_or s.scopes place None ≡ Some above → slice_get lists place ≡ Some edges → rest ≡ drop (get_or begins place 0) places
    → t ≡ raised_all (walked above) s (each_from (link_below_by rows rest) 0 edges) → t ≡ turned (cut_links rows places lists) s place
turned_at rows places begins rest lists s t place above edges begin kept at rest_is is =
    is
    ∙ ap (λ l. raised_all (walked above) s (each_from (link_below_by rows l) 0 edges)) (rest_is ∙ ap (λ b. drop (get_or b place 0) places) begin)
    ∙ ap (λ l. raised_all (walked above) s l) (sym (links_cut rows places lists 0 place edges at))
    ∙ ap (λ o. below_scope o (get_or (cut_links rows places lists) place []) s) (sym kept)

pub turned_none : (below : List (List Link)) (s : Search) (place : ℕ) → get_or s.scopes place None ≡ None → s ≡ turned below s place
turned_none below s place none = ap (λ o. below_scope o (get_or below place []) s) (sym none)

along_none : (o : Option Scope) (s : Search) → s ≡ below_scope o [] s
along_none None s = refl
along_none (Some above) s = refl

pub turned_past : (rows : List Winner) (places : List ℕ) (lists : List (List Edge)) (s : Search) (place : ℕ) → slice_get lists place ≡ None → s ≡ turned (cut_links rows places lists) s place
turned_past rows places lists s place past =
    along_none (get_or s.scopes place None) s ∙ ap (λ l. below_scope (get_or s.scopes place None) l s) (sym (links_past rows places lists place past))

-- no scope yet at any place
abbrev none_for : List Edge → Option Scope
none_for edges = None

as_many : (rows : List Winner) (places : List ℕ) (lists : List (List Edge)) → map none_for lists ≡ replicate (length (cut_links rows places lists)) None
as_many rows places [] = refl
as_many rows places (list ∷ lists) = ap (λ l. None ∷ l) (as_many rows (drop (length list) places) lists)

pub none_yet : (rows : List Winner) (places : List ℕ) (lists : List (List Edge)) (scopes : List (Option Scope)) → scopes ≡ map none_for lists → scopes ≡ replicate (length (cut_links rows places lists)) None
none_yet rows places lists scopes is = is ∙ as_many rows places lists

got_behind : (edges more : List Edge) (k : ℕ) (e : Edge) → slice_get edges k ≡ Some e → slice_get (edges ++ more) k ≡ Some e
got_behind [] more k e is = absurd (none_is e is)
got_behind (d ∷ edges) more zero e is = is
got_behind (d ∷ edges) more (suc k) e is = got_behind edges more k e is

placed_begin : (rows : List Winner) (edges : List Edge) (places : List ℕ) → ArePlaced rows edges places → PlacesBegin rows edges places
placed_begin rows [] places are k e is = absurd (none_is e is)
placed_begin rows (d ∷ edges) [] are k e is = absurd (cons_none (place_of rows d.key) (map (λ e. place_of rows e.key) edges) are)
placed_begin rows (d ∷ edges) (p ∷ places) are zero e is =
    sym (ap (λ l. get_or l zero None) are) ∙ ap (λ o. place_of rows (unwrap_or o d).key) is
placed_begin rows (d ∷ edges) (p ∷ places) are (suc k) e is = placed_begin rows edges places (ap (λ l. drop (suc zero) l) are) k e is

-- of the places of some edges and of others the first are those of the first, and what is left those of the others
pub first_placed : (rows : List Winner) (edges more : List Edge) (places : List ℕ) → ArePlaced rows (edges ++ more) places → PlacesBegin rows edges places
first_placed rows edges more places are k e is = placed_begin rows (edges ++ more) places are k e (got_behind edges more k e is)

pub rest_placed : (rows : List Winner) (edges more : List Edge) (places : List ℕ) → ArePlaced rows (edges ++ more) places → ArePlaced rows more (drop (length edges) places)
rest_placed rows [] more places are = are
rest_placed rows (d ∷ edges) more [] are = absurd (cons_none (place_of rows d.key) (map (λ e. place_of rows e.key) (edges ++ more)) are)
rest_placed rows (d ∷ edges) more (p ∷ places) are = rest_placed rows edges more places (ap (λ l. drop (suc zero) l) are)

-- by the places of winners: what edges lead to
each_placed : (f : ℕ → Edge → List Link) (g : Edge → List Link) (at : ℕ) (edges : List Edge) → ((k : ℕ) (e : Edge) → slice_get edges k ≡ Some e → f (at + k) e ≡ g e) → each_from f at edges ≡ flat_map g edges
each_placed f g at [] same = refl
each_placed f g at (e ∷ edges) same =
    let here : at ≡ at + 0 = omega arith in
    ap (λ n. f n e ++ each_from f (at + 1) edges) here
    ∙ ap (λ l. l ++ each_from f (at + 1) edges) (same 0 e refl)
    ∙ ap (λ l. g e ++ l) (each_placed f g (at + 1) edges (λ k d is. further k d is))
  where
    further : (k : ℕ) (d : Edge) → slice_get edges k ≡ Some d → f (at + 1 + k) d ≡ g d
    further k d is =
        let there : at + 1 + k ≡ at + suc k = omega arith in
        ap (λ n. f n d) there ∙ same (suc k) d is

pub starts_placed : (rows : List Winner) (places : List ℕ) (own : List Edge) → PlacesBegin rows own places → each_from (link_by places) 0 own ≡ starts_of rows own
starts_placed rows places own begin = each_placed (link_by places) (link_to rows) 0 own (λ k e is. by k e is)
  where
    by : (k : ℕ) (e : Edge) → slice_get own k ≡ Some e → link_by places (0 + k) e ≡ link_to rows e
    by k e is =
        let same : 0 + k ≡ k = omega arith in
        ap (λ n. link_by places n e) same ∙ ap (link_at e) (begin k e is)

below_placed : (rows : List Winner) (places : List ℕ) (edges : List Edge) → PlacesBegin rows edges places → each_from (link_below_by rows places) 0 edges ≡ links_of rows edges
below_placed rows places edges begin = each_placed (link_below_by rows places) (link_below rows) 0 edges (λ k e is. by k e is)
  where
    by : (k : ℕ) (e : Edge) → slice_get edges k ≡ Some e → link_below_by rows places (0 + k) e ≡ link_below rows e
    by k e is =
        let same : 0 + k ≡ k = omega arith in
        ap (λ n. link_below_by rows places n e) same ∙ ap (link_below_at rows e) (begin k e is)

-- and what lists of edges do
pub lists_placed : (rows : List Winner) (places : List ℕ) (lists : List (List Edge)) → ArePlaced rows (flat_map (λ edges. edges) lists) places → cut_links rows places lists ≡ map (links_of rows) lists
lists_placed rows places [] are = refl
lists_placed rows places (list ∷ lists) are =
    ap (λ l. l ∷ cut_links rows (drop (length list) places) lists) (below_placed rows places list (first_placed rows list (flat_map (λ edges. edges) lists) places are))
    ∙ ap (λ l. links_of rows list ∷ l) (lists_placed rows (drop (length list) places) lists (rest_placed rows list (flat_map (λ edges. edges) lists) places are))

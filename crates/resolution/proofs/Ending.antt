-- The search ends with the widest scopes.
use Rattle.std.proofs.Common.{◌≡◌, ◌≢◌, ℕ, zero, suc, ◌+◌, ◌*◌, ◌<◌, ◌≤◌, ◌⊎◌, inl, inr, Bool, true, false, List, [], ◌∷◌, Contains, length, get_or, replicate, max, sum_by, Option, Some, None, refl, sym, ap, subst, ◌∙◌, arith, if◌then◌else◌}
use Rattle.std.proofs.lemmas.List.{get_or-replicate}
use Rattle.std.proofs.lemmas.List.Folds.{sum_by-replicate}
use Rattle.collector.specs.declared.scope.Scope.{Scope}
use Rattle.collector.specs.declared.scope.Scope.TheVariants.{Compile, Provided, Runtime, Test}
use Rattle.resolution.specs.declared.link.Link.{Link}
use Rattle.resolution.specs.Walks.{IsWidest, Walk, begins, goes, links_at, rank, scope_below, walked}
use Rattle.resolution.specs.Search.{Search, below_scope, raised_all, search_of, turned, width}
use Rattle.resolution.proofs.Raising.{IsIn, Raises, Waits, all_raised, at, got, in_from, in_to, same_or_not, total}

pub rank_few : (s : Scope) → rank s ≤ 3
rank_few Compile = omega arith
rank_few Runtime = omega arith
rank_few Provided = omega arith
rank_few Test = omega arith

abbrev lift : Scope → ℕ
lift Compile = 0
lift Runtime = 1
lift Provided = 0
lift Test = 0

as_max : (a d : Scope) → rank (scope_below a d) ≡ max (rank a) (lift d)
as_max Compile Compile = refl
as_max Compile Runtime = refl
as_max Compile Provided = refl
as_max Compile Test = refl
as_max Runtime Compile = refl
as_max Runtime Runtime = refl
as_max Runtime Provided = refl
as_max Runtime Test = refl
as_max Provided Compile = refl
as_max Provided Runtime = refl
as_max Provided Provided = refl
as_max Provided Test = refl
as_max Test Compile = refl
as_max Test Runtime = refl
as_max Test Provided = refl
as_max Test Test = refl

-- below a wider scope is a wider one
narrows : (a b : Scope) (l : Link) → rank a ≤ rank b → rank (walked a l) ≤ rank (walked b l)
narrows a b l low = by l.managed_scope
  where
    by : (m : Bool) → rank (if m then l.scope else scope_below a l.scope) ≤ rank (if m then l.scope else scope_below b l.scope)
    by true = omega arith
    by false = omega (arith, as_max a l.scope, as_max b l.scope, low)

some_is_none : {A : Type 0} (x : A) → ◌≡◌ {A = Option A} (Some x) None → ⊥
some_is_none x e = cc

-- what is kept at a place is kept there, whatever is said of places that aren't there
kept_there : (scopes : List (Option Scope)) (p : ℕ) (t : Scope) → get_or scopes p None ≡ Some t → (p < length scopes) × (at scopes p ≡ Some t)
kept_there [] p t is = absurd (some_is_none t (sym is))
kept_there (o ∷ scopes) zero t is = (omega arith, is)
kept_there (o ∷ scopes) (suc p) t is =
    let rest = kept_there scopes p t is in
    (omega (arith, rest.0), rest.1)

same_default : (scopes : List (Option Scope)) (p : ℕ) → p < length scopes → get_or scopes p None ≡ at scopes p
same_default [] p low = absurd (never p low)
  where
    never : (p : ℕ) → p < 0 → ⊥
    never p low = omega (arith, low)
same_default (o ∷ scopes) zero low = refl
same_default (o ∷ scopes) (suc p) low = same_default scopes p (omega (arith, low))

replicated : (n : ℕ) → length (replicate {A = Option Scope} n None) ≡ n
replicated zero = refl
replicated (suc n) = ap suc (replicated n)

module _ (starts : List Link) (below : List (List Link)) where
  -- the links of a scope bring nothing wider
  abbrev pub Respects : List (Option Scope) → List Link → Scope → Type 0
  Respects scopes links t = (l : Link) → IsIn links l → width (at scopes l.to) ≤ rank (walked t l)

  pub record Searches (s : Search) (next : ℕ) : Type 0 where
    pub long : length s.scopes ≡ length below
    pub sound : (p : ℕ) (t : Scope) → p < length below → at s.scopes p ≡ Some t → Walk starts below t p
    pub begun : (l : Link) → IsIn starts l → width (at s.scopes l.to) ≤ rank l.scope
    pub closed : (p : ℕ) (t : Scope) → p < length below → at s.scopes p ≡ Some t → Waits s.waiting next p ⊎ Respects s.scopes (links_at below p) t
    pub few : length s.waiting + total s ≤ 4 * length below

  abbrev none_yet : List (Option Scope)
  none_yet = replicate (length below) None

  none_at : (p : ℕ) → p < length below → at none_yet p ≡ None
  none_at p low = get_or-replicate (length below) p None (Some Compile) low

  abbrev first : Search
  first = raised_all (λ l. l.scope) (search_of none_yet []) starts

  pub begins_so : (s : Search) → s ≡ raised_all (λ l. l.scope) (search_of none_yet []) starts → Searches s 0
  begins_so s is = subst (λ s. Searches s 0) (sym is) (made (all_raised (λ l. l.scope) starts (search_of none_yet [])))
    where
      made : Raises (λ l. l.scope) starts (search_of none_yet []) first → Searches first 0
      made r = record {
        long = r.long ∙ long;
        sound = λ p t low is. walk p t low (r.sound p t is);
        begun = r.done;
        closed = λ p t low is. inl (waits p t low is (r.each p));
        few = omega (arith, r.few, sum_by-replicate width (length below) None);
      }
        where
          long : length none_yet ≡ length below
          long = replicated (length below)

          walk : (p : ℕ) (t : Scope) → p < length below → (at none_yet p ≡ Some t) ⊎ ((l : Link) × IsIn starts l × (l.to ≡ p) × (l.scope ≡ t)) → Walk starts below t p
          walk p t low (inl is) = absurd (some_is_none t (sym is ∙ none_at p low))
          walk p t low (inr (l, among, there, is)) = subst (λ u. Walk starts below u p) is (subst (λ q. Walk starts below l.scope q) there (begins l (in_to starts l among)))

          waits : (p : ℕ) (t : Scope) → p < length below → at first.scopes p ≡ Some t → (at first.scopes p ≡ at none_yet p) ⊎ Waits first.waiting 0 p → Waits first.waiting 0 p
          waits p t low is (inl same) = absurd (some_is_none t (sym is ∙ same ∙ none_at p low))
          waits p t low is (inr w) = w

  module _ (s : Search) (next : ℕ) (so : Searches s next) (more : next < length s.waiting) where
    abbrev p : ℕ
    p = get_or s.waiting next 0

    -- what waits, and isn't looked at now
    later : (q : ℕ) → Waits s.waiting next q → (p ≡ q) ⊎ Waits s.waiting (next + 1) q
    later q w = by (same_or_not w.index next)
      where
        by : (w.index ≡ next) ⊎ (w.index ≢ next) → (p ≡ q) ⊎ Waits s.waiting (next + 1) q
        by (inl same) = inl (ap (λ i. get_or s.waiting i 0) (sym same) ∙ w.is)
        by (inr other) = inr (record { index = w.index; behind = behind other; within = w.within; is = w.is })
          where
            behind : (w.index ≢ next) → next + 1 ≤ w.index
            behind other = grind (arith, other, w.behind)

    -- nothing is kept there
    idle : get_or s.scopes p None ≡ None → Searches s (next + 1)
    idle nothing = record {
      long = so.long;
      sound = so.sound;
      begun = so.begun;
      closed = λ q t low is. by q t low is (so.closed q t low is);
      few = so.few;
    }
      where
        here : (q : ℕ) (t : Scope) → q < length below → at s.scopes q ≡ Some t → p ≡ q → ⊥
        here q t low is same = some_is_none t (sym is ∙ sym (same_default s.scopes q (omega (arith, low, so.long))) ∙ ap (λ i. get_or s.scopes i None) (sym same) ∙ nothing)

        by : (q : ℕ) (t : Scope) → q < length below → at s.scopes q ≡ Some t → Waits s.waiting next q ⊎ Respects s.scopes (links_at below q) t
            → Waits s.waiting (next + 1) q ⊎ Respects s.scopes (links_at below q) t
        by q t low is (inr respects) = inr respects
        by q t low is (inl w) = then_so (later q w)
          where
            then_so : (p ≡ q) ⊎ Waits s.waiting (next + 1) q → Waits s.waiting (next + 1) q ⊎ Respects s.scopes (links_at below q) t
            then_so (inl same) = absurd (here q t low is same)
            then_so (inr w) = inl w

    module _ (t : Scope) (is : get_or s.scopes p None ≡ Some t) where
      abbrev new : Search
      new = raised_all (walked t) s (links_at below p)

      r : Raises (walked t) (links_at below p) s new
      r = all_raised (walked t) (links_at below p) s

      kept : (p < length s.scopes) × (at s.scopes p ≡ Some t)
      kept = kept_there s.scopes p t is

      low : p < length below
      low = omega (arith, kept.0, so.long)

      new_sound : (q : ℕ) (u : Scope) → q < length below → at new.scopes q ≡ Some u → Walk starts below u q
      new_sound q u within is = by (r.sound q u is)
        where
          by : (at s.scopes q ≡ Some u) ⊎ ((l : Link) × IsIn (links_at below p) l × (l.to ≡ q) × (walked t l ≡ u)) → Walk starts below u q
          by (inl before) = so.sound q u within before
          by (inr (l, among, there, is)) =
              subst (λ v. Walk starts below v q) is (subst (λ q. Walk starts below (walked t l) q) there
              (goes (so.sound p t low kept.1) l (in_to (links_at below p) l among)))

      still : (q : ℕ) → Waits s.waiting (next + 1) q → Waits new.waiting (next + 1) q
      still q w = record { index = w.index; behind = w.behind; within = omega (arith, w.within, r.longer); is = r.kept w.index w.within ∙ w.is }

      new_closed : (q : ℕ) (u : Scope) → q < length below → at new.scopes q ≡ Some u → Waits new.waiting (next + 1) q ⊎ Respects new.scopes (links_at below q) u
      new_closed q u within is = by (r.each q)
        where
          respects : at s.scopes q ≡ Some u → (p ≡ q) ⊎ Waits s.waiting (next + 1) q → Waits new.waiting (next + 1) q ⊎ Respects new.scopes (links_at below q) u
          respects before (inr w) = inl (still q w)
          respects before (inl same) =
              let scope : t ≡ u = ap got (sym kept.1 ∙ ap (at s.scopes) same ∙ before) in
              inr (subst (λ u. Respects new.scopes (links_at below q) u) scope (subst (λ q. Respects new.scopes (links_at below q) t) same r.done))

          before : at s.scopes q ≡ Some u → Waits s.waiting next q ⊎ Respects s.scopes (links_at below q) u → Waits new.waiting (next + 1) q ⊎ Respects new.scopes (links_at below q) u
          before was (inl w) = respects was (later q w)
          before was (inr fine) = inr (λ l among. omega (arith, r.less l.to, fine l among))

          by : (at new.scopes q ≡ at s.scopes q) ⊎ Waits new.waiting (length s.waiting) q → Waits new.waiting (next + 1) q ⊎ Respects new.scopes (links_at below q) u
          by (inr w) = inl (record { index = w.index; behind = omega (arith, w.behind, more); within = w.within; is = w.is })
          by (inl same) = before (sym same ∙ is) (so.closed q u within (sym same ∙ is))

      looked : Searches new (next + 1)
      looked = record {
        long = r.long ∙ so.long;
        sound = new_sound;
        begun = λ l among. omega (arith, r.less l.to, so.begun l among);
        closed = new_closed;
        few = omega (arith, r.few, so.few);
      }

    pub turns : (after : Search) → after ≡ turned below s p → Searches after (next + 1)
    turns after is = subst (λ s. Searches s (next + 1)) (sym is) (by (get_or s.scopes p None) refl)
      where
        by : (o : Option Scope) → get_or s.scopes p None ≡ o → Searches (below_scope o (links_at below p) s) (next + 1)
        by None nothing = idle nothing
        by (Some t) is = looked t is

  module _ (s : Search) (next : ℕ) (so : Searches s next) (done : length s.waiting ≤ next) where
    has_place : (place : ℕ) (l : Link) → IsIn (links_at below place) l → place < length below
    has_place place l among = inside below place among
      where
        inside : (below : List (List Link)) (place : ℕ) → IsIn (links_at below place) l → place < length below
        inside [] place among = absurd among
        inside (links ∷ below) zero among = omega arith
        inside (links ∷ below) (suc place) among = omega (arith, inside below place among)

    waits_none : (q : ℕ) → Waits s.waiting next q → ⊥
    waits_none q w = omega (arith, w.behind, w.within, done)

    -- no walk brings a wider scope
    least : (t : Scope) (p : ℕ) → Walk starts below t p → width (at s.scopes p) ≤ rank t
    least t p (begins l there) = so.begun l (in_from starts l there)
    least t p (goes {scope} {place} walk l there) =
        by (at s.scopes place) refl (least scope place walk)
      where
        among : IsIn (links_at below place) l
        among = in_from (links_at below place) l there

        fine : (u : Scope) → rank u ≤ rank scope → Waits s.waiting next place ⊎ Respects s.scopes (links_at below place) u → width (at s.scopes l.to) ≤ rank (walked scope l)
        fine u low (inl w) = absurd (waits_none place w)
        fine u low (inr respects) = omega (arith, respects l among, narrows u scope l low)

        by : (o : Option Scope) → at s.scopes place ≡ o → width o ≤ rank scope → width (at s.scopes l.to) ≤ rank (walked scope l)
        by None is low = absurd (omega (arith, low, rank_few scope))
        by (Some u) is low = fine u low (so.closed place u (has_place place l among) is)

    pub is_widest : (place : ℕ) → place < length below → IsWidest starts below place (get_or s.scopes place None)
    is_widest place low = by (get_or s.scopes place None) refl
      where
        by : (o : Option Scope) → get_or s.scopes place None ≡ o → IsWidest starts below place o
        by None is = λ scope walk.
            let far : width (at s.scopes place) ≡ 4 = ap width (sym (same_default s.scopes place (omega (arith, low, so.long))) ∙ is) in
            omega (arith, least scope place walk, rank_few scope, far)
        by (Some t) is =
            let kept = kept_there s.scopes place t is in
            (so.sound place t low kept.1, λ other walk. subst (λ o. width o ≤ rank other) kept.1 (least other place walk))

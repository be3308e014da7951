-- A module that goes on: what is kept of all modules still belongs together.
use Rattle.std.proofs.Common.{◌≡◌, ℕ, zero, suc, ◌+◌, ◌-◌, ◌*◌, ◌<◌, ◌≤◌, ◌^◌, ◌⊎◌, inl, inr, Bool, true, false, ◌&&◌, not, nat_eq, nat_le, List, [], ◌∷◌, length, map, find, get_or, replicate, set, slice_get, is_none, is_some, refl, arith, sym, ap, subst, ◌∙◌, if◌then◌else◌}
use Rattle.std.specs.List.{list_all}
use Rattle.std.specs.Option.{option_map_or}
use Rattle.std.proofs.lemmas.Bool.{cases_Bool, cases_eq, cases_lt, false≢true, le-leb, ne_eqb}
use Rattle.std.proofs.lemmas.List.{get_or-map, get_or-set_other, get_or-set_same, length-map, length-replicate, length-set}
use Rattle.build_core.specs.Locks.{below}
use Rattle.event_core.specs.declared.progress_edges.Edge.{Edge}
use Rattle.scripts.specs.declared.outline.Outline.{Outline}
use Rattle.scripts.specs.declared.outline.ModuleOutline.{ModuleOutline}
use Rattle.event_core.specs.declared.module_steps.Progress.{Progress}
use Rattle.event_core.specs.declared.module_steps.Progress.TheVariants.{Waiting, Running, Skipped, Ended}
use Rattle.event_core.specs.Fronts.{AreEdges, IsBefore, IsFirst, IsFront, has_edge, is_lost_at, is_marked, is_touched, is_unbuilt, mark_of, open_ones, same, upstreams}
use Rattle.event_core.specs.HowFar.{first_lost, first_not_built, is_done, is_lost, is_over, is_ready, is_skippable, is_waiting, progress_of, upstream_of}
use Rattle.event_core.proofs.Fronts.{apart, find_alike, found_first, is_there_at, none_at, only_first, some_at, there_is}

-- ---- what a module that isn't over is

not_done : (p : Progress) → is_over p ≡ false → is_done p ≡ false
not_done Waiting e = refl
not_done (Running w) e = refl
not_done Skipped e = refl
not_done (Ended x) e = absurd (false≢true (sym e))

not_lost : (p : Progress) → is_over p ≡ false → is_lost p ≡ false
not_lost Waiting e = refl
not_lost (Running w) e = refl
not_lost Skipped e = absurd (false≢true (sym e))
not_lost (Ended x) e = absurd (false≢true (sym e))

-- three things at once, each for its equal
pub subst_all : {A B C : Type 0} (P : A → B → C → Type 0) (a a' : A) (b b' : B) (c c' : C) → a ≡ a' → b ≡ b' → c ≡ c' → P a b c → P a' b' c'
subst_all P a a' b b' c c' p q r x = subst (λ z. P a' b' z) r (subst (λ y. P a' y c) q (subst (λ w. P w b c) p x))

-- ---- how many are open

open_less : (ps : List Progress) (m : ℕ) (v : Progress) → m < length ps → is_over (progress_of ps m) ≡ false → open_ones (set ps m v) ≡ open_ones ps - (if is_over v then 1 else 0)
open_less [] m v low isnt = absurd (omega (arith, low))
open_less (p ∷ ps) zero v low isnt = by (is_over v) ∙ ap (λ n. n - (if is_over v then 1 else 0)) (sym (ap (λ b. (if b then 0 else 1) + open_ones ps) isnt))
  where
    by : (b : Bool) → (if b then 0 else 1) + open_ones ps ≡ (1 + open_ones ps) - (if b then 1 else 0)
    by true = omega arith
    by false = omega arith
open_less (p ∷ ps) (suc m) v low isnt = by (is_over p) (is_over v) (open_less ps m v (omega (arith, low)) isnt) (has_open ps m (omega (arith, low)) isnt)
  where
    has_open : (ps : List Progress) (m : ℕ) → m < length ps → is_over (progress_of ps m) ≡ false → 0 < open_ones ps
    has_open [] m low isnt = absurd (omega (arith, low))
    has_open (q ∷ ps) zero low isnt = let one : open_ones (q ∷ ps) ≡ 1 + open_ones ps = ap (λ b. (if b then 0 else 1) + open_ones ps) isnt in omega (arith, one)
    has_open (q ∷ ps) (suc m) low isnt = let rest = has_open ps m (omega (arith, low)) isnt in more (is_over q) rest
      where
        more : (b : Bool) → 0 < open_ones ps → 0 < (if b then 0 else 1) + open_ones ps
        more true e = omega (arith, e)
        more false e = omega (arith, e)

    by : (b c : Bool) → open_ones (set ps m v) ≡ open_ones ps - (if c then 1 else 0) → 0 < open_ones ps → (if b then 0 else 1) + open_ones (set ps m v) ≡ ((if b then 0 else 1) + open_ones ps) - (if c then 1 else 0)
    by true true e some = omega (arith, e, some)
    by true false e some = omega (arith, e, some)
    by false true e some = omega (arith, e, some)
    by false false e some = omega (arith, e, some)

pub complete_is : (ps : List Progress) → nat_eq (open_ones ps) 0 ≡ list_all is_over ps
complete_is [] = refl
complete_is (p ∷ ps) = by (is_over p) (complete_is ps)
  where
    by : (b : Bool) → nat_eq (open_ones ps) 0 ≡ list_all is_over ps → nat_eq ((if b then 0 else 1) + open_ones ps) 0 ≡ (b && list_all is_over ps)
    by true e = ap (λ n. nat_eq n 0) (zero_plus (open_ones ps)) ∙ e
      where
        zero_plus : (n : ℕ) → 0 + n ≡ n
        zero_plus n = omega arith
    by false e = ne_eqb (1 + open_ones ps) 0 (λ none. absurd (omega (arith, none)))

-- ---- a module goes on

module _ (ups : List (List ℕ)) (progress : List Progress) (edges : List (List Edge)) (unbuilt lost ready skippable : List ℕ) (open_count m : ℕ) (v : Progress)
    (front : IsFront ups progress edges unbuilt lost ready skippable open_count) (low : m < length ups) (isnt : is_over (progress_of progress m) ≡ false) where
  abbrev new : List Progress
  new = set progress m v

  at_m : progress_of new m ≡ v
  at_m = get_or-set_same progress m v Waiting (omega (arith, low, front.rows))

  elsewhere : (u : ℕ) → (u ≡ m → ⊥) → progress_of new u ≡ progress_of progress u
  elsewhere u other = get_or-set_other progress m u v Waiting other

  -- the places so far aren't too far
  pub before_now : (k : ℕ) → k < length ups → IsBefore (is_unbuilt new) (get_or ups k []) (get_or unbuilt k 0)
  before_now k inside = record { inside = first.inside; before = λ j less. built j less (cases_eq (get_or (get_or ups k []) j 0) m) }
    where
      first : IsFirst (is_unbuilt progress) (get_or ups k []) (get_or unbuilt k 0)
      first = front.unbuilt_first k inside

      built : (j : ℕ) → j < get_or unbuilt k 0 → (get_or (get_or ups k []) j 0 ≡ m) ⊎ (get_or (get_or ups k []) j 0 ≡ m → ⊥) → is_unbuilt new (get_or (get_or ups k []) j 0) ≡ false
      built j less (inl same) = absurd (false≢true (sym (first.before j less) ∙ ap (is_unbuilt progress) same ∙ ap not (not_done (progress_of progress m) isnt)))
      built j less (inr other) = ap (λ p. not (is_done p)) (elsewhere (get_or (get_or ups k []) j 0) other) ∙ first.before j less

  -- and those of a module that has no such upstream are right
  module _ (p : Progress → Bool) where
    still_first : (k place : ℕ) → is_touched k (get_or edges m []) ≡ false → IsFirst (λ u. p (progress_of progress u)) (get_or ups k []) place → IsFirst (λ u. p (progress_of new u)) (get_or ups k []) place
    still_first k place free first = record {
      inside = first.inside;
      before = λ j less. ap p (elsewhere (get_or (get_or ups k []) j 0) (apart ups edges m k front.are_edges low free j (omega (arith, less, first.inside)))) ∙ first.before j less;
      here = λ less. ap p (elsewhere (get_or (get_or ups k []) place 0) (apart ups edges m k front.are_edges low free place less)) ∙ first.here less;
    }

  -- the places of lost ones
  pub lost_now : (new_lost : List ℕ) → ((k : ℕ) → get_or new_lost k 0 ≤ get_or lost k 0)
      → (is_lost v ≡ true → (k place : ℕ) → has_edge k place (get_or edges m []) ≡ true → get_or new_lost k 0 ≤ place)
      → ((k : ℕ) → (get_or new_lost k 0 ≡ get_or lost k 0) ⊎ ((is_lost v ≡ true) × (has_edge k (get_or new_lost k 0) (get_or edges m []) ≡ true)))
      → (k : ℕ) → k < length ups → IsFirst (is_lost_at new) (get_or ups k []) (get_or new_lost k 0)
  lost_now new_lost less here either k inside = record {
    inside = let a = less k in omega (arith, a, first.inside);
    before = λ j early. kept j early (cases_eq (get_or (get_or ups k []) j 0) m);
    here = λ low_place. found low_place (either k);
  }
    where
      first : IsFirst (is_lost_at progress) (get_or ups k []) (get_or lost k 0)
      first = front.lost_first k inside

      at_edge : (j : ℕ) → j < get_or new_lost k 0 → get_or (get_or ups k []) j 0 ≡ m → (is_lost v ≡ true) ⊎ (is_lost v ≡ false) → is_lost_at new (get_or (get_or ups k []) j 0) ≡ false
      at_edge j early is (inr rest) = ap (is_lost_at new) is ∙ ap is_lost at_m ∙ rest
      at_edge j early is (inl gone) =
          let a = less k in
          let edge = front.are_edges m k j low ∙ is_there_at (get_or ups k []) j m (omega (arith, early, a, first.inside)) is in
          let b = here gone k j edge in
          absurd (omega (arith, early, b))

      kept : (j : ℕ) → j < get_or new_lost k 0 → (get_or (get_or ups k []) j 0 ≡ m) ⊎ (get_or (get_or ups k []) j 0 ≡ m → ⊥) → is_lost_at new (get_or (get_or ups k []) j 0) ≡ false
      kept j early (inl is) = at_edge j early is (cases_Bool (is_lost v))
      kept j early (inr other) = let a = less k in ap is_lost (elsewhere (get_or (get_or ups k []) j 0) other) ∙ first.before j (omega (arith, early, a))

      found : get_or new_lost k 0 < length (get_or ups k []) → (get_or new_lost k 0 ≡ get_or lost k 0) ⊎ ((is_lost v ≡ true) × (has_edge k (get_or new_lost k 0) (get_or edges m []) ≡ true)) → is_lost_at new (get_or (get_or ups k []) (get_or new_lost k 0) 0) ≡ true
      found low_place (inl e) = was (cases_eq (get_or (get_or ups k []) (get_or lost k 0) 0) m)
        where
          old_here : is_lost_at progress (get_or (get_or ups k []) (get_or lost k 0) 0) ≡ true
          old_here = first.here (omega (arith, low_place, e))

          was : (get_or (get_or ups k []) (get_or lost k 0) 0 ≡ m) ⊎ (get_or (get_or ups k []) (get_or lost k 0) 0 ≡ m → ⊥) → is_lost_at new (get_or (get_or ups k []) (get_or new_lost k 0) 0) ≡ true
          was (inl is) = absurd (false≢true (sym (not_lost (progress_of progress m) isnt) ∙ sym (ap (is_lost_at progress) is) ∙ old_here))
          was (inr other) = ap (λ j. is_lost_at new (get_or (get_or ups k []) j 0)) e ∙ ap is_lost (elsewhere (get_or (get_or ups k []) (get_or lost k 0) 0) other) ∙ old_here
      found low_place (inr gone) =
          let it = there_is (get_or ups k []) (get_or new_lost k 0) m (sym (front.are_edges m k (get_or new_lost k 0) low) ∙ gone.1) in
          ap (is_lost_at new) it.1 ∙ ap is_lost at_m ∙ gone.0

  -- marks that were right are right again, where those of the modules with this upstream, and its own, are made anew
  pub marks_now : (p : Progress → Bool) (beyond : Bool) (places new_places old mid final : List ℕ)
      → ((k : ℕ) → k < length ups → IsFirst (λ u. p (progress_of progress u)) (get_or ups k []) (get_or places k 0))
      → ((k : ℕ) → k < length ups → IsFirst (λ u. p (progress_of new u)) (get_or ups k []) (get_or new_places k 0))
      → ((k : ℕ) → k < length ups → is_marked old k ≡ mark_of progress ups places beyond k)
      → ((k : ℕ) → k < length ups → (is_touched k (get_or edges m []) ≡ true) ⊎ (is_marked old k ≡ mark_of new ups new_places beyond k) → is_marked mid k ≡ mark_of new ups new_places beyond k)
      → is_marked final m ≡ mark_of new ups new_places beyond m → ((k : ℕ) → (k ≡ m → ⊥) → is_marked final k ≡ is_marked mid k)
      → (k : ℕ) → k < length ups → is_marked final k ≡ mark_of new ups new_places beyond k
  marks_now p beyond places new_places old mid final was is before touched own others k inside = by (cases_eq k m) (cases_Bool (is_touched k (get_or edges m [])))
    where
      alike : (k ≡ m → ⊥) → is_touched k (get_or edges m []) ≡ false → mark_of progress ups places beyond k ≡ mark_of new ups new_places beyond k
      alike other free =
          ap (λ x. is_waiting x && same beyond (nat_le (length (get_or ups k [])) (get_or places k 0))) (sym (elsewhere k other))
          ∙ ap (λ x. is_waiting (progress_of new k) && same beyond (nat_le (length (get_or ups k [])) x)) (only_first (λ u. p (progress_of new u)) (get_or ups k []) (get_or places k 0) (get_or new_places k 0) (still_first p k (get_or places k 0) free (was k inside)) (is k inside))

      by : (k ≡ m) ⊎ (k ≡ m → ⊥) → (is_touched k (get_or edges m []) ≡ true) ⊎ (is_touched k (get_or edges m []) ≡ false) → is_marked final k ≡ mark_of new ups new_places beyond k
      by (inl e) any = subst (λ j. is_marked final j ≡ mark_of new ups new_places beyond j) (sym e) own
      by (inr other) (inl touches) = others k other ∙ touched k inside (inl touches)
      by (inr other) (inr free) = others k other ∙ touched k inside (inr (before k inside ∙ alike other free))

  -- a module that has no such upstream has its place
  pub place_now : (k : ℕ) → k < length ups → (is_touched k (get_or edges m []) ≡ true) ⊎ IsFirst (is_unbuilt new) (get_or ups k []) (get_or unbuilt k 0)
  place_now k inside = by (cases_Bool (is_touched k (get_or edges m [])))
    where
      by : (is_touched k (get_or edges m []) ≡ true) ⊎ (is_touched k (get_or edges m []) ≡ false) → (is_touched k (get_or edges m []) ≡ true) ⊎ IsFirst (is_unbuilt new) (get_or ups k []) (get_or unbuilt k 0)
      by (inl touches) = inl touches
      by (inr free) = inr (still_first (λ x. not (is_done x)) k (get_or unbuilt k 0) free (front.unbuilt_first k inside))

  pub open_now : open_count - (if is_over v then 1 else 0) ≡ open_ones new
  open_now = ap (λ n. n - (if is_over v then 1 else 0)) front.all_open ∙ sym (open_less progress m v (omega (arith, low, front.rows)) isnt)

  pub rows_now : length new ≡ length ups
  rows_now = length-set progress m v ∙ front.rows

-- ---- where all wait

same_at : {X : Type 0} (n k : ℕ) (x : X) → get_or (replicate n x) k x ≡ x
same_at zero k x = refl
same_at (suc n) zero x = refl
same_at (suc n) (suc k) x = same_at n k x

all_open : (n : ℕ) → open_ones (replicate n Waiting) ≡ n
all_open zero = refl
all_open (suc n) = let rest = all_open n in omega (arith, rest)

pub front_first : (ups : List (List ℕ)) (edges : List (List Edge)) (ready skippable : List ℕ) → length ups < 2 ^ 32 → length edges ≡ length ups → AreEdges ups edges
    → length ups < 64 * length ready → length ready < 2 ^ 32 → length ups < 64 * length skippable → length skippable < 2 ^ 32
    → ((k : ℕ) → k < length ups → is_marked ready k ≡ mark_of (replicate (length ups) Waiting) ups (replicate (length ups) 0) true k) → ((k : ℕ) → is_marked skippable k ≡ false)
    → IsFront ups (replicate (length ups) Waiting) edges (replicate (length ups) 0) (map length ups) ready skippable (length ups)
front_first ups edges ready skippable few rows are ready_room ready_small skippable_room skippable_small marked free = record {
  few = few;
  rows = length-replicate (length ups) Waiting;
  edge_rows = rows;
  unbuilt_rows = length-replicate (length ups) 0;
  lost_rows = length-map ups length;
  ready_room = ready_room;
  ready_small = ready_small;
  skippable_room = skippable_room;
  skippable_small = skippable_small;
  are_edges = are;
  unbuilt_first = λ k low. let at : get_or (replicate (length ups) 0) k 0 ≡ 0 = same_at {X = ℕ} (length ups) k 0 in record {
    inside = omega (arith, at);
    before = λ j less. absurd (omega (arith, less, at));
    here = λ less. ap (λ p. not (is_done p)) (same_at (length ups) (get_or (get_or ups k []) (get_or (replicate (length ups) 0) k 0) 0) Waiting);
  };
  lost_first = λ k low. let at = last k low in record {
    inside = omega (arith, at);
    before = λ j less. ap is_lost (same_at (length ups) (get_or (get_or ups k []) j 0) Waiting);
    here = λ less. absurd (omega (arith, less, at));
  };
  ready_marks = marked;
  skippable_marks = λ k low. free k ∙ sym (ap (λ n. is_waiting (progress_of (replicate (length ups) Waiting) k) && not (nat_le (length (get_or ups k [])) n)) (last k low) ∙ ap (λ b. is_waiting (progress_of (replicate (length ups) Waiting) k) && not b) (le-leb (length (get_or ups k [])) (length (get_or ups k [])) (omega arith)) ∙ and_none (is_waiting (progress_of (replicate (length ups) Waiting) k)));
  all_open = sym (all_open (length ups));
}
  where
    last : (k : ℕ) → k < length ups → get_or (map length ups) k 0 ≡ length (get_or ups k [])
    last k low = get_or-map length ups k [] 0 low

    and_none : (b : Bool) → (b && false) ≡ false
    and_none true = refl
    and_none false = refl

-- ---- what is asked

upstream_is : (ms : List ModuleOutline) (m : ℕ) → option_map_or (λ (x : ModuleOutline). x.upstream) (slice_get ms m) [] ≡ get_or (map (λ (x : ModuleOutline). x.upstream) ms) m []
upstream_is [] m = refl
upstream_is (x ∷ ms) zero = refl
upstream_is (x ∷ ms) (suc m) = upstream_is ms m

past_ups : (xs : List (List ℕ)) (i : ℕ) → length xs ≤ i → get_or xs i [] ≡ []
past_ups [] i far = refl
past_ups (x ∷ xs) zero far = absurd (omega (arith, far))
past_ups (x ∷ xs) (suc i) far = past_ups xs i (omega (arith, far))

module _ (o : Outline) (ups : List (List ℕ)) (progress : List Progress) (edges : List (List Edge)) (unbuilt lost ready skippable : List ℕ) (open_count : ℕ)
    (front : IsFront ups progress edges unbuilt lost ready skippable open_count) (of : upstreams o ≡ ups) where
  of_module : (m : ℕ) → upstream_of o m ≡ get_or ups m []
  of_module m = upstream_is o.modules m ∙ ap (λ xs. get_or xs m []) of

  found_in : (p : ℕ → Bool) (places : List ℕ) (m : ℕ) → (m < length ups → IsFirst p (get_or ups m []) (get_or places m 0)) → slice_get (get_or ups m []) (get_or places m 0) ≡ find p (upstream_of o m)
  found_in p places m first = by (cases_lt m (length ups)) ∙ ap (find p) (sym (of_module m))
    where
      by : (m < length ups) ⊎ (length ups ≤ m) → slice_get (get_or ups m []) (get_or places m 0) ≡ find p (get_or ups m [])
      by (inl low) = sym (found_first p (get_or ups m []) (get_or places m 0) (first low))
      by (inr far) = ap (λ xs. slice_get xs (get_or places m 0)) (past_ups ups m far) ∙ sym (ap (find p) (past_ups ups m far))

  pub unbuilt_is : (m : ℕ) → slice_get (get_or ups m []) (get_or unbuilt m 0) ≡ first_not_built o progress m
  unbuilt_is m = found_in (is_unbuilt progress) unbuilt m (front.unbuilt_first m)

  pub lost_is : (m : ℕ) → slice_get (get_or ups m []) (get_or lost m 0) ≡ first_lost o progress m
  lost_is m = found_in (is_lost_at progress) lost m (front.lost_first m)

  length_of : length o.modules ≡ length ups
  length_of = sym (length-map o.modules (λ (x : ModuleOutline). x.upstream)) ∙ ap length of

  pub ready_is : find (is_marked ready) (below (length ups)) ≡ find (is_ready o progress) (below (length o.modules))
  ready_is = find_alike (is_marked ready) (is_ready o progress) (length ups) (λ k low. front.ready_marks k low ∙ ap (λ b. is_waiting (progress_of progress k) && b) (sym (none_at (get_or ups k []) (get_or unbuilt k 0)) ∙ ap is_none (unbuilt_is k))) ∙ ap (λ n. find (is_ready o progress) (below n)) (sym length_of)

  pub skippable_is : find (is_marked skippable) (below (length ups)) ≡ find (is_skippable o progress) (below (length o.modules))
  skippable_is = find_alike (is_marked skippable) (is_skippable o progress) (length ups) (λ k low. front.skippable_marks k low ∙ ap (λ b. is_waiting (progress_of progress k) && b) (sym (some_at (get_or ups k []) (get_or lost k 0)) ∙ ap is_some (lost_is k))) ∙ ap (λ n. find (is_skippable o progress) (below n)) (sym length_of)

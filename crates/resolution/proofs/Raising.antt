-- What a look along links does to the search.
use Rattle.std.proofs.Common.{◌≡◌, ◌≢◌, ℕ, zero, suc, ◌+◌, ◌*◌, ◌<◌, ◌≤◌, ◌==◌, ◌⊎◌, inl, inr, Bool, true, false, List, [], ◌∷◌, ◌++◌, Contains, length, get_or, set, fold, nat_lt, sum_by, Option, Some, None, refl, sym, ap, subst, ◌∙◌, arith, if◌then◌else◌}
use Rattle.std.proofs.lemmas.Bool.Decides.{nat_tests}
use Rattle.std.proofs.lemmas.List.{get_or-set_same, get_or-set_other, get_or_append_left, length-set}
use Rattle.std.proofs.Common.{length-append}
use Rattle.std.proofs.Math.Seq.{get_or-append_seam}
use Rattle.std.proofs.lemmas.List.Elements.{All-contains, Contains-append_left, Contains-append_right}
use Rattle.std.proofs.lemmas.List.Sums.{sum_by-set}
use Rattle.collector.specs.declared.scope.Scope.{Scope}
use Rattle.collector.specs.declared.scope.Scope.TheVariants.{Compile}
use Rattle.resolution.specs.declared.link.Link.{Link}
use Rattle.resolution.specs.Walks.{rank}
use Rattle.resolution.specs.Search.{Search, is_wider, raised, raised_all, width}

-- what stands in a list
abbrev pub IsIn : {A : Type 0} → List A → A → Type 0
IsIn [] x = ⊥
IsIn (y ∷ ys) x = (y ≡ x) ⊎ IsIn ys x

each_in : {A : Type 0} (xs : List A) (k : ℕ) (d : A) → k < length xs → IsIn xs (get_or xs k d)
each_in [] k d low = absurd (never k low)
  where
    never : (k : ℕ) → k < 0 → ⊥
    never k low = omega (arith, low)
each_in (x ∷ xs) zero d low = inl refl
each_in (x ∷ xs) (suc k) d low = inr (each_in xs k d (omega (arith, low)))

pub in_from : {A : Type 0} (xs : List A) (x : A) → Contains xs x → IsIn xs x
in_from xs x there = All-contains (λ y. IsIn xs y) xs x (λ k d low. each_in xs k d low) there

pub in_to : {A : Type 0} (xs : List A) (x : A) → IsIn xs x → Contains xs x
in_to [] x there = absurd there
in_to (y ∷ ys) x (inl same) = Contains-append_left (y ∷ []) ys x (0, omega arith, same)
in_to (y ∷ ys) x (inr there) = Contains-append_right (y ∷ []) ys x (in_to ys x there)

abbrev pub at : List (Option Scope) → ℕ → Option Scope
at scopes place = get_or scopes place (Some Compile)

-- a place waits, from a place of the list on
pub record Waits (waiting : List ℕ) (from place : ℕ) : Type 0 where
  pub index : ℕ
  pub behind : from ≤ index
  pub within : index < length waiting
  pub is : get_or waiting index 0 ≡ place

abbrev pub total : Search → ℕ
total s = sum_by width s.scopes

-- what a look along links changes, and what it leaves
pub record Raises (brings : Link → Scope) (links : List Link) (old new : Search) : Type 0 where
  pub long : length new.scopes ≡ length old.scopes
  pub longer : length old.waiting ≤ length new.waiting
  pub kept : (i : ℕ) → i < length old.waiting → get_or new.waiting i 0 ≡ get_or old.waiting i 0
  pub less : (q : ℕ) → width (at new.scopes q) ≤ width (at old.scopes q)
  pub each : (q : ℕ) → (at new.scopes q ≡ at old.scopes q) ⊎ Waits new.waiting (length old.waiting) q
  pub sound : (q : ℕ) (t : Scope) → at new.scopes q ≡ Some t
      → (at old.scopes q ≡ Some t) ⊎ ((l : Link) × IsIn links l × (l.to ≡ q) × (brings l ≡ t))
  pub done : (l : Link) → IsIn links l → width (at new.scopes l.to) ≤ rank (brings l)
  pub few : length new.waiting + total new ≤ length old.waiting + total old

pub same_or_not : (a b : ℕ) → (a ≡ b) ⊎ (a ≢ b)
same_or_not a b = by (a == b) refl
  where
    by : (t : Bool) → (a == b) ≡ t → (a ≡ b) ⊎ (a ≢ b)
    by true is = inl (grind (arith, nat_tests, is))
    by false is = inr (λ same. grind (arith, nat_tests, is, same))

-- where a scope can be raised, there is a place
pub there_is : (scopes : List (Option Scope)) (p : ℕ) (k : ℕ) → k < width (at scopes p) → p < length scopes
there_is [] p k low = absurd (never k low)
  where
    never : (k : ℕ) → k < 0 → ⊥
    never k low = omega (arith, low)
there_is (o ∷ scopes) zero k low = omega arith
there_is (o ∷ scopes) (suc p) k low = omega (arith, there_is scopes p k low)

abbrev pub got : Option Scope → Scope
got None = Compile
got (Some v) = v

module _ (brings : Link → Scope) where
  none : (s : Search) → Raises brings [] s s
  none s = record {
    long = refl;
    longer = omega arith;
    kept = λ i low. refl;
    less = λ q. omega arith;
    each = λ q. inl refl;
    sound = λ q t is. inl is;
    done = λ l there. absurd there;
    few = omega arith;
  }

  -- a link that brings nothing wider
  idle : (s : Search) (l : Link) → width (at s.scopes l.to) ≤ rank (brings l) → Raises brings (l ∷ []) s s
  idle s l low = record {
    long = refl;
    longer = omega arith;
    kept = λ i low. refl;
    less = λ q. omega arith;
    each = λ q. inl refl;
    sound = λ q t is. inl is;
    done = λ m there. by m there;
    few = omega arith;
  }
    where
      by : (m : Link) → IsIn (l ∷ []) m → width (at s.scopes m.to) ≤ rank (brings m)
      by m (inl same) = subst (λ m. width (at s.scopes m.to) ≤ rank (brings m)) same low
      by m (inr there) = absurd there

  module _ (s : Search) (l : Link) (low : rank (brings l) < width (at s.scopes l.to)) where
    abbrev new : Search
    new = record { scopes = set s.scopes l.to (Some (brings l)); waiting = s.waiting ++ l.to ∷ [] }

    within : l.to < length s.scopes
    within = there_is s.scopes l.to (rank (brings l)) low

    put_here : at new.scopes l.to ≡ Some (brings l)
    put_here = get_or-set_same s.scopes l.to (Some (brings l)) (Some Compile) within

    elsewhere : (q : ℕ) → q ≢ l.to → at new.scopes q ≡ at s.scopes q
    elsewhere q other = get_or-set_other s.scopes l.to q (Some (brings l)) (Some Compile) other

    more : length new.waiting ≡ length s.waiting + 1
    more = length-append s.waiting (l.to ∷ [])

    new_less : (q : ℕ) → width (at new.scopes q) ≤ width (at s.scopes q)
    new_less q = by (same_or_not q l.to)
      where
        by : (q ≡ l.to) ⊎ (q ≢ l.to) → width (at new.scopes q) ≤ width (at s.scopes q)
        by (inl same) = subst (λ q. width (at new.scopes q) ≤ width (at s.scopes q)) (sym same)
            (subst (λ o. width o ≤ width (at s.scopes l.to)) (sym put_here) (omega (arith, low)))
        by (inr other) = subst (λ o. width o ≤ width (at s.scopes q)) (sym (elsewhere q other)) (omega arith)

    new_each : (q : ℕ) → (at new.scopes q ≡ at s.scopes q) ⊎ Waits new.waiting (length s.waiting) q
    new_each q = by (same_or_not q l.to)
      where
        by : (q ≡ l.to) ⊎ (q ≢ l.to) → (at new.scopes q ≡ at s.scopes q) ⊎ Waits new.waiting (length s.waiting) q
        by (inl same) = inr (record {
          index = length s.waiting;
          behind = omega arith;
          within = omega (arith, more);
          is = get_or-append_seam s.waiting l.to [] 0 ∙ sym same;
        })
        by (inr other) = inl (elsewhere q other)

    new_sound : (q : ℕ) (t : Scope) → at new.scopes q ≡ Some t → (at s.scopes q ≡ Some t) ⊎ ((m : Link) × IsIn (l ∷ []) m × (m.to ≡ q) × (brings m ≡ t))
    new_sound q t is = by (same_or_not q l.to)
      where
        by : (q ≡ l.to) ⊎ (q ≢ l.to) → (at s.scopes q ≡ Some t) ⊎ ((m : Link) × IsIn (l ∷ []) m × (m.to ≡ q) × (brings m ≡ t))
        by (inl same) = inr (l, inl refl, sym same, ap got (sym put_here ∙ ap (at new.scopes) (sym same) ∙ is))
        by (inr other) = inl (sym (elsewhere q other) ∙ is)

    new_done : (m : Link) → IsIn (l ∷ []) m → width (at new.scopes m.to) ≤ rank (brings m)
    new_done m (inl same) = subst (λ m. width (at new.scopes m.to) ≤ rank (brings m)) same (subst (λ o. width o ≤ rank (brings l)) (sym put_here) (omega arith))
    new_done m (inr there) = absurd there

    counted : sum_by width new.scopes + width (at s.scopes l.to) ≡ sum_by width s.scopes + rank (brings l)
    counted = sum_by-set width s.scopes l.to (Some (brings l)) (Some Compile) within

    -- a link that brings a wider scope
    wider : Raises brings (l ∷ []) s new
    wider = record {
      long = length-set s.scopes l.to (Some (brings l));
      longer = omega (arith, more);
      kept = λ i low. get_or_append_left s.waiting (l.to ∷ []) 0 i low;
      less = new_less;
      each = new_each;
      sound = new_sound;
      done = new_done;
      few = omega (arith, more, counted, low);
    }

  one : (s : Search) (l : Link) → Raises brings (l ∷ []) s (raised s l.to (brings l))
  one s l = by (is_wider s.scopes l.to (brings l)) refl
    where
      by : (b : Bool) → is_wider s.scopes l.to (brings l) ≡ b
          → Raises brings (l ∷ []) s (if b then record { scopes = set s.scopes l.to (Some (brings l)); waiting = s.waiting ++ l.to ∷ [] } else s)
      by true is = wider s l (grind (arith, nat_tests, is))
      by false is = idle s l (grind (arith, nat_tests, is))

  module _ (l : Link) (links : List Link) (old mid new : Search) (a : Raises brings (l ∷ []) old mid) (b : Raises brings links mid new) where
    still : (q : ℕ) → Waits mid.waiting (length old.waiting) q → Waits new.waiting (length old.waiting) q
    still q w = record {
      index = w.index;
      behind = w.behind;
      within = omega (arith, w.within, b.longer);
      is = b.kept w.index w.within ∙ w.is;
    }

    both_each : (q : ℕ) → (at new.scopes q ≡ at old.scopes q) ⊎ Waits new.waiting (length old.waiting) q
    both_each q = by (b.each q) (a.each q)
      where
        by : (at new.scopes q ≡ at mid.scopes q) ⊎ Waits new.waiting (length mid.waiting) q
            → (at mid.scopes q ≡ at old.scopes q) ⊎ Waits mid.waiting (length old.waiting) q
            → (at new.scopes q ≡ at old.scopes q) ⊎ Waits new.waiting (length old.waiting) q
        by (inr w) other = inr (record { index = w.index; behind = omega (arith, w.behind, a.longer); within = w.within; is = w.is })
        by (inl same) (inl before) = inl (same ∙ before)
        by (inl same) (inr w) = inr (still q w)

    both_sound : (q : ℕ) (t : Scope) → at new.scopes q ≡ Some t
        → (at old.scopes q ≡ Some t) ⊎ ((m : Link) × IsIn (l ∷ links) m × (m.to ≡ q) × (brings m ≡ t))
    both_sound q t is = by (b.sound q t is)
      where
        first : (at old.scopes q ≡ Some t) ⊎ ((m : Link) × IsIn (l ∷ []) m × (m.to ≡ q) × (brings m ≡ t))
            → (at old.scopes q ≡ Some t) ⊎ ((m : Link) × IsIn (l ∷ links) m × (m.to ≡ q) × (brings m ≡ t))
        first (inl before) = inl before
        first (inr (m, inl same, there, is)) = inr (m, inl same, there, is)
        first (inr (m, inr nowhere, there, is)) = absurd nowhere

        by : (at mid.scopes q ≡ Some t) ⊎ ((m : Link) × IsIn links m × (m.to ≡ q) × (brings m ≡ t))
            → (at old.scopes q ≡ Some t) ⊎ ((m : Link) × IsIn (l ∷ links) m × (m.to ≡ q) × (brings m ≡ t))
        by (inl before) = first (a.sound q t before)
        by (inr (m, among, there, is)) = inr (m, inr among, there, is)

    both_done : (m : Link) → IsIn (l ∷ links) m → width (at new.scopes m.to) ≤ rank (brings m)
    both_done m (inl same) = omega (arith, b.less m.to, a.done m (inl same))
    both_done m (inr there) = b.done m there

    both : Raises brings (l ∷ links) old new
    both = record {
      long = b.long ∙ a.long;
      longer = omega (arith, b.longer, a.longer);
      kept = λ i low. b.kept i (omega (arith, low, a.longer)) ∙ a.kept i low;
      less = λ q. omega (arith, b.less q, a.less q);
      each = both_each;
      sound = both_sound;
      done = both_done;
      few = omega (arith, b.few, a.few);
    }

  -- all links, one after another
  pub all_raised : (links : List Link) (s : Search) → Raises brings links s (raised_all brings s links)
  all_raised [] s = none s
  all_raised (l ∷ links) s = both l links s (raised s l.to (brings l)) (raised_all brings (raised s l.to (brings l)) links) (one s l) (all_raised links (raised s l.to (brings l)))

-- The links of a forest, made from its last place to its first.
use Rattle.std.proofs.Common.{◌≡◌, ◌≢◌, ◌⊎◌, inl, inr, ℕ, zero, suc, ◌+◌, ◌-◌, ◌<◌, ◌≤◌, Bool, true, false, ◌==◌, List, [], ◌∷◌, drop, get_or, length, replicate, set, slice_get, Option, Some, None, refl, sym, ap, subst, ◌∙◌, arith, if◌then◌else◌}
use Rattle.std.proofs.lemmas.Bool.Decides.{nat_tests}
use Rattle.std.proofs.lemmas.Grind.{get_or-set_at}
use Rattle.std.proofs.lemmas.List.{drop_all, get_or-replicate, get_or-set_other, get_or_past, length-replicate, length-set}
use Rattle.resolution.specs.Preorder.{AreLinks, Ascends, behind, below, below_from, first_with, head, onward, parent_at, stands_below, top_with}
use Rattle.resolution.proofs.Trees.{none_below}

-- the links so far, of the places from one on
pub record Linked (above : List (Option ℕ)) (at : ℕ) (top : Option ℕ) (first next : List (Option ℕ)) : Type 0 where
  pub low : at ≤ length above
  pub first_long : length first ≡ length above
  pub next_long : length next ≡ length above
  pub tops : onward above top ≡ below_from None at (drop at above)
  pub firsts : (p : ℕ) → p < length above → onward above (get_or first p None) ≡ below_from (Some p) at (drop at above)
  pub nexts : (p : ℕ) → at ≤ p → p < length above → onward above (get_or next p None) ≡ behind above p

-- nothing stands behind all places
none_from : (above : List (Option ℕ)) (place : Option ℕ) (at : ℕ) → length above ≤ at → below_from place at (drop at above) ≡ []
none_from above place at high = ap (below_from place at) (drop_all at above high)

-- at first there are no links
pub none_linked : (above first next : List (Option ℕ)) → first ≡ replicate (length above) None → next ≡ replicate (length above) None → Linked above (length above) None first next
none_linked above first next first_is next_is = record {
  low = omega arith;
  first_long = ap length first_is ∙ length-replicate (length above) None;
  next_long = ap length next_is ∙ length-replicate (length above) None;
  tops = sym (none_from above None (length above) (omega arith));
  firsts = λ p low.
      ap (λ l. onward above (get_or l p None)) first_is
      ∙ ap (onward above) (get_or-replicate (length above) p None None low)
      ∙ sym (none_from above (Some p) (length above) (omega arith));
  nexts = λ p high low. absurd (never p high low);
}
  where
    never : (p : ℕ) → length above ≤ p → p < length above → ⊥
    never p high low = omega (arith, high, low)

-- the next place of the list
next_from : (place : Option ℕ) (above : List (Option ℕ)) (k at : ℕ) (o : Option ℕ) → slice_get above k ≡ Some o
    → below_from place at (drop k above) ≡ (if stands_below place o then at ∷ below_from place (at + 1) (drop (suc k) above) else below_from place (at + 1) (drop (suc k) above))
next_from place [] k at o got = absurd (none got)
  where
    none : None ≡ Some o → ⊥
    none e = cc
next_from place (a ∷ above) zero at o got = ap (λ b. if b then at ∷ below_from place (at + 1) above else below_from place (at + 1) above) (ap (stands_or place) got)
  where
    stands_or : Option ℕ → Option (Option ℕ) → Bool
    stands_or place None = false
    stands_or place (Some o) = stands_below place o
next_from place (a ∷ above) (suc k) at o got = next_from place above k at o got

-- by whether it stands below a given one
next_by : (place : Option ℕ) (above : List (Option ℕ)) (at : ℕ) (o : Option ℕ) (test : Bool) → slice_get above at ≡ Some o → stands_below place o ≡ test
    → below_from place at (drop at above) ≡ (if test then at ∷ below_from place (at + 1) (drop (at + 1) above) else below_from place (at + 1) (drop (at + 1) above))
next_by place above at o test got is =
    let next : suc at ≡ at + 1 = omega arith in
    next_from place above at at o got
    ∙ ap (λ n. if stands_below place o then at ∷ below_from place (at + 1) (drop n above) else below_from place (at + 1) (drop n above)) next
    ∙ ap (λ b. if b then at ∷ below_from place (at + 1) (drop (at + 1) above) else below_from place (at + 1) (drop (at + 1) above)) is

got_parent : (above : List (Option ℕ)) (k : ℕ) → k < length above → slice_get above k ≡ Some (get_or above k None)
got_parent [] k low = absurd (never k low)
  where
    never : (k : ℕ) → k < 0 → ⊥
    never k low = omega (arith, low)
got_parent (o ∷ above) zero low = refl
got_parent (o ∷ above) (suc k) low = got_parent above k (omega (arith, low))

self : (o : Option ℕ) → stands_below o o ≡ true
self None = refl
self (Some p) = grind (arith, nat_tests)

same_or_not : (a b : ℕ) → (a ≡ b) ⊎ (a ≢ b)
same_or_not a b = by (a == b) refl
  where
    by : (t : Bool) → (a == b) ≡ t → (a ≡ b) ⊎ (a ≢ b)
    by true is = inl (grind (arith, nat_tests, is))
    by false is = inr (λ same. grind (arith, nat_tests, is, same))

differ : (a b : ℕ) → a ≢ b → (a == b) ≡ false
differ a b other = by (a == b) refl
  where
    by : (t : Bool) → (a == b) ≡ t → (a == b) ≡ false
    by true is = absurd (other (grind (arith, nat_tests, is)))
    by false is = is

module _ (above : List (Option ℕ)) (ascends : Ascends above) (at : ℕ) (top : Option ℕ) (first next : List (Option ℕ)) (before : Linked above (at + 1) top first next) where
  within : at < length above
  within = omega (arith, before.low)

  got : (o : Option ℕ) → parent_at above at ≡ o → slice_get above at ≡ Some o
  got o is = got_parent above at within ∙ ap Some is

  abbrev rest : Option ℕ → List ℕ
  rest o = below_from o (at + 1) (drop (at + 1) above)

  -- what was the first comes next
  heads : (o : Option ℕ) → parent_at above at ≡ o → onward above (head top first o) ≡ behind above at
  heads None is = before.tops ∙ ap rest (sym is)
  heads (Some p) is =
      let less = ascends at p (got (Some p) is) in
      before.firsts p (omega (arith, less, within)) ∙ ap rest (sym is)

  -- the place is the first from it on
  starts : (o : Option ℕ) → parent_at above at ≡ o → onward above (Some at) ≡ below_from o at (drop at above)
  starts o is = ap (λ x. at ∷ rest x) is ∙ sym (next_by o above at o true (got o is) (self o))

  tops : (o : Option ℕ) → parent_at above at ≡ o → onward above (top_with top o at) ≡ below_from None at (drop at above)
  tops None is = starts None is
  tops (Some p) is = before.tops ∙ sym (next_by None above at (Some p) false (got (Some p) is) refl)

  firsts : (o : Option ℕ) → parent_at above at ≡ o → (p : ℕ) → p < length above → onward above (get_or (first_with first o at) p None) ≡ below_from (Some p) at (drop at above)
  firsts None is p low = before.firsts p low ∙ sym (next_by (Some p) above at None false (got None is) refl)
  firsts (Some q) is p low = by (same_or_not p q)
    where
      by : (p ≡ q) ⊎ (p ≢ q) → onward above (get_or (set first q (Some at)) p None) ≡ below_from (Some p) at (drop at above)
      by (inl same) =
          ap (onward above) (get_or-set_at first q p (Some at) None same (omega (arith, low, same, before.first_long)))
          ∙ starts (Some q) is
          ∙ ap (λ r. below_from (Some r) at (drop at above)) (sym same)
      by (inr other) =
          ap (onward above) (get_or-set_other first q p (Some at) None other)
          ∙ before.firsts p low
          ∙ sym (next_by (Some p) above at (Some q) false (got (Some q) is) (differ p q other))

  first_long : (o : Option ℕ) → length (first_with first o at) ≡ length above
  first_long None = before.first_long
  first_long (Some q) = length-set first q (Some at) ∙ before.first_long

  nexts : (p : ℕ) → at ≤ p → p < length above → onward above (get_or (set next at (head top first (parent_at above at))) p None) ≡ behind above p
  nexts p high low = by (same_or_not p at)
    where
      by : (p ≡ at) ⊎ (p ≢ at) → onward above (get_or (set next at (head top first (parent_at above at))) p None) ≡ behind above p
      by (inl same) =
          ap (onward above) (get_or-set_at next at p (head top first (parent_at above at)) None same (omega (arith, within, before.next_long)))
          ∙ heads (parent_at above at) refl
          ∙ ap (behind above) (sym same)
      by (inr other) =
          ap (onward above) (get_or-set_other next at p (head top first (parent_at above at)) None other)
          ∙ before.nexts p (grind (arith, high, other)) low

  -- one place more is linked
  more : Linked above at (top_with top (parent_at above at) at) (first_with first (parent_at above at) at) (set next at (head top first (parent_at above at)))
  more = record {
    low = omega (arith, within);
    first_long = first_long (parent_at above at);
    next_long = length-set next at (head top first (parent_at above at)) ∙ before.next_long;
    tops = tops (parent_at above at) refl;
    firsts = firsts (parent_at above at) refl;
    nexts = nexts;
  }

-- so in a turn, which counts down
pub one_more : (above : List (Option ℕ)) (ascends : Ascends above) (at : ℕ) (top : Option ℕ) (first next : List (Option ℕ)) (new_top link : Option ℕ) (new_first new_next : List (Option ℕ))
    → 0 < at → link ≡ head top first (parent_at above (at - 1)) → new_top ≡ top_with top (parent_at above (at - 1)) (at - 1) → new_first ≡ first_with first (parent_at above (at - 1)) (at - 1) → new_next ≡ set next (at - 1) link
    → Linked above at top first next → Linked above (at - 1) new_top new_first new_next
one_more above ascends at top first next new_top link new_first new_next some link_is top_is first_is next_is linked =
    let k = at - 1 in
    let before : Linked above (k + 1) top first next = subst (λ n. Linked above n top first next) (omega (arith, some)) linked in
    subst (λ t. Linked above k t new_first new_next) (sym top_is)
    (subst (λ l. Linked above k (top_with top (parent_at above k) k) l new_next) (sym first_is)
    (subst (λ l. Linked above k (top_with top (parent_at above k) k) (first_with first (parent_at above k) k) l) (sym (next_is ∙ ap (set next k) link_is))
    (more above ascends k top first next before)))

-- and then all are
pub all_linked : (above : List (Option ℕ)) (ascends : Ascends above) (at : ℕ) (top : Option ℕ) (first next : List (Option ℕ)) → at ≤ 0 → Linked above at top first next → AreLinks above top first next
all_linked above ascends at top first next none linked = from (subst (λ n. Linked above n top first next) (omega (arith, none)) linked)
  where
    from : Linked above 0 top first next → AreLinks above top first next
    from linked = record {
      tops = linked.tops;
      firsts = λ p. firsts p (within p (length above));
      nexts = λ p. nexts p (within p (length above));
    }
      where
        within : (a b : ℕ) → (a < b) ⊎ (b ≤ a)
        within a zero = inr (omega arith)
        within zero (suc b) = inl (omega arith)
        within (suc a) (suc b) = lift (within a b)
          where
            lift : (a < b) ⊎ (b ≤ a) → (suc a < suc b) ⊎ (suc b ≤ suc a)
            lift (inl less) = inl (omega (arith, less))
            lift (inr more) = inr (omega (arith, more))

        firsts : (p : ℕ) → (p < length above) ⊎ (length above ≤ p) → onward above (get_or first p None) ≡ below (Some p) above
        firsts p (inl low) = linked.firsts p low
        firsts p (inr high) = ap (onward above) (get_or_past first p None (omega (arith, high, linked.first_long))) ∙ sym (none_below above ascends p high)

        nexts : (p : ℕ) → (p < length above) ⊎ (length above ≤ p) → onward above (get_or next p None) ≡ behind above p
        nexts p (inl low) = linked.nexts p (omega arith) low
        nexts p (inr high) =
            ap (onward above) (get_or_past next p None (omega (arith, high, linked.next_long)))
            ∙ sym (none_from above (parent_at above p) (p + 1) (omega (arith, high)))

-- The hands, one after another, while their areas are swept.
use Rattle.std.proofs.Common.{◌≡◌, ℕ, suc, ◌+◌, ◌<◌, ◌≤◌, ◌⊎◌, inl, inr, Bool, true, false, nat_lt, List, length, map, get_or, set, refl, sym, ap, subst, ◌∙◌, arith}
use Rattle.std.proofs.lemmas.Bool.Decides.{nat_tests}
use Rattle.std.proofs.lemmas.List.{get_or-map, get_or-set_other, get_or-set_same, length-set, map-set}
use Rattle.event_core.proofs.Fits.{same_or_not}
use Rattle.run_law.proofs.Stored.{length_map}
use Rattle.mvn_shared.specs.Cause.{HasRisen}
use Rattle.crew_turns.specs.Hands.{HandState}
use Rattle.crew.specs.CrewOutcomes.{hand_of, no_hand, told_of}
use Rattle.build_outcome.specs.Finished.{AreSwept, AreSweptTo, swept}
use Rattle.build_outcome.specs.Left.{AreaFailed, TellAsBefore}

-- the first so many are swept, and the others as they were
pub record IsSweeping (count : ℕ) (before now : List HandState) : Type 0 where
  pub many : length now ≡ length before
  pub done : AreSweptTo count before now
  pub left : (w : ℕ) → count ≤ w → hand_of now w ≡ hand_of before w

-- one number is below another, or not
less_or_not : (w n : ℕ) → (w < n) ⊎ (n ≤ w)
less_or_not w n = by (nat_lt w n) refl
  where
    by : (b : Bool) → nat_lt w n ≡ b → (w < n) ⊎ (n ≤ w)
    by true e = let low : w < n = grind (arith, nat_tests, e) in inl low
    by false e = let high : n ≤ w = grind (arith, nat_tests, e) in inr high

-- what is below the next number, and isn't the number, is below it
under : (w n : ℕ) → w < suc n → (w ≡ n → ⊥) → w < n
under w n less other = by (less_or_not w n)
  where
    by : (w < n) ⊎ (n ≤ w) → w < n
    by (inl low) = low
    by (inr high) = absurd (other (omega (arith, high, less)))

-- at first none is
pub begun : (before : List HandState) → IsSweeping 0 before before
begun before = record { many = refl; done = λ w low. absurd (omega (arith, low)); left = λ w high. refl }

-- one more
pub one_more : (count : ℕ) (before now : List HandState) (hand : HandState) → IsSweeping count before now → count < length now → hand ≡ swept (hand_of now count) → IsSweeping (suc count) before (set now count hand)
one_more count before now hand is low e = record {
  many = length-set now count hand ∙ is.many;
  done = λ w less. done w less (same_or_not w count);
  left = λ w high. get_or-set_other now count w hand no_hand (λ same. omega (arith, same, high)) ∙ is.left w (omega (arith, high));
}
  where
    done : (w : ℕ) → w < suc count → (w ≡ count) ⊎ ((w ≡ count) → ⊥) → hand_of (set now count hand) w ≡ swept (hand_of before w)
    done w less (inl same) = subst (λ k. hand_of (set now count hand) k ≡ swept (hand_of before k)) (sym same)
        (get_or-set_same now count hand no_hand low ∙ e ∙ ap swept (is.left count (omega arith)))
    done w less (inr other) = get_or-set_other now count w hand no_hand other ∙ is.done w (under w count less other)

-- all
pub all_swept : (count : ℕ) (before now : List HandState) → IsSweeping count before now → length now ≤ count → AreSwept before now
all_swept count before now is high = record { many = is.many; each = λ w low. is.done w (omega (arith, low, high, is.many)) }

-- hands whose areas are swept tell what they told
sweeping_tells : (count : ℕ) (before now : List HandState) → IsSweeping count before now → (w : ℕ) → w < length before → told_of now w ≡ told_of before w
sweeping_tells count before now is w low = by (less_or_not w count)
  where
    by : (w < count) ⊎ (count ≤ w) → told_of now w ≡ told_of before w
    by (inl less) = ap (λ (h : HandState). h.told) (is.done w less)
    by (inr high) = ap (λ (h : HandState). h.told) (is.left w high)

pub tells : (count : ℕ) (before now : List HandState) → IsSweeping count before now → TellAsBefore before now
tells count before now is = record { many = is.many; each = sweeping_tells count before now is }

-- also where one couldn't be swept
pub tells_stopped : (count : ℕ) (before now : List HandState) (hand : HandState) → IsSweeping count before now → count < length now → hand.told ≡ told_of now count → TellAsBefore before (set now count hand)
tells_stopped count before now hand is low e = record { many = length-set now count hand ∙ is.many; each = λ w less. by w less (same_or_not w count) }
  where
    by : (w : ℕ) → w < length before → (w ≡ count) ⊎ ((w ≡ count) → ⊥) → told_of (set now count hand) w ≡ told_of before w
    by w less (inl same) = subst (λ k. told_of (set now count hand) k ≡ told_of before k) (sym same)
        (ap (λ (h : HandState). h.told) (get_or-set_same now count hand no_hand low) ∙ e ∙ ap (λ (h : HandState). h.told) (is.left count (omega arith)))
    by w less (inr other) = ap (λ (h : HandState). h.told) (get_or-set_other now count w hand no_hand other) ∙ sweeping_tells count before now is w less

-- whose area failed
pub area_failed : (count : ℕ) (before now : List HandState) (hand : HandState) → IsSweeping count before now → count < length now → HasRisen (hand_of now count).area hand.area → AreaFailed before (set now count hand)
area_failed count before now hand is low rose = (
  count,
  omega (arith, low, is.many),
  subst (λ (h : HandState). HasRisen (hand_of before count).area h.area) (sym (get_or-set_same now count hand no_hand low))
      (subst (λ (h : HandState). HasRisen h.area hand.area) (is.left count (omega arith)) rose),
)

-- ---- hands, by their states

module _ {H : Type 0} (state : H → HandState) (count : ℕ) (old now : List H) (hand d : H) (is : IsSweeping count (map state old) (map state now)) (low : count < length now) where
  here : hand_of (map state now) count ≡ state (get_or now count d)
  here = get_or-map state now count d no_hand low

  long : count < length (map state now)
  long = let e = length_map state now in omega (arith, low, e)

  next : suc count ≡ count + 1
  next = omega arith

  -- one more is swept
  pub next_swept : state hand ≡ swept (state (get_or now count d)) → IsSweeping (count + 1) (map state old) (map state (set now count hand))
  next_swept e = subst (λ hands. IsSweeping (count + 1) (map state old) hands) (sym (map-set state now count hand))
      (subst (λ n. IsSweeping n (map state old) (set (map state now) count (state hand))) next (one_more count (map state old) (map state now) (state hand) is long (e ∙ ap swept (sym here))))

  -- or can't be
  pub stop_tells : (state hand).told ≡ (state (get_or now count d)).told → TellAsBefore (map state old) (map state (set now count hand))
  stop_tells e = subst (TellAsBefore (map state old)) (sym (map-set state now count hand)) (tells_stopped count (map state old) (map state now) (state hand) is long (e ∙ ap (λ (h : HandState). h.told) (sym here)))

  pub stop_failed : HasRisen (state (get_or now count d)).area (state hand).area → AreaFailed (map state old) (map state (set now count hand))
  stop_failed rose = subst (AreaFailed (map state old)) (sym (map-set state now count hand)) (area_failed count (map state old) (map state now) (state hand) is long (subst (λ (h : HandState). HasRisen h.area (state hand).area) (sym here) rose))

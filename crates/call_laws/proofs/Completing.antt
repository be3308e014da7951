-- A call in which nothing fails is answered in full.
use Rattle.std.proofs.Common.{◌≡◌, ◌≢◌, ℕ, zero, suc, ◌+◌, ◌<◌, ◌≤◌, ◌⊎◌, inl, inr, List, Option, Some, Result, IfSome, arith, refl, ap, subst, ◌∙◌}
use Rattle.std.specs.Prelude.{min}
use Rattle.std.proofs.Math.Nat.{min-eq_left}
use Rattle.mvn_shared.specs.Cause.{HasRisen, last_count}
use Rattle.mvn_outside.specs.declared.shelf.ShelfTold.{ShelfTold}
use Rattle.cli_words.specs.declared.command_line.CommandLine.{CommandLine}
use Rattle.build_core.specs.declared.event.Answered.{Answered}
use Rattle.build_core.specs.declared.event.Event.{Event}
use Rattle.crew.specs.CrewOutcomes.{hand_of}
use Rattle.build_outcome.specs.Left.{HandFailed}
use Rattle.build_outcome.specs.declared.outcome.Outcome.{Outcome}
use Rattle.call_plan.specs.Ending.{IsWhole}
use Rattle.call_plan.specs.Headline.{Comes, IsWanted, OneFailed}
use Rattle.call_plan.specs.Seen.{After, Seen, used}
use Rattle.call_laws.specs.Complete.{EndsCall, IsAnswered, NothingFailed}

-- a count that stands, and not at its end, hasn't risen
no_rise : (most n : ℕ) → n < most → min (n + 1) most ≤ n → ⊥
no_rise most n low rise = let same : min (n + 1) most ≡ n + 1 = min-eq_left (omega (arith, low)) in omega (arith, same, rise)

stands : (before now : ℕ) → now ≡ before → before < last_count → HasRisen before now → ⊥
stands before now same low risen = no_rise last_count before low (subst (λ n. min (before + 1) last_count ≤ n) same risen.rise)

-- a status up to 4 that is neither 3 nor 4
below_three : (n : ℕ) → n ≤ 4 → n ≢ 4 → (n ≡ 3 → ⊥) → n < 3
below_three zero low four three = omega arith
below_three (suc zero) low four three = omega arith
below_three (suc (suc zero)) low four three = omega arith
below_three (suc (suc (suc zero))) low four three = absurd (three refl)
below_three (suc (suc (suc (suc zero)))) low four three = absurd (four refl)
below_three (suc (suc (suc (suc (suc n))))) low four three = absurd (omega (arith, low))

module _ (asked : Result CommandLine Outcome) (seen : Seen) (after : After) (told : ShelfTold) (sink_before sink_now : ℕ) (shelf : seen.outside.shelf ≡ Some told) (none : NothingFailed asked seen after sink_before sink_now) where
  no_hand_failed : HandFailed (used asked seen.outside).hands (used asked after.outside).hands → ⊥
  no_hand_failed (w, low, failed) = by failed
    where
      by : HasRisen (hand_of (used asked seen.outside).hands w).remote (hand_of (used asked after.outside).hands w).remote
          ⊎ (HasRisen (hand_of (used asked seen.outside).hands w).area (hand_of (used asked after.outside).hands w).area
          ⊎ HasRisen (hand_of (used asked seen.outside).hands w).gate (hand_of (used asked after.outside).hands w).gate) → ⊥
      by (inl risen) = let still = none.none.rest.hands w low in let can = none.hands_low w low in stands (hand_of (used asked seen.outside).hands w).remote (hand_of (used asked after.outside).hands w).remote still.remote can.remote risen
      by (inr (inl risen)) = let still = none.none.rest.hands w low in let can = none.hands_low w low in stands (hand_of (used asked seen.outside).hands w).area (hand_of (used asked after.outside).hands w).area still.area can.area risen
      by (inr (inr risen)) = let still = none.none.rest.hands w low in let can = none.hands_low w low in stands (hand_of (used asked seen.outside).hands w).gate (hand_of (used asked after.outside).hands w).gate still.gate can.gate risen

  none_failed : HasRisen sink_before sink_now ⊎ OneFailed asked seen after → ⊥
  none_failed (inl risen) = stands sink_before sink_now none.sink none.sink_low risen
  none_failed (inr (inl risen)) = stands seen.faults after.faults none.none.tree none.tree_low risen
  none_failed (inr (inr (inl hand))) = no_hand_failed hand
  none_failed (inr (inr (inr failed))) =
      stands seen.outside.faults after.outside.faults none.none.rest.shelf none.shelf_low
      (subst (λ (s : Option ShelfTold). IfSome s (λ told. HasRisen seen.outside.faults after.outside.faults)) shelf failed)

  pub answered : (trace : List Event) (answers : List Answered) (status : ℕ) (before now : Option (List ℕ)) → EndsCall asked seen after trace answers status before now sink_before sink_now → status ≢ 4 → IsAnswered asked seen after trace answers status before now
  answered trace answers status before now call four =
      record { wanted = call.wanted; comes = by call.comes; whole = whole; low = low }
    where
      low : status < 3
      low = below_three status call.bound four (λ three. none_failed (call.fault three))

      whole : IsWhole call.wanted status before now
      whole = call.ends.whole low

      by : IsWanted asked seen after trace answers call.wanted → Comes asked seen after trace answers call.wanted
      by (inl comes) = comes
      by (inr memory) = absurd (four (whole.same_status ∙ ap (λ (o : Outcome). o.status) memory))

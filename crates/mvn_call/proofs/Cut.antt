-- The hands that a call uses are cut off at the front, and put back.
use Rattle.std.proofs.Common.{◌≡◌, ℕ, suc, List, [], ◌∷◌, ◌++◌, length, map, take, drop, Option, Result, refl, sym, ap, subst, ◌∙◌, arith}
use Rattle.std.proofs.lemmas.List.{length-map, take-map}
use Rattle.mvn_shared.specs.declared.memory.OutOfMemory.{OutOfMemory}
use Rattle.mvn_outside.specs.declared.shelf.ShelfTold.{ShelfTold}
use Rattle.build_core.specs.declared.event.Answered.{Answered}
use Rattle.build_core.specs.declared.event.Event.{Event}
use Rattle.build_core.specs.declared.plan.Plan.{Plan}
use Rattle.report.specs.declared.details.Details.{Details}
use Rattle.crew_turns.specs.Hands.{HandState}
use Rattle.build_outcome.specs.declared.outcome.Outcome.{Outcome}
use Rattle.build_outcome.specs.Left.{outside_by}
use Rattle.build_outcome.specs.Reports.{Reports}
use Rattle.call_plan.specs.Seen.{with_first}
use Rattle.mvn_call.proofs.First.{drop_all, take_all}

-- so many are put back as were cut off
pub same_many : {A : Type 0} (new first back old : List A) → length new ≡ length first → old ≡ first ++ back → length (new ++ back) ≡ length old
same_many [] [] back old e whole = ap length (sym whole)
same_many [] (f ∷ first) back old e whole = absurd (omega (arith, e))
same_many (n ∷ new) [] back old e whole = absurd (omega (arith, e))
same_many (n ∷ new) (f ∷ first) back old e whole = ap suc (same_many new first back (first ++ back) (omega (arith, e)) refl) ∙ ap length (sym whole)

-- a list of the same length takes another's place
pub in_place : {A : Type 0} (len : ℕ) (list old : List A) → len ≡ length old → length list ≡ length old → take len (list ++ drop (length list) old) ≡ list
in_place len list old is many = take_all len list (drop (length list) old) (many ∙ sym is)

module _ {S H : Type 0} (told : S → Option ShelfTold) (faults : S → ℕ) (state : H → HandState) (plan : Plan) (details : List Details) (n : ℕ) (shelf left : S) (old first new back : List H)
    (trace : List Event) (answers : List Answered) (outcome : Result Outcome OutOfMemory) (cut : first ≡ take n old) (size : length first ≡ n)
    (is : Reports plan details (outside_by told faults state shelf first) (outside_by told faults state left new) trace answers outcome) where
  -- as many come back
  pub as_many : length new ≡ n
  as_many = sym (length-map new state) ∙ is.tells.many ∙ length-map first state ∙ size

  before_cut : map state first ≡ take n (map state old)
  before_cut = ap (map state) cut ∙ sym (take-map state n old)

  now_cut : map state new ≡ take n (map state (new ++ back))
  now_cut = ap (map state) (sym (take_all n new back as_many)) ∙ sym (take-map state n (new ++ back))

  -- what is known of a build by the hands that were cut off, in terms of all
  pub by_first : Reports plan details (with_first n (outside_by told faults state shelf old)) (with_first n (outside_by told faults state left (new ++ back))) trace answers outcome
  by_first =
      subst (λ (hands : List HandState). Reports plan details (record { shelf = told shelf; faults = faults shelf; hands = hands }) (with_first n (outside_by told faults state left (new ++ back))) trace answers outcome) before_cut
      (subst (λ (hands : List HandState). Reports plan details (outside_by told faults state shelf first) (record { shelf = told left; faults = faults left; hands = hands }) trace answers outcome) now_cut is)

  -- where they stand again in the place of the old ones
  pub by_first_in : (len : ℕ) → len ≡ length old → old ≡ first ++ back
      → Reports plan details (with_first n (outside_by told faults state shelf old)) (with_first n (outside_by told faults state left (take len ((new ++ back) ++ drop (length (new ++ back)) old)))) trace answers outcome
  by_first_in len is whole =
      subst (λ (hands : List H). Reports plan details (with_first n (outside_by told faults state shelf old)) (with_first n (outside_by told faults state left hands)) trace answers outcome)
      (sym (in_place len (new ++ back) old is (same_many new first back old (as_many ∙ sym size) whole))) by_first

  -- the others stay
  pub others_stay : back ≡ drop n old → drop n (new ++ back) ≡ drop n old
  others_stay e = drop_all n new back as_many ∙ e

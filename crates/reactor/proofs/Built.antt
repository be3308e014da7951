-- The modules that are built are one list, or there is one fault.
use Rattle.std.proofs.Common.{◌≡◌, ℕ, List, Result, Ok, Err, refl, sym, ap, subst, ◌∙◌}
use Rattle.mvn_base.specs.declared.fault.ModelError.{ModelError}
use Rattle.mvn_base.specs.declared.fault.ModelError.TheVariants as errors
use Rattle.mvn_base.specs.declared.refusal.Refusal.{Refusal}
use Rattle.model_types.specs.declared.model.Model.{Model}
use Rattle.classpaths.specs.declared.resolution.Resolution.{Resolution}
use Rattle.cli_words.specs.declared.command_line.CommandLine.{CommandLine}
use Rattle.reactor.specs.declared.ordering.BuildOrder.{BuildOrder}
use Rattle.reactor.specs.declared.fault.SelectionFault.{SelectionFault}
use Rattle.reactor.specs.declared.fault.SelectionFault.TheVariants as picks
use Rattle.reactor.specs.Reactor.{Answers, AreBuilt, IsUnknown, Orders, Selects}
use Rattle.reactor.specs.Upstreams.{all_upstreams}
use Rattle.reactor.specs.declared.modules.ReactorModules.{ReactorModules}
use Rattle.reactor.specs.declared.modules.ReactorFault.{ReactorFault}
use Rattle.reactor.specs.declared.modules.ReactorFault.TheVariants.{Refused, Unknown, Memory}
use Rattle.reactor.proofs.Ordered.{one_order}
use Rattle.reactor.proofs.Picked.{one_pick}

abbrev found_or : BuildOrder → Result BuildOrder ModelError → BuildOrder
found_or d (Ok x) = x
found_or d (Err y) = d

abbrev refusal_or : Refusal → Result BuildOrder ModelError → Refusal
refusal_or d (Ok x) = d
refusal_or d (Err (errors.Refused refusal)) = refusal
refusal_or d (Err errors.Memory) = d

abbrev list_or : List ℕ → Result (List ℕ) SelectionFault → List ℕ
list_or d (Ok x) = x
list_or d (Err y) = d

abbrev place_or : ℕ → Result (List ℕ) SelectionFault → ℕ
place_or d (Ok x) = d
place_or d (Err (picks.Unknown place)) = place
place_or d (Err picks.Memory) = d

found_said : (found : BuildOrder) → ◌≡◌ {A = Result BuildOrder ModelError} (Ok found) (Err errors.Memory) → ⊥
found_said found e = cc

refused_said : (refusal : Refusal) → ◌≡◌ {A = Result BuildOrder ModelError} (Err (errors.Refused refusal)) (Err errors.Memory) → ⊥
refused_said refusal e = cc

apart_order : (found : BuildOrder) (refusal : Refusal) → ◌≡◌ {A = Result BuildOrder ModelError} (Ok found) (Err (errors.Refused refusal)) → ⊥
apart_order found refusal e = cc

list_said : (list : List ℕ) → ◌≡◌ {A = Result (List ℕ) SelectionFault} (Ok list) (Err picks.Memory) → ⊥
list_said list e = cc

unknown_said : (place : ℕ) → ◌≡◌ {A = Result (List ℕ) SelectionFault} (Err (picks.Unknown place)) (Err picks.Memory) → ⊥
unknown_said place e = cc

apart_list : (list : List ℕ) (place : ℕ) → ◌≡◌ {A = Result (List ℕ) SelectionFault} (Ok list) (Err (picks.Unknown place)) → ⊥
apart_list list place e = cc

module _ (modules : List Model) (resolutions : List Resolution) (line : CommandLine) where
  same_found : (x y : BuildOrder) → Orders modules resolutions (Ok x) → Orders modules resolutions (Ok y) → x ≡ y
  same_found x y is too = ap (found_or x) (one_order modules resolutions (Ok x) (Ok y) is too (found_said x) (found_said y))

  -- an order has no circle
  no_circle : (found : BuildOrder) (refusal : Refusal) → Orders modules resolutions (Ok found) → Orders modules resolutions (Err (errors.Refused refusal)) → ⊥
  no_circle found refusal is too = apart_order found refusal (one_order modules resolutions (Ok found) (Err (errors.Refused refusal)) is too (found_said found) (refused_said refusal))

  same_refusal : (x y : Refusal) → Orders modules resolutions (Err (errors.Refused x)) → Orders modules resolutions (Err (errors.Refused y)) → x ≡ y
  same_refusal x y is too = ap (refusal_or x) (one_order modules resolutions (Err (errors.Refused x)) (Err (errors.Refused y)) is too (refused_said x) (refused_said y))

  -- what words select of one order
  moved : (x y : BuildOrder) (answer : Result (List ℕ) SelectionFault) → Orders modules resolutions (Ok x) → Orders modules resolutions (Ok y) → Selects modules line y answer → Selects modules line x answer
  moved x y answer is too picked = subst (λ found. Selects modules line found answer) (sym (same_found x y is too)) picked

  same_pick : (x y : BuildOrder) (a b : Result (List ℕ) SelectionFault) → Orders modules resolutions (Ok x) → Orders modules resolutions (Ok y) → Selects modules line x a → Selects modules line y b
      → (a ≡ Err picks.Memory → ⊥) → (b ≡ Err picks.Memory → ⊥) → a ≡ b
  same_pick x y a b is too one other said said_too = one_pick modules x.order x.edges line a b one (moved x y b is too other) said said_too

  same_built : (a b : ReactorModules) → AreBuilt modules resolutions line a → AreBuilt modules resolutions line b → a ≡ b
  same_built a b is too =
      let numbers : a.numbers ≡ b.numbers =
      ap (list_or a.numbers) (same_pick is.found too.found (Ok a.numbers) (Ok b.numbers) is.ordered too.ordered is.selected too.selected (list_said a.numbers) (list_said b.numbers)) in
      let order = same_found is.found too.found is.ordered too.ordered in
      let below : all_upstreams is.found.edges a.numbers ≡ all_upstreams too.found.edges b.numbers = (λ i. all_upstreams (order i).edges (numbers i)) in
      let upstreams : a.upstreams ≡ b.upstreams = is.upstreams ∙ below ∙ sym too.upstreams in
      λ i. record { numbers = numbers i; upstreams = upstreams i }

  -- modules that are built have no word that means none
  no_unknown : (a : ReactorModules) (place : ℕ) → AreBuilt modules resolutions line a → IsUnknown modules resolutions line place → ⊥
  no_unknown a place is too =
      apart_list a.numbers place
      (same_pick is.found too.found (Ok a.numbers) (Err (picks.Unknown place)) is.ordered too.ordered is.selected too.unknown (list_said a.numbers) (unknown_said place))

  same_word : (p q : ℕ) → IsUnknown modules resolutions line p → IsUnknown modules resolutions line q → p ≡ q
  same_word p q is too =
      ap (place_or p) (same_pick is.found too.found (Err (picks.Unknown p)) (Err (picks.Unknown q)) is.ordered too.ordered is.unknown too.unknown (unknown_said p) (unknown_said q))

  pub one_answer : (a b : Result ReactorModules ReactorFault) → Answers modules resolutions line a → Answers modules resolutions line b → (a ≡ Err Memory → ⊥) → (b ≡ Err Memory → ⊥) → a ≡ b
  one_answer (Err Memory) b is too said said_too = absurd (said refl)
  one_answer (Ok x) (Err Memory) is too said said_too = absurd (said_too refl)
  one_answer (Err (Refused x)) (Err Memory) is too said said_too = absurd (said_too refl)
  one_answer (Err (Unknown p)) (Err Memory) is too said said_too = absurd (said_too refl)
  one_answer (Ok x) (Ok y) is too said said_too = ap (λ z. Ok z) (same_built x y is too)
  one_answer (Ok x) (Err (Refused y)) is too said said_too = absurd (no_circle is.found y is.ordered too)
  one_answer (Ok x) (Err (Unknown q)) is too said said_too = absurd (no_unknown x q is too)
  one_answer (Err (Refused x)) (Ok y) is too said said_too = absurd (no_circle too.found x too.ordered is)
  one_answer (Err (Refused x)) (Err (Refused y)) is too said said_too = ap (λ z. Err (Refused z)) (same_refusal x y is too)
  one_answer (Err (Refused x)) (Err (Unknown q)) is too said said_too = absurd (no_circle too.found x too.ordered is)
  one_answer (Err (Unknown p)) (Ok y) is too said said_too = absurd (no_unknown y p too is)
  one_answer (Err (Unknown p)) (Err (Refused y)) is too said said_too = absurd (no_circle is.found y is.ordered too)
  one_answer (Err (Unknown p)) (Err (Unknown q)) is too said said_too = ap (λ z. Err (Unknown z)) (same_word p q is too)

use Rattle.std.proofs.Common.{◌≡◌, false, ◌&&◌, Some, is_some, IfOk, sym, ap, subst, ◌∙◌}
use Rattle.std.specs.Option.{option_map_or}
use Rattle.profiles.specs.Activation.{asks_file}
use Rattle.profiles.specs.Judging.{holds_by}
use Rattle.profiles.proofs.judge.Judge.activates.Goals as goal

pub returns-in-Some-clause-alone : goal.returns-in-Some-clause-alone
returns-in-Some-clause-alone g c =
    let j = c.args.self.now in
    let there : Some c.value.result.now ≡ c.args.activation.now = ap Some c.value.ensures ∙ sym c.in-Some.is in
    record {
      is = λ none world.
          subst (λ a. IfOk c.holds.result (λ x. x ≡ option_map_or (holds_by j world) a false)) there
          (c.holds.ensures.alone.is (ap (λ a. is_some j.place && option_map_or asks_file a false) there ∙ none) world);
    }

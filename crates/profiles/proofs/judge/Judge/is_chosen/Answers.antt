use Rattle.std.proofs.Common.{◌≡◌, ℕ, Bool, false, List, is_some, IfOk, sym, subst, ◌∙◌}
use Rattle.std.specs.Option.{option_map_or}
use Rattle.profiles.specs.Activation.{asks_file, is_listed}
use Rattle.profiles.specs.Judging.{holds_by, off_by, on_by}
use Rattle.profiles.proofs.Asking.{neither_listed, unlisted_false}
use Rattle.profiles.proofs.judge.Judge.is_chosen.Goals as goal

pub returns-clause-alone : goal.returns-clause-alone
returns-clause-alone g c =
    let j = c.args.self.now in
    let p = c.args.profile.now in
    let off : is_listed (off_by j) p.id ≡ false = sym c.is_listed.ensures ∙ c.if-is_listed.false in
    let on : is_listed (on_by j) p.id ≡ false = sym c.is_listed-2.ensures ∙ c.if-is_listed-2.false in
    let asks = unlisted_false (is_some j.place) (is_listed (off_by j) p.id) (is_listed (on_by j) p.id) (option_map_or asks_file p.activation false) off on in
    let chosen = λ (world : List ℕ → Bool). neither_listed (is_listed (off_by j) p.id) (is_listed (on_by j) p.id) (option_map_or (holds_by j world) p.activation false) off on in
    record {
      is = λ none world. subst (λ b. IfOk c.activates.result (λ x. x ≡ b)) (sym (chosen world)) (c.activates.ensures.alone.is (asks none) world);
    }

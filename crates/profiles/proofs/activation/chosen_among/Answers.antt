use Rattle.std.proofs.Common.{◌≡◌, ℕ, ◌+◌, Bool, false, List, [], ◌∷◌, ◌++◌, ◌<◌, get_or, length, map, is_some, ap, ◌∙◌}
use Rattle.std.proofs.lemmas.List.{length-append}
use Rattle.profiles.specs.Activation.{needs_file}
use Rattle.profiles.specs.Judging.{asks_for_any, is_chosen_by, off_by, on_by}
use Rattle.profiles.proofs.Asking.{map_more, none_from}
use Rattle.profiles.proofs.Telling.{told_both}
use Rattle.profiles.proofs.activation.chosen_among.Goals as goal

pub loop-profile-preserved : goal.loop-profile-preserved
loop-profile-preserved g c =
    let j = c.args.judge.now in
    let profiles = c.args.profiles.now in
    let at = c.loop-profile.profile-index in
    let item = c.profile-item.result in
    let low : at < length profiles = c.loop-profile-test.true in
    let is : item ≡ get_or profiles at item = c.profile-item.is in
    let none_at = λ (none : asks_for_any j profiles ≡ false).
    none_from (is_some j.place) (needs_file (on_by j) (off_by j)) profiles at item low is (c.loop-profile.invariant.further none) in
    let more = λ (world : List ℕ → Bool) (chosen : c.in_ok-chosen.chosen ≡ is_chosen_by j world item).
    map_more (is_chosen_by j world) profiles at item c.loop-profile.list c.push.new.self (map (is_chosen_by j world) profiles) low is
    (c.in_ok-push.ensures.ok ∙ ap (λ b. c.loop-profile.list ++ b ∷ []) chosen) in
    record {
      tells = λ world fits. more world (c.in_ok-chosen.ensures.asks.tells world (c.loop-profile.invariant.fit world fits)) (c.loop-profile.invariant.tells world fits);
      alone = λ none world. more world (c.in_ok-chosen.ensures.alone.is (none_at none).0 world) (c.loop-profile.invariant.alone none world);
      further = λ none. (none_at none).1;
      untouched = λ none. c.in_ok-chosen.ensures.untouched (none_at none).0 ∙ c.loop-profile.invariant.untouched none;
      fit = λ world fits. c.in_ok-chosen.ensures.asks.fit world (c.loop-profile.invariant.fit world fits);
      same = told_both c.loop-profile.invariant.same c.in_ok-chosen.ensures.asks.same;
      faults = c.in_ok-chosen.ensures.asks.cause ∙ c.loop-profile.invariant.faults;
      each = ap length c.in_ok-push.ensures.ok ∙ length-append c.loop-profile.list (c.in_ok-chosen.chosen ∷ []) ∙ ap (λ n. n + 1) c.loop-profile.invariant.each;
    }

use Rattle.std.proofs.Common.{ap, zip, ◌∙◌}
use Rattle.std.specs.List.{list_any}
use Rattle.profiles.specs.Activation.{places_from}
use Rattle.profiles.specs.Judging.{active_in, asks_for_any, is_placed}
use Rattle.profiles.proofs.Joins.{places_active}
use Rattle.profiles.proofs.activation.active_among.Goals as goal

pub returns : goal.returns
returns g c =
    let judge = c.args.judge.now in
    let profiles = c.as_slice-profiles.result.now in
    let same = c.as_slice-profiles.ensures ∙ c.deref.ensures in
    let kept = c.in_ok-places.ensures
    ∙ ap (λ l. places_from (is_placed judge (list_any (λ b. b) l)) 0 (zip l profiles)) c.as_slice.ensures in
    record {
      asks = record {
        tells = λ world fits. kept
            ∙ places_active judge world profiles c.in_ok-chosen.chosen (c.in_ok-chosen.ensures.asks.tells world fits)
            ∙ ap (active_in judge world) same;
        fit = c.in_ok-chosen.ensures.asks.fit;
        same = c.in_ok-chosen.ensures.asks.same;
        cause = c.in_ok-chosen.ensures.asks.cause;
      };
      alone = record {
        is = λ none world. kept
            ∙ places_active judge world profiles c.in_ok-chosen.chosen (c.in_ok-chosen.ensures.alone.is (ap (asks_for_any judge) same ∙ none) world)
            ∙ ap (active_in judge world) same;
      };
      untouched = λ none. c.in_ok-chosen.ensures.untouched (ap (asks_for_any judge) same ∙ none);
    }

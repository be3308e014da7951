use Rattle.std.proofs.Common.{◌≡◌, ℕ, ◌-◌, List, length, length-drop, ◌∙◌, ap, sym, arith, take, drop}
use Rattle.std.proofs.Math.Seq.{take-add}
use Rattle.std.proofs.lemmas.List.{take_all}
use Rattle.mvn_shared.specs.Told.{gains}
use Rattle.mvn_shared.proofs.Told.{gains-gains}
use Rattle.mvn_outside.proofs.sink.write_all.Goals as goal

take_all_of_drop : (i : ℕ) (xs : List ℕ) → take (length xs - i) (drop i xs) ≡ drop i xs
take_all_of_drop i xs = take_all _ _ (simp length-drop (omega arith))

pub loop-done-preserved : goal.loop-done-preserved
loop-done-preserved g c =
    let text = c.args.text.now in
    let done = c.loop-done.done in
    let count = c.in_ok-done.field-0 in
    let rest = take_all_of_drop done text in
    let told = g.O.Sink.written c.args.out.now in
    record {
      within = omega (arith, c.in_ok-done.ensures.within);
      so_far =
          c.in_ok-done.ensures.takes ∙ ap (λ part. gains (g.O.Sink.written c.loop-done.out) (take count part)) rest ∙ ap (λ t. gains t (take count (drop done text))) c.loop-done.invariant.so_far
          ∙ gains-gains told (take done text) (take count (drop done text)) ∙ ap (gains told) (sym (take-add done count text));
      never = c.write.ensures.never ∙ c.loop-done.invariant.never;
      quiet = c.in_ok-done.ensures.cause ∙ c.loop-done.invariant.quiet;
    }

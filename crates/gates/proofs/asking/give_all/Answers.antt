use Rattle.std.proofs.Common.{◌≡◌, ℕ, ◌-◌, List, length, length-drop, ◌∙◌, ap, sym, arith, take, drop, refl}
use Rattle.std.proofs.lemmas.List.{take_all}
use Rattle.children.specs.Children.{is_there, changed, given_more}
use Rattle.gates.proofs.Steps.{give_nothing, give_step, on_err, touched_still}
use Rattle.gates.specs.Asking.{Touches}
use Rattle.gates.proofs.asking.give_all.Goals as goal

take_all_of_drop : (i : ℕ) (xs : List ℕ) → take (length xs - i) (drop i xs) ≡ drop i xs
take_all_of_drop i xs = take_all _ _ (simp length-drop (omega arith))

pub loop-done-init : goal.loop-done-init
loop-done-init g c = record {
  within = omega arith;
  so_far = give_nothing (g.P.Spawner.told c.args.spawner.now) c.args.child;
  there = refl;
  never = refl;
  quiet = refl;
}

pub write-requires : goal.write-requires
write-requires g c = ap (λ s. is_there s c.args.child) c.loop-done.invariant.there ∙ c.requires

pub loop-done-preserved : goal.loop-done-preserved
loop-done-preserved g c =
    let bytes = c.args.bytes.now in
    let done = c.loop-done.done in
    let count = c.in_ok-done.field-0 in
    let told = g.P.Spawner.told c.args.spawner.now in
    let here = g.P.Spawner.told c.loop-done.spawner in
    record {
      within = omega (arith, c.in_ok-done.ensures.within);
      so_far = give_step told here _ c.args.child done count bytes c.loop-done.invariant.so_far (c.in_ok-done.ensures.gives ∙ ap (λ part. changed (given_more (take count part)) c.args.child here) (take_all_of_drop done bytes));
      there = c.write.ensures.there ∙ c.loop-done.invariant.there;
      never = c.write.ensures.never ∙ c.loop-done.invariant.never;
      quiet = c.in_ok-done.ensures.cause ∙ c.loop-done.invariant.quiet;
    }

pub returns-in_err-done-clause-err : goal.returns-in_err-done-clause-err
returns-in_err-done-clause-err g c =
    let told = g.P.Spawner.told c.args.spawner.now in
    let here = g.P.Spawner.told c.loop-done.spawner in
    let left = g.P.Spawner.told c.write.new.self in
    on_err (Touches c.args.child told left) c.from_residual.result (touched_still told here left c.args.child (given_more (take c.loop-done.done c.args.bytes.now)) c.loop-done.invariant.so_far c.in_err-done.ensures.err)

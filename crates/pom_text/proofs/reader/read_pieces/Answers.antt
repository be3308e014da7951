use Rattle.std.proofs.Common.{rules, arith, length, sym, ap, ◌∙◌}
use Rattle.std.specs.Str.{chars}
use Rattle.mvn_base.specs.declared.rule.Rule.TheVariants.{NotPomText}
use Rattle.pom_text.specs.Growth.{standing_of, take_part}
use Rattle.pom_text.specs.Running.{halted}
use Rattle.pom_text.specs.Runs.{grown_run, said}
use Rattle.pom_text.proofs.Plain.{few_behind, goes_on, halts_there, shorter_behind}
use Rattle.pom_text.proofs.Runs.{fitted, piece_shorter, run_deep, run_end, run_more, run_unfit, still_few, unfitted}
use Rattle.pom_text.proofs.reader.read_pieces.Goals as goal

pub returns-then-not-branch : goal.returns-then-not-branch
returns-then-not-branch c =
    let rest = chars c.pieces.rest.now in
    let s = standing_of c.pieces.tree in
    let none = unfitted c.in_ok-take_run.field-0 (standing_of c.take_run.new.self) (grown_run s (chars c.run_of.result.0.now)) c.if-not-branch.true c.in_ok-take_run.ensures in
    ap (halted NotPomText) c.skip_space.ensures ∙ sym (halts_there c.args.whole s rest (chars c.run_of.result.0.now) (chars c.run_of.result.1.now) c.run_of.ensures none) ∙ c.pieces.invariant.same

pub returns-in_default : goal.returns-in_default
returns-in_default c =
    let rest = chars c.pieces.rest.now in
    let marked = chars c.run_of.result.1.now in
    let s = standing_of c.pieces.tree in
    let t = standing_of c.take_run.new.self in
    let some = fitted c.in_ok-take_run.field-0 t (grown_run s (chars c.run_of.result.0.now)) c.if-not-branch.false c.in_ok-take_run.ensures in
    c.finish.ensures ∙ sym (run_end c.args.whole t marked (sym c.in_default.ensures)) ∙ sym (goes_on c.args.whole s t rest (chars c.run_of.result.0.now) marked c.run_of.ensures some) ∙ c.pieces.invariant.same

pub take-requires : goal.take-requires
take-requires c =
    let rest = chars c.pieces.rest.now in
    let marked = chars c.run_of.result.1.now in
    let s = standing_of c.pieces.tree in
    let t = standing_of c.take_run.new.self in
    let some = fitted c.in_ok-take_run.field-0 t (grown_run s (chars c.run_of.result.0.now)) c.if-not-branch.false c.in_ok-take_run.ensures in
    omega (arith, c.requires, few_behind s t rest (chars c.run_of.result.0.now) marked (length (chars c.args.text.now)) c.run_of.ensures some c.pieces.invariant.few)

pub returns-then-not-branch-2 : goal.returns-then-not-branch-2
returns-then-not-branch-2 c =
    let rest = chars c.pieces.rest.now in
    let marked = chars c.run_of.result.1.now in
    let s = standing_of c.pieces.tree in
    let t = standing_of c.take_run.new.self in
    let part = said c.in-Some.part in
    let some = fitted c.in_ok-take_run.field-0 t (grown_run s (chars c.run_of.result.0.now)) c.if-not-branch.false c.in_ok-take_run.ensures in
    let none = unfitted c.in_ok-take.field-0 (standing_of c.take.new.self) (take_part t part) c.if-not-branch-2.true c.in_ok-take.ensures in
    sym (run_unfit c.args.whole t marked (part, chars c.in-Some.behind.now) (sym c.in-Some.ensures) none) ∙ sym (goes_on c.args.whole s t rest (chars c.run_of.result.0.now) marked c.run_of.ensures some) ∙ c.pieces.invariant.same

pub returns-then-deep : goal.returns-then-deep
returns-then-deep c =
    let rest = chars c.pieces.rest.now in
    let marked = chars c.run_of.result.1.now in
    let s = standing_of c.pieces.tree in
    let t = standing_of c.take_run.new.self in
    let part = said c.in-Some.part in
    let some = fitted c.in_ok-take_run.field-0 t (grown_run s (chars c.run_of.result.0.now)) c.if-not-branch.false c.in_ok-take_run.ensures in
    let taken = fitted c.in_ok-take.field-0 (standing_of c.take.new.self) (take_part t part) c.if-not-branch-2.false c.in_ok-take.ensures in
    sym (run_deep c.args.whole t (standing_of c.take.new.self) marked (part, chars c.in-Some.behind.now) (sym c.in-Some.ensures) taken (sym c.is_deep-deep.ensures ∙ c.if-deep.true))
    ∙ sym (goes_on c.args.whole s t rest (chars c.run_of.result.0.now) marked c.run_of.ensures some) ∙ c.pieces.invariant.same

pub pieces-smaller : goal.pieces-smaller
pieces-smaller c =
    let part = said c.in-Some.part in
    omega (arith, piece_shorter (chars c.run_of.result.1.now) (part, chars c.in-Some.behind.now) (sym c.in-Some.ensures), shorter_behind (chars c.pieces.rest.now) (chars c.run_of.result.0.now) (chars c.run_of.result.1.now) c.run_of.ensures)

pub pieces-preserved : goal.pieces-preserved
pieces-preserved c =
    let rest = chars c.pieces.rest.now in
    let marked = chars c.run_of.result.1.now in
    let s = standing_of c.pieces.tree in
    let t = standing_of c.take_run.new.self in
    let u = standing_of c.take.new.self in
    let part = said c.in-Some.part in
    let total = length (chars c.args.text.now) in
    let some = fitted c.in_ok-take_run.field-0 t (grown_run s (chars c.run_of.result.0.now)) c.if-not-branch.false c.in_ok-take_run.ensures in
    let taken = fitted c.in_ok-take.field-0 u (take_part t part) c.if-not-branch-2.false c.in_ok-take.ensures in
    record {
      utf8 = search rules;
      same = sym (run_more c.args.whole t u marked (part, chars c.in-Some.behind.now) (sym c.in-Some.ensures) taken (sym c.is_deep-deep.ensures ∙ c.if-deep.false))
          ∙ sym (goes_on c.args.whole s t rest (chars c.run_of.result.0.now) marked c.run_of.ensures some) ∙ c.pieces.invariant.same;
      few = still_few t u marked (part, chars c.in-Some.behind.now) total (sym c.in-Some.ensures) taken (few_behind s t rest (chars c.run_of.result.0.now) marked total c.run_of.ensures some c.pieces.invariant.few);
    }

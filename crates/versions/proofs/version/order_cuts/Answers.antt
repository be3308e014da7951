use Rattle.std.proofs.Common.{◌∙◌, sym, arith}
use Rattle.versions.specs.Order.{token_cmp}
use Rattle.versions.specs.Cuts.{cut_token}
use Rattle.versions.proofs.Compares.{level_end}
use Rattle.versions.proofs.version.order_cuts.Goals as goal

pub returns : goal.returns
returns c = c.cmp.ensures ∙ sym (level_end token_cmp (cut_token c.args.text.now) (cut_token c.args.other_text.now) c.args.cuts.now c.args.others.now c.loop-at.at (omega (arith, c.min-both.ensures, c.loop-at-test.false, c.loop-at.auto.at-end))) ∙ sym c.loop-at.invariant

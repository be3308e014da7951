use Rattle.std.proofs.Common.{length-take, sym, arith}
use Rattle.std.proofs.lemmas.List.{take_all}
use Rattle.report.proofs.text.front.Goals as goal

pub slice_bounds-result-end : goal.slice_bounds-result-end
slice_bounds-result-end c = omega (arith, length-take 200 c.args.bytes.now, c.if-bytes-le-MOST_SHOWN.false)

pub returns-then-bytes-le-MOST_SHOWN : goal.returns-then-bytes-le-MOST_SHOWN
returns-then-bytes-le-MOST_SHOWN c = sym (take_all 200 c.args.bytes.now (omega (arith, c.if-bytes-le-MOST_SHOWN.true)))

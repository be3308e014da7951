use Rattle.std.proofs.Common.{◌≤◌, ◌<◌, ◌-◌, length, sym, subst, ◌∙◌, arith}
use Rattle.std.proofs.lemmas.Grind.{get_or_default_zero}
use Rattle.outside_mem.proofs.Moments.{read_date}
use Rattle.outside_mem.proofs.shelf.MemShelf.settled_before.Goals as goal

pub returns-clause-within : goal.returns-clause-within
returns-clause-within g c =
    let dates = c.args.self.now.dates.items in
    let low : c.args.moment - 1 < length dates = omega (c.requires, c.args.self.now.dated, c.if-moment-eq0.false, arith) in
    subst (λ n. n ≤ c.args.moment) (sym (c.index.ensures ∙ get_or_default_zero dates (c.args.moment - 1) c.index.result.now low ∙ read_date dates c.args.moment (omega (c.if-moment-eq0.false, arith)))) (c.args.self.now.early c.args.moment)

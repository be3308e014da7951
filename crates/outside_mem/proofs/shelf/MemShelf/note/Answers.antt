use Rattle.std.proofs.Common.{◌≤◌, ℕ, List, sym, subst, arith}
use Rattle.outside_mem.specs.Image.{settled_at}
use Rattle.outside_mem.proofs.Moments.{one_date}
use Rattle.outside_mem.proofs.shelf.MemShelf.note.Goals as goal

pub invariant_of-self-in-Ok-clause-early : goal.invariant_of-self-in-Ok-clause-early
invariant_of-self-in-Ok-clause-early g c =
    let me = c.args.self.now in
    subst (λ (dates : List ℕ). (moment : ℕ) → settled_at dates moment ≤ moment) (sym c.in_ok-push.ensures.items) (one_date me.dates.items me.settled me.early (omega (me.within, me.dated, arith)))

use Rattle.std.proofs.Common.{◌≡◌, ℕ, [], nat_eq, fold, drop}
use Rattle.std.specs.HashSet.{contains}
use Rattle.scripts.specs.Outlines.{is_listed, once_more}
use Rattle.scripts.proofs.outline.once.Given as goal

-- the files before this one are kept, each once, and marked
abbrev pub invariant-loop-at : goal.invariant-loop-at
invariant-loop-at l = (fold once_more l.kept (drop l.at l.files) ≡ fold once_more [] l.files) × ((q : ℕ) → contains nat_eq l.met q ≡ is_listed q l.kept)

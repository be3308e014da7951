use Rattle.std.proofs.Common.{◌≡◌, length, take, IfSome}
use Rattle.sources.proofs.SourcesRead.{IsSoFar}
use Rattle.sources.proofs.modules.all_sources.Given as goal

-- the sources so far, and the room that they leave
abbrev pub invariant-loop-folders : goal.invariant-loop-folders
invariant-loop-folders g l = record {
  so_far : IfSome (g.T.Tree.files l.fn.tree) (λ files. IsSoFar files (take l.folders-index l.modules) l.earlier l.count l.room);
  each : length l.earlier ≡ l.folders-index;
  same : g.T.Tree.files l.tree ≡ g.T.Tree.files l.fn.tree;
  quiet : g.T.Files.faults l.tree ≡ g.T.Files.faults l.fn.tree;
}

use Rattle.std.proofs.Common.{◌≡◌, ◌+◌, take, IfSome}
use Rattle.sources.specs.Sources.{sources_at, sources_len}
use Rattle.sources.proofs.sources.read_sources.Given as goal

-- the files so far, and the room that they leave
abbrev pub invariant-loop-name : goal.invariant-loop-name
invariant-loop-name g l = record {
  so_far : IfSome (g.T.Tree.files l.fn.tree) (λ files. l.sources ≡ sources_at files (take l.name-index l.names));
  left : l.left + sources_len l.sources ≡ l.room;
  same : g.T.Tree.files l.tree ≡ g.T.Tree.files l.fn.tree;
  quiet : g.T.Files.faults l.tree ≡ g.T.Files.faults l.fn.tree;
}

use Rattle.std.proofs.Common.{◌≡◌, drop, fold, IfSome}
use Rattle.std.specs.List.{list_any}
use Rattle.mvn_shared.specs.Files.{names_below}
use Rattle.sources.specs.Sources.{is_long, names_in, with_names}
use Rattle.sources.proofs.names.names_in.Given as goal

-- the names so far, and those below the folders that are left
abbrev pub invariant-loop-folder : goal.invariant-loop-folder
invariant-loop-folder g l = record {
  so_far : IfSome (g.T.Tree.files l.fn.tree) (λ files. (fold (λ names folder. with_names names (names_below files folder)) l.names (drop l.folder-index l.folders) ≡ names_in files l.folders) × (list_any (is_long files) (drop l.folder-index l.folders) ≡ list_any (is_long files) l.folders));
  same : g.T.Tree.files l.tree ≡ g.T.Tree.files l.fn.tree;
  quiet : g.T.Files.faults l.tree ≡ g.T.Files.faults l.fn.tree;
}

use Rattle.project_libraries.proofs.resolving.resolve_kept.Goals as goal

pub returns-clause-same : goal.returns-clause-same
returns-clause-same g c = g.met.L.Whole.whole _ _ c.resolve_each.ensures.alike

use Rattle.project_models.proofs.project.poms_in.Goals as goal

pub returns-clause-same : goal.returns-clause-same
returns-clause-same g c = g.met.P.Whole.whole _ _ c.project_poms.ensures.same

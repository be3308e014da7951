use Rattle.project_models.proofs.project.models_in.Goals as goal

pub returns-clause-same : goal.returns-clause-same
returns-clause-same g c = g.met.P.Whole.whole _ _ c.models_of.ensures.same

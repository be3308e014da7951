use Rattle.model_laws.proofs.Composed.{join_bound, managed_over, names_bound}
use Rattle.model_laws.proofs.composing.declared_keep_order.Goals as goal

pub returns : goal.returns
returns c = record { order = names_bound; once = join_bound; managed = λ declared managed bound entry binding alone. managed_over declared managed bound alone.name entry binding alone.undeclared alone.managed alone.bound }

use Rattle.project_models.proofs.Leading.{own_held}
use Rattle.project_models.proofs.own.own_store.Goals as goal

pub returns : goal.returns
returns c = λ tree local remote given held said.
    own_held tree local remote given c.as_slice-list.ensures c.only_by_path-read.ensures c.keep_own.ensures c.over-run.ensures held said

use Rattle.std.proofs.Common.{◌<◌, ◌∷◌, [], ◌++◌, length, vec_capacity}
use Rattle.scripts.proofs.Climbs.{all_at, set_at}
use Rattle.event_core.proofs.holdings.push_name.Goals as goal

pub push_in-requires : goal.push_in-requires
push_in-requires c = all_at (λ names. length names.items < vec_capacity names) c.args.held.now.items c.args.worker c.index_mut.result.now c.requires.room c.requires.low c.index_mut.ensures.value

pub returns-clause-items : goal.returns-clause-items
returns-clause-items c = set_at (λ names. names.items) c.args.held.now.items c.args.worker c.index_mut.result.now c.push_in.new.names (λ t. t ++ c.args.name ∷ []) c.requires.low c.index_mut.ensures.value c.push_in.ensures.items

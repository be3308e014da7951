use Rattle.std.proofs.Common.{rules, tests}
use Rattle.std.proofs.lemmas.Iterator.Search.{all_from_yields_List}
use Rattle.std.proofs.lemmas.Iterator.Splits.{YieldsList-from_slice_split}
use Rattle.mvn_base.specs.Names.{is_dot, is_filled}
use Rattle.mvn_base.proofs.names.has_no_empty_part.Goals as goal

pub returns : goal.returns
returns c =
    all_from_yields_List is_filled _ _ _ c.all.ensures.ran
    (YieldsList-from_slice_split _ is_dot c.args.text.now c.split.ensures.rest c.split.ensures.done c.split.ensures.closure (λ x b q k. search (rules, tests)))
    (λ x b q k. search (rules, tests))

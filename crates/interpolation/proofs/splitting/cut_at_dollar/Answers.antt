use Rattle.std.proofs.Common.{lit<}
use Rattle.std.proofs.lemmas.Str.Pattern.{split_parts}
use Rattle.interpolation.proofs.Cuts.{cut_parts}
use Rattle.interpolation.proofs.splitting.cut_at_dollar.Goals as goal

pub returns : goal.returns
returns c = cut_parts 36 c.args.text.now c.split_once.result (split_parts 36 c.args.text.now c.split_once.result c.split_once.ensures.cases (lit< tt))

use Rattle.std.proofs.Common.{lit<}
use Rattle.std.proofs.lemmas.Str.Pattern.{strip_prefix_char}
use Rattle.interpolation.proofs.Cuts.{inside_parts}
use Rattle.interpolation.proofs.splitting.inside_of.Goals as goal

pub returns : goal.returns
returns c = inside_parts c.args.text.now c.strip_prefix.result (strip_prefix_char 123 c.args.text.now c.strip_prefix.result c.strip_prefix.ensures.cases (lit< tt))

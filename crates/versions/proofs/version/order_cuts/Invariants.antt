use Rattle.std.proofs.Common.{◌≡◌, map, drop}
use Rattle.std.specs.Cmp.Lexicographic.{slice_cmp}
use Rattle.versions.specs.Order.{token_cmp}
use Rattle.versions.specs.Cuts.{cut_token}
use Rattle.versions.proofs.version.order_cuts.Given as goal

abbrev pub invariant-loop-at : goal.invariant-loop-at
invariant-loop-at l = slice_cmp token_cmp (map (cut_token l.text) l.cuts) (map (cut_token l.other_text) l.others) ≡ slice_cmp token_cmp (map (cut_token l.text) (drop l.at l.cuts)) (map (cut_token l.other_text) (drop l.at l.others))

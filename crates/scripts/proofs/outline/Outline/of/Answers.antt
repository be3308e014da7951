use Rattle.std.proofs.Common.{◌<◌, ◌^◌, length, map, arith, ap, ◌∙◌}
use Rattle.std.proofs.lemmas.List.{length-map}
use Rattle.scripts.specs.Outlines.{module_outline}
use Rattle.scripts.proofs.outline.Outline.of.Goals as goal

pub returns-clause-few : goal.returns-clause-few
returns-clause-few c =
    let is = c.in_ok-modules.ensures ∙ ap (map module_outline) c.as_slice.ensures in
    let many = ap length is ∙ length-map c.args.plan.now.modules module_outline in
    let low = c.requires.few in
    let few : length c.in_ok-modules.modules < 2 ^ 32 = omega (arith, many, low) in
    few

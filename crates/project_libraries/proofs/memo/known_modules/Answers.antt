use Rattle.std.proofs.Common.{◌≡◌, ◌+◌, ◌++◌, [], ◌∷◌, take, sym, ap, ◌∙◌, arith}
use Rattle.std.specs.Option.{option_map}
use Rattle.std.proofs.lemmas.List.{take_all, take_more}
use Rattle.mediation.specs.declared.known.Known.TheVariants as known
use Rattle.project_libraries.specs.Known.{module_of}
use Rattle.project_libraries.proofs.memo.known_modules.Goals as goal

pub loop-model-preserved : goal.loop-model-preserved
loop-model-preserved c = λ gav.
    let done = take c.loop-model.model-index c.args.own.now in
    let model = c.model-item.result in
    let more : take (c.loop-model.model-index + 1) c.args.own.now ≡ done ++ model ∷ [] =
    take_more c.args.own.now c.loop-model.model-index model c.loop-model-test.true ∙ ap (λ x. done ++ x ∷ []) (sym c.model-item.is) in
    c.in_ok-keep_module.ensures done c.loop-model.invariant gav ∙ ap (λ l. option_map known.Model (module_of l gav)) (sym more)

pub returns : goal.returns
returns c = λ gav.
    c.loop-model.invariant gav ∙ ap (λ l. option_map known.Model (module_of l gav)) (take_all c.loop-model.model-index c.args.own.now (omega arith))

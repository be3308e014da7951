use Rattle.std.proofs.Common.{ap, ◌∙◌}
use Rattle.serde_json.specs.Written.{has_float, compact_text}
use Rattle.model_json.proofs.NoFloats.{model_plain}
use Rattle.model_json.proofs.model.write_model_json.Goals as goal

pub returns : goal.returns
returns c =
    let text = c.in_ok-to_string.ensures.text (ap has_float c.in_ok-value.ensures ∙ model_plain c.args.model.now) ∙ ap compact_text c.in_ok-value.ensures in
    c.of.ensures ∙ ap (λ v. v.items) c.into_bytes.ensures.value ∙ text

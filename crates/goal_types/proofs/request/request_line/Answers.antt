use Rattle.std.proofs.Common.{◌++◌, ◌∷◌, [], sym, ap, ◌∙◌}
use Rattle.serde_json.specs.Written.{has_float, compact_text}
use Rattle.goal_types.proofs.Requests.{request_no_float}
use Rattle.goal_types.proofs.request.request_line.Goals as goal

pub returns : goal.returns
returns c =
    let text = c.in_ok-to_string.ensures.text (ap has_float c.in_ok-value.ensures ∙ request_no_float c.args.request.now) ∙ ap compact_text c.in_ok-value.ensures in
    c.of.ensures ∙ c.in_ok-push.ensures.items ∙ ap (λ t. t ++ 10 ∷ []) (ap (λ v. v.items) c.into_bytes-bytes.ensures.value ∙ text)

use Rattle.std.proofs.Common.{sym, ap, ap₂, ◌∙◌, map}
use Rattle.serde_json.specs.Data.{array}
use Rattle.serde_json.specs.View.{view, items_of}
use Rattle.serde_json.specs.declared.value.Value.{Array}
use Rattle.serde_json.proofs.Views.{view-Array}
use Rattle.mvn_base.specs.declared.setting.Setting.TheViews.{out-Setting}
use Rattle.goal_types.specs.Requests.{setting_object, setting_data}
use Rattle.goal_types.proofs.Requests.{setting_out}
use Rattle.model_json.proofs.setting.+setting.Goals as goal

pub setting_value-returns : goal.setting_value-returns
setting_value-returns t c =
    let s = out-Setting c.args.setting.now in
    let children = view-Array c.in_ok-setting_values.field-0 ∙ ap (λ ds. array (items_of ds)) (c.in_ok-setting_values.ensures ∙ ap (map setting_data) c.as_slice.ensures) in
    c.in_ok-setting_object.ensures
    ∙ ap₂ (λ name text. setting_object name text (view (Array c.in_ok-setting_values.field-0))) c.as_str-name.ensures.value c.as_str-text.ensures.value
    ∙ ap (setting_object s.name s.text) children
    ∙ sym (setting_out c.args.setting.now)

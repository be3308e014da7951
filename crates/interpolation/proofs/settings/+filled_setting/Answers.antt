use Rattle.std.proofs.Common.{◌≡◌, ◌+◌, drop, rules, sym, ap, ◌∙◌}
use Rattle.std.proofs.lemmas.List.{drop_all}
use Rattle.mvn_base.specs.declared.setting.Setting.TheViews.{out-Setting}
use Rattle.interpolation.specs.Filling.{each, fill_setting}
use Rattle.interpolation.specs.Texts.{text_of}
use Rattle.interpolation.specs.Told.{prefixed}
use Rattle.interpolation.proofs.Lists.{each_more, list_done, list_fails, setting_done, setting_fails}
use Rattle.interpolation.proofs.settings.+filled_setting.Goals as goal

pub fill_settings-loop-setting-preserved : goal.fill_settings-loop-setting-preserved
fill_settings-loop-setting-preserved t c = λ known table.
    let so = c.loop-setting.invariant known table in
    let gives = c.in-Ok.ensures known so.0 in (
      gives.1,
      ap (λ l. prefixed l (each (fill_setting known) (drop (c.loop-setting.setting-index + 1) c.as_slice-setting-items.result.now))) c.in_ok-push-in-Ok.ensures.ok
          ∙ each_more (fill_setting known) c.loop-setting.list c.as_slice-setting-items.result.now c.loop-setting.setting-index c.setting-item.result c.in-Ok.setting _ c.loop-setting-test.true c.setting-item.is gives.0 so.1,
    )

pub fill_settings-returns-in-Err : goal.fill_settings-returns-in-Err
fill_settings-returns-in-Err t c = λ known table.
    let so = c.loop-setting.invariant known table in
    list_fails known (fill_setting known) c.loop-setting.list c.as_slice-setting-items.result.now c.loop-setting.setting-index c.setting-item.result c.filled_setting.new.filler c.in-Err.fault _ c.loop-setting-test.true c.setting-item.is (c.in-Err.ensures known so.0) (so.1 ∙ ap (each (fill_setting known)) c.as_slice-setting-items.ensures)

pub fill_settings-returns : goal.fill_settings-returns
fill_settings-returns t c = λ known table.
    let so = c.loop-setting.invariant known table in
    (list_done (fill_setting known) c.loop-setting.list c.as_slice-setting-items.result.now c.loop-setting.setting-index _ (drop_all c.loop-setting.setting-index c.as_slice-setting-items.result.now c.loop-setting-test.false) (so.1 ∙ ap (each (fill_setting known)) c.as_slice-setting-items.ensures), so.0)

pub filled_setting-returns : goal.filled_setting-returns
filled_setting-returns t c = λ known table.
    let s = c.args.setting.now in
    let named : c.in_ok-name.name ≡ (out-Setting s).name = search rules in
    let text = c.in_ok-text.ensures known table in
    let children = c.in-Ok.ensures known text.1 in (
      setting_done known s c.in_ok-name.name c.in_ok-text.text c.in-Ok.children named
          (ap (λ n. text_of known n (out-Setting s).text) (sym c.as_str.ensures.value) ∙ text.0)
          children.0,
      children.1,
    )

pub filled_setting-returns-in-Err : goal.filled_setting-returns-in-Err
filled_setting-returns-in-Err t c = λ known table.
    let s = c.args.setting.now in
    let named : c.in_ok-name.name ≡ (out-Setting s).name = search rules in
    let text = c.in_ok-text.ensures known table in
    setting_fails known s c.in_ok-name.name c.in_ok-text.text c.fill_settings.new.filler c.in-Err.fault named
    (ap (λ n. text_of known n (out-Setting s).text) (sym c.as_str.ensures.value) ∙ text.0)
    (c.in-Err.ensures known text.1)

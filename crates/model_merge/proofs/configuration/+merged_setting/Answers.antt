use Rattle.std.proofs.Common.{◌≡◌, [], ◌∷◌, ◌++◌, IfOk, map, option_and_then, option_copied, slice_get, ap, subst, rules, ◌∙◌}
use Rattle.std.proofs.lemmas.List.{drop_all}
use Rattle.mvn_base.specs.declared.setting.Setting.TheViews.{out-Setting}
use Rattle.model_merge.specs.Configuration.{merged_configuration, merged_or, name_of, partners, unnamed}
use Rattle.model_merge.proofs.Pairing.{length_map, length_partners, level_done, setting_merged, zip_more}
use Rattle.model_merge.proofs.configuration.+merged_setting.Goals as goal

pub merged_setting-returns : goal.merged_setting-returns
merged_setting-returns t c =
    let named : c.in_ok-name.name ≡ (out-Setting c.args.child.now).name = search rules in
    setting_merged c.args.child.now c.args.parent.now c.in_ok-name.name c.in_ok-text.text c.in_ok-children.children named c.in_ok-text.ensures
    (c.in_ok-children.ensures ∙ ap (λ l. merged_configuration l c.as_slice-2.result.now) c.as_slice.ensures ∙ ap (merged_configuration (out-Setting c.args.child.now).children) c.as_slice-2.ensures)

pub merged_configuration-loop-at-preserved : goal.merged_configuration-loop-at-preserved
merged_configuration-loop-at-preserved t c =
    let child = c.args.child.now in
    let parent = c.args.parent.now in
    zip_more (λ e. merged_or e.0 e.1) child (partners [] (map name_of child) parent) c.loop-at.at c.index-child-at.result (option_copied c.partner_at-partner.result) c.loop-at.list _ _
    (length_partners [] (map name_of child) parent ∙ length_map name_of child) c.loop-at-test.true c.index-child-at.is
    (c.partner_at-partner.ensures ∙ ap (λ l. option_and_then (λ x. x) (slice_get (map (option_and_then (slice_get parent)) l) c.loop-at.at)) c.as_slice.ensures.value ∙ ap (λ l. option_and_then (λ x. x) (slice_get l c.loop-at.at)) c.in_ok-places.ensures)
    (c.in_ok-push.ensures.ok ∙ ap (λ x. c.loop-at.list ++ x ∷ []) c.in_ok-merged_or.ensures)
    c.loop-at.invariant

pub merged_configuration-returns : goal.merged_configuration-returns
merged_configuration-returns t c =
    let child = c.args.child.now in
    let parent = c.args.parent.now in
    subst (λ x. IfOk c.with_unnamed.result (λ merged. merged ≡ x))
    (level_done child parent c.loop-at.at c.loop-at.list (drop_all c.loop-at.at child c.loop-at-test.false) c.loop-at.invariant)
    (subst (λ l. IfOk c.with_unnamed.result (λ merged. merged ≡ l ++ unnamed (map name_of child) parent)) c.list-2.view_is (c.with_unnamed.ensures (map name_of child) c.in_ok-names_of.ensures))

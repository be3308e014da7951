use Rattle.std.proofs.Common.{◌≡◌, ℕ, ◌*◌, ◌<◌, ◌^◌, true, length, map, replicate, arith, sym, ap, subst, ◌∙◌}
use Rattle.std.proofs.lemmas.List.{length-map}
use Rattle.scripts.specs.declared.outline.ModuleOutline.{ModuleOutline}
use Rattle.event_core.specs.declared.module_steps.Progress.TheVariants.{Waiting}
use Rattle.event_core.specs.Fronts.{AreEdges, IsFront, is_marked, mark_of}
use Rattle.event_core.proofs.Changes.{front_first, subst_all}
use Rattle.event_core.proofs.modules.Modules.new.Goals as goal

pub invariant_of-result : goal.invariant_of-result
invariant_of-result c =
    let ups = c.in_ok-upstream.upstream.items in
    let edges = c.in_ok-edges.edges.items in
    let ready = c.in_ok-ready.ready.words.items in
    let skippable = c.in_ok-skippable.skippable.words.items in
    let is_ups = c.in_ok-upstream.ensures ∙ ap (map (λ (x : ModuleOutline). x.upstream)) c.as_slice.ensures in
    let many = ap length is_ups ∙ length-map c.args.outline.now.modules (λ (x : ModuleOutline). x.upstream) in
    let few : length ups < 2 ^ 32 = omega (arith, many, c.requires) in
    let is_progress = c.in_ok-progress.ensures.items_if_clones_equal (λ y e. e) ∙ ap (λ n. replicate n Waiting) (c.len.ensures ∙ c.in_ok-upstream.upstream.ok.0) in
    let is_unbuilt = c.in_ok-unbuilt.ensures.items_if_clones_equal (λ y e. e) ∙ ap (λ n. replicate n 0) (c.len-2.ensures ∙ c.in_ok-upstream.upstream.ok.0) in
    let is_lost = c.in_ok-lost.ensures ∙ ap (map length) c.as_slice-3.ensures.value in
    let rows = c.in_ok-edges.ensures.length ∙ ap length c.as_slice-2.ensures.value in
    let are = subst (λ u. AreEdges u edges) c.as_slice-2.ensures.value c.in_ok-edges.ensures.edges in
    let room = subst (λ u. length u < 64 * length ready) c.as_slice-5.ensures.value c.in_ok-ready.ensures.room in
    let marked = subst_all (λ p u places. (k : ℕ) → k < length u → is_marked ready k ≡ mark_of p u places true k)
    c.as_slice-4.result.now (replicate (length ups) Waiting) c.as_slice-5.result.now ups c.as_slice-6.result.now (replicate (length ups) 0) (c.as_slice-4.ensures.value ∙ is_progress) c.as_slice-5.ensures.value (c.as_slice-6.ensures.value ∙ is_unbuilt) c.in_ok-ready.ensures.same in
    let whole = front_first ups edges ready skippable few rows are room c.in_ok-ready.ensures.small (omega (arith, c.in_ok-skippable.ensures.room, c.len-3.ensures, c.in_ok-upstream.upstream.ok.0, few)) c.in_ok-skippable.ensures.small marked c.in_ok-skippable.ensures.none in
    subst (λ n. IsFront ups c.in_ok-progress.progress.items edges c.in_ok-unbuilt.unbuilt.items c.in_ok-lost.lost.items ready skippable n) (sym (c.len-open.ensures ∙ c.in_ok-upstream.upstream.ok.0))
    (subst_all (λ p u l. IsFront ups p edges u l ready skippable (length ups)) (replicate (length ups) Waiting) c.in_ok-progress.progress.items (replicate (length ups) 0) c.in_ok-unbuilt.unbuilt.items (map length ups) c.in_ok-lost.lost.items (sym is_progress) (sym is_unbuilt) (sym is_lost) whole)

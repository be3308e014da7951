use Rattle.std.proofs.Common.{◌≡◌, ◌⊎◌, ℕ, ◌<◌, ◌≤◌, true, false, not, [], length, get_or, set, arith, sym, subst, ◌∙◌}
use Rattle.std.proofs.lemmas.List.{get_or_read}
use Rattle.event_core.specs.Fronts.{IsBefore, IsFirst, has_edge, is_marked, is_touched, is_unbuilt, mark_of}
use Rattle.event_core.specs.HowFar.{is_done, is_lost, is_over, progress_of}
use Rattle.event_core.proofs.Changes.{before_now, lost_now, marks_now, open_now, place_now, rows_now, subst_all}
use Rattle.event_core.proofs.modules.Modules.set.Goals as goal

pub invariant_of-self : goal.invariant_of-self
invariant_of-self c =
    let it = c.self.inside in
    let front = c.self.invariant in
    let m = c.args.number in
    let v = c.args.value in
    let ups = it.upstream.items in
    let next = set it.progress.items m v in
    let edges = get_or it.edges.items m [] in
    let low_progress = subst (λ w. m < length w.1) (sym c.self.view_is) c.requires.low in
    let low : m < length ups = omega (arith, low_progress, front.rows) in
    let low_edges : m < length it.edges.items = omega (arith, low, front.edge_rows) in
    let isnt = subst (λ w. is_over (progress_of w.1 m) ≡ false) (sym c.self.view_is) c.requires.open in
    let is_progress = c.as_slice-progress.ensures.value in
    let is_upstream = c.as_slice-upstream.ensures.value in
    let is_edges = c.as_slice-edges.ensures ∙ get_or_read it.edges.items m c.index.result.now low_edges c.index.ensures [] in
    let unbuilt = c.advance_all.new.unbuilt.items in
    let lost = c.lower_lost.new.places.items in
    let first = subst_all (λ p u e. (k : ℕ) → k < length u → IsBefore (is_unbuilt p) (get_or u k []) (get_or it.unbuilt.items k 0) → (is_touched k e ≡ true) ⊎ IsFirst (is_unbuilt p) (get_or u k []) (get_or it.unbuilt.items k 0) → IsFirst (is_unbuilt p) (get_or u k []) (get_or unbuilt k 0))
    c.as_slice-progress.result.now next c.as_slice-upstream.result.now ups c.as_slice-edges.result.now edges is_progress is_upstream is_edges c.advance_all.ensures.first in
    let unbuilt_now = λ (k : ℕ) (inside : k < length ups). first k inside
    (before_now ups it.progress.items it.edges.items it.unbuilt.items it.lost.items it.ready.words.items it.skippable.words.items it.open m v front low isnt k inside)
    (place_now ups it.progress.items it.edges.items it.unbuilt.items it.lost.items it.ready.words.items it.skippable.words.items it.open m v front low isnt k inside) in
    let here = subst (λ e. is_lost v ≡ true → (k place : ℕ) → has_edge k place e ≡ true → get_or lost k 0 ≤ place) is_edges c.lower_lost.ensures.here in
    let either = subst (λ e. (k : ℕ) → (get_or lost k 0 ≡ get_or it.lost.items k 0) ⊎ ((is_lost v ≡ true) × (has_edge k (get_or lost k 0) e ≡ true))) is_edges c.lower_lost.ensures.either in
    let lost_first = lost_now ups it.progress.items it.edges.items it.unbuilt.items it.lost.items it.ready.words.items it.skippable.words.items it.open m v front low isnt lost c.lower_lost.ensures.less here either in
    let ready_touched = subst_all (λ p u e. (k : ℕ) → k < length u → (is_touched k e ≡ true) ⊎ (is_marked it.ready.words.items k ≡ mark_of p u unbuilt true k) → is_marked c.mark_all.new.marks.words.items k ≡ mark_of p u unbuilt true k)
    c.as_slice-progress.result.now next c.as_slice-upstream.result.now ups c.as_slice-edges.result.now edges is_progress is_upstream is_edges
    (subst (λ places. (k : ℕ) → k < length c.as_slice-upstream.result.now → (is_touched k c.as_slice-edges.result.now ≡ true) ⊎ (is_marked it.ready.words.items k ≡ mark_of c.as_slice-progress.result.now c.as_slice-upstream.result.now places true k) → is_marked c.mark_all.new.marks.words.items k ≡ mark_of c.as_slice-progress.result.now c.as_slice-upstream.result.now places true k) c.as_slice-unbuilt.ensures.value c.mark_all.ensures.same) in
    let ready_own = subst_all (λ p u places. m < length u → is_marked c.mark.new.marks.words.items m ≡ mark_of p u places true m)
    c.as_slice-progress.result.now next c.as_slice-upstream.result.now ups c.as_slice-unbuilt.result.now unbuilt is_progress is_upstream c.as_slice-unbuilt.ensures.value c.mark.ensures.same low in
    let skip_touched = subst_all (λ p u e. (k : ℕ) → k < length u → (is_touched k e ≡ true) ⊎ (is_marked it.skippable.words.items k ≡ mark_of p u lost false k) → is_marked c.mark_all-2.new.marks.words.items k ≡ mark_of p u lost false k)
    c.as_slice-progress.result.now next c.as_slice-upstream.result.now ups c.as_slice-edges.result.now edges is_progress is_upstream is_edges
    (subst (λ places. (k : ℕ) → k < length c.as_slice-upstream.result.now → (is_touched k c.as_slice-edges.result.now ≡ true) ⊎ (is_marked it.skippable.words.items k ≡ mark_of c.as_slice-progress.result.now c.as_slice-upstream.result.now places false k) → is_marked c.mark_all-2.new.marks.words.items k ≡ mark_of c.as_slice-progress.result.now c.as_slice-upstream.result.now places false k) c.as_slice-lost.ensures.value c.mark_all-2.ensures.same) in
    let skip_own = subst_all (λ p u places. m < length u → is_marked c.mark-2.new.marks.words.items m ≡ mark_of p u places false m)
    c.as_slice-progress.result.now next c.as_slice-upstream.result.now ups c.as_slice-lost.result.now lost is_progress is_upstream c.as_slice-lost.ensures.value c.mark-2.ensures.same low in
    record {
      few = front.few;
      rows = rows_now ups it.progress.items it.edges.items it.unbuilt.items it.lost.items it.ready.words.items it.skippable.words.items it.open m v front low isnt;
      edge_rows = front.edge_rows;
      unbuilt_rows = c.advance_all.ensures.length ∙ front.unbuilt_rows;
      lost_rows = c.lower_lost.ensures.length ∙ front.lost_rows;
      ready_room = omega (arith, front.ready_room, c.mark_all.ensures.length, c.mark.ensures.length);
      ready_small = omega (arith, front.ready_small, c.mark_all.ensures.length, c.mark.ensures.length);
      skippable_room = omega (arith, front.skippable_room, c.mark_all-2.ensures.length, c.mark-2.ensures.length);
      skippable_small = omega (arith, front.skippable_small, c.mark_all-2.ensures.length, c.mark-2.ensures.length);
      are_edges = front.are_edges;
      unbuilt_first = unbuilt_now;
      lost_first = lost_first;
      ready_marks = marks_now ups it.progress.items it.edges.items it.unbuilt.items it.lost.items it.ready.words.items it.skippable.words.items it.open m v front low isnt (λ x. not (is_done x)) true it.unbuilt.items unbuilt it.ready.words.items c.mark_all.new.marks.words.items c.mark.new.marks.words.items front.unbuilt_first unbuilt_now front.ready_marks ready_touched ready_own c.mark.ensures.others;
      skippable_marks = marks_now ups it.progress.items it.edges.items it.unbuilt.items it.lost.items it.ready.words.items it.skippable.words.items it.open m v front low isnt is_lost false it.lost.items lost it.skippable.words.items c.mark_all-2.new.marks.words.items c.mark-2.new.marks.words.items front.lost_first lost_first front.skippable_marks skip_touched skip_own c.mark-2.ensures.others;
      all_open = c.close.ensures ∙ open_now ups it.progress.items it.edges.items it.unbuilt.items it.lost.items it.ready.words.items it.skippable.words.items it.open m v front low isnt;
    }

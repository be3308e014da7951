use Rattle.std.proofs.Common.{◌≡◌, ◌||◌, List, ℕ, [], ◌∷◌, map, ap, ◌∙◌}
use Rattle.std.proofs.lemmas.Result.{on_ok_weaker}
use Rattle.std.specs.Ordering.{nat_cmp}
use Rattle.std.specs.Cmp.Lexicographic.{slice_cmp}
use Rattle.std.specs.List.{list_any}
use Rattle.std.specs.BTreeMap.{is_at}
use Rattle.std.specs.BTreeSet.{contains}
use Rattle.outside_real.specs.FullPath.{full_path}
use Rattle.outside_real.specs.Ways.{folders_above, way, Gains}
use Rattle.outside_real.proofs.Ways.{way_gained}
use Rattle.outside_real.proofs.settling.note_way.Goals as goal

pub returns-clause-gains : goal.returns-clause-gains
returns-clause-gains c =
    let root = c.args.root.now in
    let name = c.args.name.now in
    let old = c.args.changed.now in
    let most = c.loop-above.changed in
    let all = c.note-2.new.changed in
    let folder = c.in_ok-from_str.field-0 in
    let none : folders_above c.loop-above.rest.now ≡ [] = c.in_default.ensures in
    let same : folder ≡ root = c.in_ok-from_str.ensures in
    let gained : Gains (folder ∷ []) most all → Gains (way root name) old all = λ g path.
    way_gained (λ p. is_at (slice_cmp nat_cmp p) path) root name (contains (slice_cmp nat_cmp) old path) (contains (slice_cmp nat_cmp) most path) (contains (slice_cmp nat_cmp) all path)
    (c.loop-above.invariant.gained path ∙ ap (λ fs. list_any (λ p. is_at (slice_cmp nat_cmp p) path) (map (full_path root) fs) || contains (slice_cmp nat_cmp) most path) none)
    (g path ∙ ap (λ f. list_any (λ p. is_at (slice_cmp nat_cmp p) path) (f ∷ []) || contains (slice_cmp nat_cmp) most path) same) in
    on_ok_weaker c.note-2.result gained c.note-2.ensures.gains

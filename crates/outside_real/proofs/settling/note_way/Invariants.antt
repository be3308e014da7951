use Rattle.std.proofs.Common.{◌≡◌, ℕ, ◌||◌, List, length, map}
use Rattle.std.specs.Ordering.{nat_cmp}
use Rattle.std.specs.Cmp.Lexicographic.{slice_cmp}
use Rattle.std.specs.List.{list_any}
use Rattle.std.specs.BTreeMap.{is_at}
use Rattle.std.specs.BTreeSet.{contains}
use Rattle.outside_real.specs.FullPath.{full_path}
use Rattle.outside_real.specs.Ways.{folders_above, Keeps}
use Rattle.outside_real.proofs.settling.note_way.Given as goal
use denote.Shadow.{shadow}
use denote.Text.{Utf8}

-- the folders that are left and what is noted are all the folders and what was noted
abbrev pub invariant-loop-above : goal.invariant-loop-above
invariant-loop-above l = record {
  utf8 : shadow (Utf8 l.rest);
  keeps : Keeps l.initial.changed l.changed;
  gained : (path : List ℕ)
      → (list_any (λ p. is_at (slice_cmp nat_cmp p) path) (map (full_path l.root) (folders_above l.name)) || contains (slice_cmp nat_cmp) l.initial.changed path)
      ≡ (list_any (λ p. is_at (slice_cmp nat_cmp p) path) (map (full_path l.root) (folders_above l.rest)) || contains (slice_cmp nat_cmp) l.changed path);
}

abbrev pub decreases-loop-above : goal.decreases-loop-above
decreases-loop-above l = length l.rest

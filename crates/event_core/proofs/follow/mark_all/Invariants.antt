use Rattle.std.proofs.Common.{◌≡◌, ◌⊎◌, ℕ, ◌<◌, true, length, take}
use Rattle.event_core.specs.Fronts.{is_marked, is_touched, mark_of}
use Rattle.event_core.proofs.follow.mark_all.Given as goal

-- what is ensured, for the edges before this one
abbrev pub invariant-loop-at : goal.invariant-loop-at
invariant-loop-at l =
    (length l.marks.words.items ≡ length l.initial.marks.words.items)
    × ((k : ℕ) → k < length l.upstream → (is_touched k (take l.at l.edges) ≡ true) ⊎ (is_marked l.initial.marks.words.items k ≡ mark_of l.progress l.upstream l.places l.beyond k) → is_marked l.marks.words.items k ≡ mark_of l.progress l.upstream l.places l.beyond k)

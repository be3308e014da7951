use Rattle.std.proofs.Common.{◌≡◌, ℕ, ◌*◌, ◌<◌, ◌^◌, true, length}
use Rattle.event_core.specs.Fronts.{is_marked, mark_of}
use Rattle.event_core.proofs.modules.first_ready.Given as goal

-- the modules before this one are marked as they should be
abbrev pub invariant-loop-at : goal.invariant-loop-at
invariant-loop-at l =
    (length l.upstream < 64 * length l.marks.words.items)
    × (length l.marks.words.items < 2 ^ 32)
    × ((k : ℕ) → k < l.at → is_marked l.marks.words.items k ≡ mark_of l.progress l.upstream l.unbuilt true k)

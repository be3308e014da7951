use Rattle.std.proofs.Common.{◌≡◌, ℕ, ◌<◌, get_or}
use Rattle.event_core.proofs.marks.Bits.first.Given as goal

-- the words before this one are 0
abbrev pub invariant-loop-word : goal.invariant-loop-word
invariant-loop-word l = (i : ℕ) → i < l.word → get_or l.self.words.items i 0 ≡ 0

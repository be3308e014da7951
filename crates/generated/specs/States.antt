-- What a hand in memory tells, and how often its devices failed: never. Project rule.
use Rattle.std.specs.Prelude.{true, List, map, Some}
use Rattle.gates.specs.declared.builtin.Builtin.{Builtin}
use Rattle.gates.specs.Builtin.{builtin, same_answer}
use Rattle.mvn_outside.specs.declared.hand.Hand.{Hand}
use Rattle.crew_turns.specs.Hands.{HandState, told_by}
use Rattle.build_outcome.specs.Left.{Outside}
use Rattle.outside_mem.specs.Area.{area_sealed}
use Rattle.outside_mem.specs.Remote.{remote_files}
use Rattle.outside_mem.specs.Shelf.{shelf_told}
use Rattle.outside_mem.specs.declared.area.MemArea.{MemArea}
use Rattle.outside_mem.specs.declared.calls.NoFailures.{NoFailures}
use Rattle.outside_mem.specs.declared.remote.MemRemote.{MemRemote}
use Rattle.outside_mem.specs.declared.shelf.MemShelf.{MemShelf}

abbrev pub state : Hand (MemRemote NoFailures) (MemArea NoFailures) Builtin → HandState
state hand = record {
  told = told_by (Some (remote_files hand.remote)) true (Some (λ request answer. same_answer (builtin request) answer));
  remote = 0;
  area = 0;
  gate = 0;
  pieces = area_sealed hand.area;
}

-- a repository in memory, and such hands
abbrev pub outside : MemShelf NoFailures → List (Hand (MemRemote NoFailures) (MemArea NoFailures) Builtin) → Outside
outside shelf hands = record { shelf = Some (shelf_told shelf); faults = 0; hands = map state hands }

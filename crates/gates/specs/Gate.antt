-- What a gate of children holds.
use Rattle.gates.specs.declared.process_gate.ProcessGate.{ProcessGate}

abbrev pub spawner_of : {P : Type 0} → ProcessGate P → P
spawner_of gate = gate.spawner

-- What is found of a project: its winners with what is declared, or the first refusal.
use Rattle.std.specs.Prelude.{List, Result, Ok, Err}
use Rattle.mediation.specs.declared.fault.MediationFault.{MediationFault}
use Rattle.mediation.specs.declared.levels.DependencyGraph.{DependencyGraph}
use Rattle.mediation.specs.declared.winner.Winner.{Winner}
use Rattle.mediation.specs.Libraries.{Libraries}
use Rattle.mediation.specs.Rows.{Resolves}
use Rattle.collector.specs.Winners.{Graph}

-- the winners alone
abbrev pub winners_in : Result DependencyGraph MediationFault → Result (List Winner) MediationFault
winners_in (Ok graph) = Ok graph.winners
winners_in (Err fault) = Err fault

abbrev pub ResolvesGraph : Libraries → Graph → Result DependencyGraph MediationFault → Type 0
ResolvesGraph libraries graph result = Resolves libraries graph (winners_in result)

-- the winners that are left, unless the search for them was refused
abbrev pub left_in : List Winner → Result (Unit {0}) MediationFault → Result (List Winner) MediationFault
left_in rows (Ok x) = Ok rows
left_in rows (Err fault) = Err fault

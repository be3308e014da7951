use Rattle.crew_modules.proofs.Files.{ArePut}
use Rattle.crew_modules.proofs.installing.put_files.Given as goal

-- the files so far are put
abbrev pub invariant-loop-at : goal.invariant-loop-at
invariant-loop-at g l = ArePut g.S.Area.Area.contents g.S.Area.Area.faults g.S.Area.Area.pieces l.task l.lock l.own l.at l.fn.pass l.pass l.fn.area l.area

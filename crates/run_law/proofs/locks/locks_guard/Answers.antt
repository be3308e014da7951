use Rattle.run_law.proofs.LaterMoments.{absent_but, fetched_alone, held_alone}
use Rattle.run_law.proofs.locks.locks_guard.Goals as goal

pub returns : goal.returns
returns c = record {
  alone = λ plan past n w v sound run low small is holds. held_alone plan sound past run n w v low small is holds;
  fetched = λ plan past w file n number m sound run is whose at fetch l. fetched_alone plan sound past run w file n number m is whose at fetch l;
  absent = λ plan past v n file e sound run fetch cover low holds absent is there. absent_but plan sound past run v n file e fetch cover low holds absent is there;
}

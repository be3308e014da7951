use Rattle.run_law.proofs.LaterMoments.{front, keeps, keeps_outputs, moment_between, run_ends}
use Rattle.run_law.proofs.PublishedOnce as published
use Rattle.run_law.proofs.moments.nothing_goes_back.Goals as goal

pub returns : goal.returns
returns c = record {
  files = moment_between;
  once = λ plan past w file sound run is. published.once plan sound past w file run is;
  over = λ plan past rest number run over. let parts = front plan past rest run in (keeps plan number past rest parts.0 parts.1 over).0;
  outputs = λ plan past rest number run over. let parts = front plan past rest run in keeps_outputs plan number past rest parts.0 parts.1 over;
  ends = run_ends;
}

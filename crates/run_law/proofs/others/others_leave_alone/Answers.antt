use Rattle.run_law.proofs.LaterMoments.{put_stays}
use Rattle.run_law.proofs.Staying.{bytes_stay, course_stays, entries_stay, file_stays, gathered, goals_stay, held_stays, request_stays, upstream_stays}
use Rattle.run_law.proofs.others.others_leave_alone.Goals as goal

pub returns : goal.returns
returns c = record {
  course = course_stays;
  held = held_stays;
  goals = goals_stay;
  there = file_stays;
  published = put_stays;
  files = λ plan start past rest f sound run fetch there. bytes_stay plan sound start f fetch past rest run there;
  upstreams = upstream_stays;
  gathered = λ plan past w number m script last sound run on at late. gathered plan past w number m script last run on at late;
  entries = λ plan start past rest w number m sound run whose at all. entries_stay plan start past rest w number m sound run whose at all;
  request = λ plan start past rest w number m call own sound run whose at all. request_stays plan start past rest w number m sound run whose at all call own;
}

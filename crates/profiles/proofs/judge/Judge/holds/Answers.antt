use Rattle.std.proofs.Common.{is_some}
use Rattle.profiles.proofs.Asking.{left_false, right_false}
use Rattle.profiles.proofs.Joins.{judged}
use Rattle.profiles.proofs.judge.Judge.holds.Goals as goal

pub returns-clause-alone : goal.returns-clause-alone
returns-clause-alone g c =
    let j = c.args.self.now in
    let a = c.args.activation.now in
    let exists = left_false (is_some j.place) (is_some a.exists) (is_some a.missing) in
    let missing = right_false (is_some j.place) (is_some a.exists) (is_some a.missing) in
    record {
      is = λ none world.
          judged j a world c.in_ok-exists.exists c.in_ok-missing.missing c.in_ok-list.list.items c.as_slice.result.now c.all_hold.result
          (c.in_ok-exists.ensures.alone.is (exists none) world) (c.in_ok-missing.ensures.alone.is (missing none) world) c.in_ok-list.ensures c.as_slice.ensures.value c.all_hold.ensures;
    }

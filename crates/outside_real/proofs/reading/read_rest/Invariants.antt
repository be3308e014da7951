use Rattle.std.proofs.Common.{◌≤◌, vec_len}
use Rattle.outside_real.proofs.reading.read_rest.Given as goal

abbrev pub invariant-loop : goal.invariant-loop
invariant-loop g l = vec_len l.bytes ≤ l.limit

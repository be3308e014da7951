-- What a remote on a disk tells.
use Rattle.std.specs.Prelude.{ℕ}
use Rattle.outside_real.specs.declared.remote.RealRemote.{RealRemote}

abbrev pub remote_faults : {R F D : Type 0} → RealRemote R F D → ℕ
remote_faults remote = remote.faults

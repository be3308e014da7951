-- A look behind a publish, in the same turn. Project rule.
use Rattle.std.specs.Prelude.{◌≡◌, ℕ, Bool, List, Option, Result, Ok, Err}
use Rattle.mvn_outside.specs.declared.fault.DeviceFault.{DeviceFault}
use Rattle.run_law.specs.Absent.{IsFirstAbsent}

-- where the file was published, the first of these files that isn't there, from a place on; and else the same fault
abbrev pub LooksBehind : (there : List Bool) → List ℕ → (from : ℕ) → Result (Unit {0}) DeviceFault → Result (Option ℕ) DeviceFault → Type 0
LooksBehind there files from (Ok done) looked = (found : Option ℕ) × (looked ≡ Ok found) × IsFirstAbsent there files from found
LooksBehind there files from (Err fault) looked = looked ≡ Err fault

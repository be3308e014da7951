-- Failures that were counted.
use Rattle.std.proofs.Common.{◌≡◌, ℕ, Bool, true, false, None, is_some, sym, ap, ◌∙◌, arith}
use Rattle.std.specs.Prelude.{nat_lt}
use Rattle.mvn_shared.specs.Cause.{HasCause, HasRisen}
use Rattle.model_resolver.specs.Devices.{IsCounted}
use Rattle.model_resolver.specs.declared.failures.Failures.{Failures}

risen : (n : ℕ) → HasRisen 0 n → nat_lt 0 n ≡ true
risen n rises = grind arith

-- from none on, a device failed exactly where the calls failed
pub failed_is : (now : Failures) (count : ℕ) (failed : Bool) → count ≡ 0 → IsCounted now → HasCause count now.count failed → is_some now.first ≡ failed
failed_is now count true zero counted cause = counted ∙ risen now.count (from_zero count now.count zero cause)
  where
    from_zero : (a b : ℕ) → a ≡ 0 → HasRisen a b → HasRisen 0 b
    from_zero a b e r = record { no_fall = omega (arith, e, r.no_fall); rise = omega (arith, e, r.rise) }
failed_is now count false zero counted cause = counted ∙ ap (nat_lt 0) (cause ∙ zero)

-- none so far
pub none_counted : (now : Failures) → now.count ≡ 0 → now.first ≡ None → IsCounted now
none_counted now zero none = ap is_some none ∙ ap (nat_lt 0) (sym zero)

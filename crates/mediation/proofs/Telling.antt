-- What tells the same, call by call.
use Rattle.std.proofs.Common.{◌≡◌, subst}
use Rattle.mediation.specs.Telling.{TellsOn}
use Rattle.mediation.specs.Telling.TellsOn.{here, onward}

module _ {L : Type 0} {same : L → L → Type 0} where
  -- no call
  pub untold : (a b : L) → b ≡ a → TellsOn same a b
  untold a b is = subst (λ l. TellsOn same l b) is (here b)

  -- one call
  pub told_once : (a b : L) → same a b → TellsOn same a b
  told_once a b is = onward a b b is (here b)

  -- some calls after others
  pub told_both : {a b c : L} → TellsOn same a b → TellsOn same b c → TellsOn same a c
  told_both (here a) second = second
  told_both (onward a b c is first) second = onward a b _ is (told_both first second)

-- What tells the same, call by call; and what fits a source fits it after calls that tell the same.
use Rattle.std.proofs.Common.{◌≡◌, subst}
use Rattle.profiles.specs.Judging.{TellsOn}
use Rattle.profiles.specs.Judging.TellsOn.{here, onward}
use Rattle.pom_source.specs.Worlds.{World}

pub fits_after : {F : Type 0} {same : F → F → Type 0} {fits : F → World → Type 0} (on : (a b : F) (world : World) → same a b → fits a world → fits b world)
    {old now : F} → TellsOn same old now → (world : World) → fits old world → fits now world
fits_after on (here a) world fits = fits
fits_after on (onward a b c is further) world fits = fits_after on further world (on a b world is fits)

module _ {F : Type 0} {same : F → F → Type 0} where
  -- no call
  pub untold : (a b : F) → b ≡ a → TellsOn same a b
  untold a b is = subst (λ f. TellsOn same f b) is (here b)

  -- one call
  pub told_once : (a b : F) → same a b → TellsOn same a b
  told_once a b is = onward a b b is (here b)

  -- some calls after others
  pub told_both : {a b c : F} → TellsOn same a b → TellsOn same b c → TellsOn same a c
  told_both (here a) second = second
  told_both (onward a b c is first) second = onward a b _ is (told_both first second)

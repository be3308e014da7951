-- The first of two causes.
use Rattle.std.proofs.Common.{◌≡◌, ℕ, Option, Some, None, is_some, refl, sym, ap}
use Rattle.std.proofs.lemmas.Bool.{false≢true}
use Rattle.event_core.specs.declared.refused.NotEnabled.{NotEnabled}
use Rattle.event_core.specs.Causes.{where_found}

nothing : {A : Type 0} (x : A) → Some x ≡ None → ⊥
nothing x e = false≢true (sym (ap is_some e))

pub found_first : (found : Option ℕ) (cause : ℕ → NotEnabled) (rest : Option NotEnabled) (first : NotEnabled) → Some first ≡ where_found found cause None → Some first ≡ where_found found cause rest
found_first (Some n) cause rest first e = e
found_first None cause rest first e = absurd (nothing first e)

pub found_none : (found : Option ℕ) (cause : ℕ → NotEnabled) (rest : Option NotEnabled) → None ≡ where_found found cause None → rest ≡ where_found found cause rest
found_none (Some n) cause rest e = absurd (nothing (cause n) (sym e))
found_none None cause rest e = refl

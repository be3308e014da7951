-- Examples of the folders on the way to a name, which the checker computes.
use Rattle.std.specs.Prelude.{◌≡◌, List, [], ◌∷◌, codes}
use Rattle.std.proofs.Common.{refl}
use Rattle.outside_real.specs.Ways.{way}

deep : way (codes "r") (codes "a/b/c") ≡ codes "r" ∷ codes "r/a" ∷ codes "r/a/b" ∷ []
deep = refl

flat : way (codes "r") (codes "a") ≡ codes "r" ∷ []
flat = refl

-- Small lemmas on truth values, options and scripts.
use Rattle.std.proofs.Common.{◌≡◌, Bool, true, false, not, ◌&&◌, ◌||◌, Some, None, unwrap_or, refl, sym, ap, if◌then◌else◌}
use Rattle.std.proofs.lemmas.Bool.{false≢true}
use Rattle.scripts.specs.Scripts.{Script, whole}
use Rattle.event_core.proofs.Weights.{nothing_is}

-- the parts of what holds together
pub both3 : (a b c : Bool) → (a && b && c) ≡ true → (a ≡ true) × (b ≡ true) × (c ≡ true)
both3 true true c is = (refl, refl, is)
both3 true false c is = absurd (false≢true is)
both3 false b c is = absurd (false≢true is)

-- two that hold, hold together
pub and_is : (a b : Bool) → a ≡ true → b ≡ true → (a && b) ≡ true
and_is true b x y = y
and_is false b x y = absurd (false≢true x)

-- and so do three
pub and_is3 : (a b c : Bool) → a ≡ true → b ≡ true → c ≡ true → (a && b && c) ≡ true
and_is3 true true c x y z = z
and_is3 true false c x y z = absurd (false≢true y)
and_is3 false b c x y z = absurd (false≢true x)

-- one of two holds where the first does
pub or_left : (a b : Bool) → a ≡ true → (a || b) ≡ true
or_left true b is = refl
or_left false b is = absurd (false≢true is)

-- and where the second does
pub or_right : (a b : Bool) → b ≡ true → (a || b) ≡ true
or_right true b is = refl
or_right false b is = is

-- beside what doesn't hold, a test stays
pub or_false : (b : Bool) → (b || false) ≡ b
or_false true = refl
or_false false = refl

-- and beside what holds, one holds
pub or_true : (b : Bool) → (b || true) ≡ true
or_true true = refl
or_true false = refl

-- what isn't false is true
pub not_not : (b : Bool) → not b ≡ false → b ≡ true
not_not true e = refl
not_not false e = absurd (false≢true (sym e))

-- a script that is left by a test is that script, and the test holds
pub chosen : (b : Bool) (s rest : Script) → (if b then Some s else None) ≡ Some rest → (b ≡ true) × (s ≡ rest)
chosen true s rest e = (refl, ap (λ o. unwrap_or o whole) e)
chosen false s rest e = absurd (nothing_is rest e)

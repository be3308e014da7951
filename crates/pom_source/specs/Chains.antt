-- Laws of chains of steps.
use Rattle.std.proofs.Common.{◌≡◌, Result, Ok, Err, refl, sym, ap, subst, ◌∙◌}
use Rattle.pom_source.specs.declared.fault.BuildFault.{BuildFault}
use Rattle.pom_source.specs.declared.fault.BuildFault.TheVariants.{Refused, Absent, Source, Memory}
use Rattle.pom_source.specs.Answers.{Built, Fails, Says, ◌>>=◌}

-- a chain stops where its first step fails
pub stop_fails : {A B : Type 0} (said : Built A) (f : A → Built B) (fault : BuildFault)
    → Fails said fault → Fails (said >>= f) fault
stop_fails said f (Refused r) fails = ap (λ r. r >>= f) fails
stop_fails said f Absent fails = ap (λ r. r >>= f) fails
stop_fails said f Source fails = record {}
stop_fails said f Memory fails = record {}

-- and goes on where it gives something
pub goes_on : {A B : Type 0} (said : Built A) (f : A → Built B) (x : A) (r : Result B BuildFault)
    → said ≡ Ok x → Says (f x) r → Says (said >>= f) r
goes_on said f x r is so = subst (λ s. Says (s >>= f) r) (sym is) so

-- what a chain gives comes from its first step
pub bound : {A B : Type 0} (said : Built A) (f : A → Built B) (y : B)
    → (said >>= f) ≡ Ok y → (x : A) × (said ≡ Ok x) × (f x ≡ Ok y)
bound (Ok x) f y e = (x, refl, e)
bound (Err fault) f y e = cc

pub ok_is : {A : Type 0} (x y : A) → ◌≡◌ {A = Built A} (Ok x) (Ok y) → x ≡ y
ok_is x y e = cc

-- Where the first of the project's POMs of each coordinates stands. Project rule.
use Rattle.std.specs.Prelude.{◌≡◌, ℕ, List, find, slice_get, Option}
use Rattle.std.specs.Option.{option_and_then}
use Rattle.mvn_base.specs.Gav.{gav_eq}
use Rattle.mvn_base.specs.declared.gav.Gav.{Gav}
use Rattle.model_resolver.specs.declared.resolver.ProjectPom.{ProjectPom}

-- coordinates lead to a place among all POMs: to that of the first of the last ones that has them
abbrev pub LeadToFirst : (all last : List ProjectPom) → (Gav → Option ℕ) → Type 0
LeadToFirst all last places = (gav : Gav) → option_and_then (slice_get all) (places gav) ≡ find (λ p. gav_eq p.gav gav) last

-- Which versions an interval and a requirement admit. POM Reference, "Dependency Version Requirement Specification".
use Rattle.std.specs.Prelude.{ℕ, Bool, true, false, not, ◌&&◌, List, Option, Some, None}
use Rattle.std.specs.declared.cmp.Ordering.{Ordering}
use Rattle.std.specs.declared.cmp.Ordering.TheVariants.{Less, Equal, Greater}
use Rattle.versions.specs.declared.interval.Bound.{Bound}
use Rattle.versions.specs.declared.interval.Interval.{Interval}
use Rattle.versions.specs.Order.{version_cmp}

-- a bound where it is the lesser, and the greater: at the same version it has to be inclusive
abbrev pub is_past : Bool → Ordering → Bool
is_past inclusive Less = true
is_past inclusive Equal = inclusive
is_past inclusive Greater = false

-- the version is not below the interval
abbrev pub is_above : Option Bound → List ℕ → Bool
is_above None version = true
is_above (Some lower) version = is_past lower.inclusive (version_cmp lower.version version)

-- nor above it
abbrev pub is_below : Option Bound → List ℕ → Bool
is_below None version = true
is_below (Some upper) version = is_past upper.inclusive (version_cmp version upper.version)

abbrev pub is_within : Interval → List ℕ → Bool
is_within interval version = is_above interval.lower version && is_below interval.upper version

-- its lower bound is greater than its upper, or equal to it and one of the two is exclusive
abbrev pub is_crossed : Interval → Bool
is_crossed interval = by interval.lower interval.upper
  where
    by : Option Bound → Option Bound → Bool
    by (Some lower) (Some upper) = not (is_past (lower.inclusive && upper.inclusive) (version_cmp lower.version upper.version))
    by lower upper = false

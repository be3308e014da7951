-- The front of a text that is no requirement. POM Reference, "Dependency Version Requirement Specification".
use Rattle.std.specs.Prelude.{◌≡◌, ℕ, true, List, [], ◌++◌, Option, Some, Ok}
use Rattle.versions.specs.declared.interval.Bound.{Bound}
use Rattle.versions.specs.declared.interval.Interval.{Interval}
use Rattle.versions.specs.declared.requirement.Requirement.{Requirement}
use Rattle.versions.specs.Intervals.{is_crossed}
use Rattle.versions.specs.Requirements.{before, upper, bound, read_on, requirement}

-- with something behind it the text is a requirement
pub record GoesOn (text : List ℕ) : Type 0 where
  pub rest : List ℕ
  pub required : Requirement
  pub is : requirement (text ++ rest) ≡ Ok required

-- the text ends in the upper bound of an interval, and ended there the interval would have crossed bounds
pub record EndsCrossed (text : List ℕ) : Type 0 where
  pub done : List Interval
  pub low : Option Bound
  pub word : List ℕ
  pub reads : read_on 0 (before []) text ≡ Ok (upper done low word)
  pub crossed : is_crossed (record { lower = low; upper = bound true word }) ≡ true

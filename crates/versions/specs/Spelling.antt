-- How a list of intervals is written: the other way round, with nothing that reads. POM Reference, "Dependency Version
-- Requirement Specification".
use Rattle.std.specs.Prelude.{◌≡◌, ℕ, zero, suc, ◌<◌, length, Bool, true, false, not, List, [], ◌∷◌, ◌++◌, Some, if◌then◌else◌}
use Rattle.std.specs.List.{list_all}
use Rattle.versions.specs.declared.interval.Bound.{Bound}
use Rattle.versions.specs.declared.interval.Interval.{Interval}
use Rattle.versions.specs.Intervals.{is_crossed}
use Rattle.versions.specs.Requirements.{is_divider, bound}

abbrev pub spaces : ℕ → List ℕ
spaces zero = []
spaces (suc n) = 32 ∷ spaces n

-- no bracket and no comma
abbrev pub is_plain : List ℕ → Bool
is_plain word = list_all (λ b. not (is_divider b)) word

abbrev pub opening : Bool → ℕ
opening square = if square then 91 else 40

abbrev pub closing : Bool → ℕ
closing square = if square then 93 else 41

-- an interval as it is written: `[v]`; or a bracket, a word, a comma, a word, a bracket
pub data Written : Type 0 where
  one : List ℕ → Written
  two : Bool → List ℕ → List ℕ → Bool → Written

abbrev pub spelling : Written → List ℕ
spelling (one word) = 91 ∷ word ++ 93 ∷ []
spelling (two square low high closed) = opening square ∷ low ++ 44 ∷ high ++ closing closed ∷ []

-- the interval that is written so
pub data Means : Written → Interval → Type 0 where
  exactly_one : (word : List ℕ) (b : Bound) → is_plain word ≡ true → bound true word ≡ Some b → Means (one word) (record { lower = Some b; upper = Some b })
  between_two : (square : Bool) (low high : List ℕ) (closed : Bool) → is_plain low ≡ true → is_plain high ≡ true → Means (two square low high closed) (record { lower = bound square low; upper = bound closed high })

-- a text lists intervals whose bounds don't cross: one or more with commas between, and spaces round each
pub data Lists : List ℕ → List Interval → Type 0 where
  first : (text : List ℕ) (before after : ℕ) (w : Written) (i : Interval) → Means w i → is_crossed i ≡ false → text ≡ spaces before ++ spelling w ++ spaces after → Lists text (i ∷ [])
  further : (text front : List ℕ) (done all : List Interval) (before after : ℕ) (w : Written) (i : Interval) → Lists front done → Means w i → is_crossed i ≡ false
      → text ≡ front ++ 44 ∷ spaces before ++ spelling w ++ spaces after → all ≡ done ++ i ∷ [] → Lists text all

-- a text is a soft requirement: it isn't empty and has no bracket and no comma
pub record IsSoft (text version : List ℕ) : Type 0 where
  pub same : version ≡ text
  pub plain : is_plain text ≡ true
  pub some : 0 < length text

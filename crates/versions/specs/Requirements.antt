-- What a requirement's text says. POM Reference, "Dependency Version Requirement Specification"; spaces and the place of
-- a refusal are own rules.
use Rattle.std.specs.Prelude.{◌≡◌, ℕ, suc, ◌+◌, max, Bool, true, false, ◌&&◌, ◌||◌, ◌==◌, List, [], ◌∷◌, ◌++◌, length, Option, Some, None, Result, Ok, Err, if◌then◌else◌}
use Rattle.std.specs.List.{list_any}
use Rattle.versions.specs.declared.interval.Bound.{Bound}
use Rattle.versions.specs.declared.interval.Interval.{Interval}
use Rattle.versions.specs.declared.requirement.Requirement.{Requirement}
use Rattle.versions.specs.declared.requirement.Requirement.TheVariants.{Soft, Hard}
use Rattle.versions.specs.declared.fault.RequirementError.{RequirementError}
use Rattle.versions.specs.declared.fault.RequirementError.TheVariants.{BadRange, Memory}
use Rattle.versions.specs.Intervals.{is_crossed, is_within}

-- `[`, `]`, `(`, `)` and `,`
abbrev pub is_divider : ℕ → Bool
is_divider b = b == 91 || b == 93 || b == 40 || b == 41 || b == 44

-- without the spaces at its front, at its end, and at both
abbrev pub after_spaces : List ℕ → List ℕ
after_spaces [] = []
after_spaces (b ∷ word) = if b == 32 then after_spaces word else b ∷ word

abbrev pub before_space : ℕ → List ℕ → List ℕ
before_space b [] = if b == 32 then [] else b ∷ []
before_space b (c ∷ word) = b ∷ c ∷ word

abbrev pub before_spaces : List ℕ → List ℕ
before_spaces [] = []
before_spaces (b ∷ word) = before_space b (before_spaces word)

abbrev pub without_spaces : List ℕ → List ℕ
without_spaces word = before_spaces (after_spaces word)

-- a bound, where a version is written
abbrev pub bound : Bool → List ℕ → Option Bound
bound inclusive word = by (without_spaces word)
  where
    by : List ℕ → Option Bound
    by [] = None
    by (b ∷ version) = Some (record { version = b ∷ version; inclusive = inclusive })

-- where a list of intervals has come to: before one; behind its opening bracket, and what is written since; behind its
-- comma, with the lower bound; behind its closing bracket
pub data Reading : Type 0 where
  before : List Interval → Reading
  lower : List Interval → Bool → List ℕ → Reading
  upper : List Interval → Option Bound → List ℕ → Reading
  behind : List Interval → Reading

-- an interval ends, unless its bounds cross
abbrev pub closed : List Interval → Interval → Option Reading
closed done interval = if is_crossed interval then None else Some (behind (done ++ interval ∷ []))

-- the interval `[v]`, which wants a version
abbrev pub exactly : List Interval → Option Bound → Option Reading
exactly done None = None
exactly done (Some v) = closed done (record { lower = Some v; upper = Some v })

-- where it comes to by one byte, unless no list of intervals goes on so
abbrev pub next : Reading → ℕ → Option Reading
next (before done) b =
    if b == 32 then Some (before done) else (if b == 91 || b == 40 then Some (lower done (b == 91) []) else None)
next (lower done square word) b =
    if b == 44 then Some (upper done (bound square word) [])
    else (if b == 93 && square then exactly done (bound true word)
    else (if is_divider b then None else Some (lower done square (word ++ b ∷ []))))
next (upper done low word) b =
    if b == 93 || b == 41 then closed done (record { lower = low; upper = bound (b == 93) word })
    else (if is_divider b then None else Some (upper done low (word ++ b ∷ [])))
next (behind done) b =
    if b == 32 then Some (behind done) else (if b == 44 then Some (before done) else None)

-- where it comes to by a text, or the place of the first byte with which none goes on
abbrev pub read_on : ℕ → Reading → List ℕ → Result Reading ℕ
read_on at reading [] = Ok reading
read_on at reading (b ∷ text) = by (next reading b) (λ further. read_on (at + 1) further text)
  where
    by : Option Reading → (Reading → Result Reading ℕ) → Result Reading ℕ
    by None rest = Err at
    by (Some further) rest = rest further

-- the intervals, or the place from which there are none: the length, where more has to follow
abbrev pub list_of : ℕ → Result Reading ℕ → Result (List Interval) ℕ
list_of end (Ok (behind done)) = Ok done
list_of end (Ok reading) = Err end
list_of end (Err place) = Err place

abbrev pub hard : List ℕ → Result (List Interval) ℕ
hard text = list_of (length text) (read_on 0 (before []) text)

-- where the first divider stands
abbrev pub divider_place : List ℕ → ℕ
divider_place [] = 0
divider_place (b ∷ text) = if is_divider b then 0 else suc (divider_place text)

-- a text without a divider
abbrev pub soft : List ℕ → Result Requirement ℕ
soft [] = Err 0
soft (b ∷ text) = Ok (Soft (b ∷ text))

-- a text with one, the first at a place
abbrev pub hard_from : ℕ → Result (List Interval) ℕ → Result Requirement ℕ
hard_from divider (Ok intervals) = Ok (Hard intervals)
hard_from divider (Err place) = Err (max place divider)

-- what a text requires: a version, where it is not empty and has no divider; or one of its intervals; else the first
-- place from which it is neither
unfoldable pub requirement : List ℕ → Result Requirement ℕ
requirement text = if divider_place text == length text then soft text else hard_from (divider_place text) (hard text)

-- an error names the place from which the text is no requirement; want of memory says nothing of the text
abbrev pub Refuses : RequirementError → Result Requirement ℕ → Type 0
Refuses (BadRange place) said = said ≡ Err place
Refuses Memory said = Unit {0}

abbrev pub is_hard : Requirement → Bool
is_hard (Soft text) = false
is_hard (Hard intervals) = true

-- a soft requirement admits each version, a hard one what lies in one of its intervals
abbrev pub admits : Requirement → List ℕ → Bool
admits (Soft text) version = true
admits (Hard intervals) version = list_any (λ interval. is_within interval version) intervals

-- Reading a stream to its end, or until it is too long.
use Rattle.std.proofs.Common.{◌≡◌, ℕ, ◌+◌, ◌<◌, ◌≤◌, Bool, true, false, nat_le, List, [], ◌++◌, length, length-take, take, drop, take-append-drop, Option, Some, None, IfSome, if◌then◌else◌, refl, sym, ap, subst, ◌∙◌, arith, append-nil}
use Rattle.std.specs.Option.{option_map}
use Rattle.std.proofs.Math.Seq.{take-add, drop-drop}
use Rattle.std.proofs.lemmas.List.{take_all}
use Rattle.std.proofs.lemmas.Bool.Decides.{nat_tests}
use Rattle.goal_program.specs.Requests.{most_request}
use Rattle.goal_program.specs.Reading.{ReadsMore, ReadsUpTo, most_read}

-- what was read so far of a stream, where it tells its bytes
abbrev pub ReadSoFar : Option (List ℕ) → Option (List ℕ) → List ℕ → Type 0
ReadSoFar None now bytes = now ≡ None
ReadSoFar (Some rest) now bytes = (now ≡ Some (drop (length bytes) rest)) × (bytes ≡ take (length bytes) rest)

-- before anything is read, nothing is
pub read_nothing : (before : Option (List ℕ)) → ReadSoFar before before []
read_nothing None = refl
read_nothing (Some rest) = (refl, refl)

-- one read more
pub read_step : (before one two : Option (List ℕ)) (room : ℕ) (old new : List ℕ) (ended : Bool) → ReadSoFar before one old → ReadsMore one two room old new ended → ReadSoFar before two new
read_step None one two room old new ended so r = r.left ∙ ap (option_map (drop r.count)) so
read_step (Some rest) one two room old new ended so r =
    let n = length old in
    let came : new ≡ old ++ take r.count (drop n rest) = subst (λ o. IfSome o (λ rest. new ≡ old ++ take r.count rest)) so.0 r.bytes in (
      r.left ∙ ap (option_map (drop r.count)) so.0 ∙ ap Some (drop-drop r.count n rest) ∙ ap (λ m. Some (drop m rest)) (sym r.len),
      came ∙ ap (λ xs. xs ++ take r.count (drop n rest)) so.1 ∙ sym (take-add n r.count rest) ∙ ap (λ m. take m rest) (sym r.len),
    )

-- a request has so many bytes at most
abbrev pub whole : List ℕ → Option (List ℕ)
whole rest = if nat_le (length rest) most_request then Some rest else None

-- at the end of a stream that isn't too long all of it was read
pub read_to_end : (before one two : Option (List ℕ)) (room : ℕ) (old new : List ℕ) (ended : Bool) → length old ≤ most_request → ReadSoFar before one old → ReadsMore one two room old new ended → ended ≡ true
    → IfSome before (λ rest. Some new ≡ whole rest)
read_to_end None one two room old new ended low so r end = tt
read_to_end (Some rest) one two room old new ended low so r end =
    let n = length old in
    let empty : drop n rest ≡ [] = subst (λ o. IfSome o (λ rest. rest ≡ [])) so.0 (r.last end) in
    let came : new ≡ old ++ take r.count (drop n rest) = subst (λ o. IfSome o (λ rest. new ≡ old ++ take r.count rest)) so.0 r.bytes in
    let all : old ≡ rest = so.1 ∙ sym (append-nil (take n rest)) ∙ ap (λ xs. take n rest ++ xs) (sym empty) ∙ take-append-drop n rest in
    let none : take r.count (drop n rest) ≡ [] = ap (take r.count) empty ∙ nothing_of r.count in
    let same : new ≡ rest = came ∙ ap (λ xs. old ++ xs) none ∙ append-nil old ∙ all in
    let short : nat_le (length rest) most_request ≡ true = grind (arith, nat_tests, low, ap length all) in
    ap Some same ∙ sym (ap (λ b. if b then Some rest else None) short)
  where
    nothing_of : (d : ℕ) → take {A = ℕ} d [] ≡ []
    nothing_of d = take_all d [] (omega arith)

-- a stream of which more was read than a request has is none
pub read_too_much : (before now : Option (List ℕ)) (bytes : List ℕ) → most_request < length bytes → ReadSoFar before now bytes → IfSome before (λ rest. None ≡ whole rest)
read_too_much None now bytes long so = tt
read_too_much (Some rest) now bytes long so =
    let cut : length bytes ≤ length rest = omega (arith, ap length so.1, length-take (length bytes) rest) in
    let test : nat_le (length rest) most_request ≡ false = grind (arith, nat_tests, long, cut) in
    sym (ap (λ b. if b then Some rest else None) test)

-- nothing was read
pub read_none : (most : ℕ) (before now : Option (List ℕ)) → now ≡ before → ReadsUpTo most before now
read_none most None now e = e
read_none most (Some rest) now e = (0, omega arith, e)

-- one read
pub read_some : (most count : ℕ) (before now : Option (List ℕ)) → count ≤ most → now ≡ option_map (drop count) before → ReadsUpTo most before now
read_some most count None now low e = e
read_some most count (Some rest) now low e = (count, low, e)

-- one read after others
pub read_further : (before one two : Option (List ℕ)) (bytes : List ℕ) (room : ℕ) → length bytes + room ≤ most_read → ReadSoFar before one bytes → ReadsUpTo room one two → ReadsUpTo most_read before two
read_further None one two bytes room low so up = subst (λ o. ReadsUpTo room o two) so up
read_further (Some rest) one two bytes room low so up =
    let n = length bytes in
    let more : ReadsUpTo room (Some (drop n rest)) two = subst (λ o. ReadsUpTo room o two) so.0 up in
    (n + more.0, omega (arith, low, more.1), more.2 ∙ ap Some (drop-drop more.0 n rest))

-- what was read so far, where that is all
pub read_so_far : (before now : Option (List ℕ)) (bytes : List ℕ) → length bytes ≤ most_read → ReadSoFar before now bytes → ReadsUpTo most_read before now
read_so_far None now bytes low so = so
read_so_far (Some rest) now bytes low so = (length bytes, low, so.0)

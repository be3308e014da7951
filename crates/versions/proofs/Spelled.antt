-- A text requires intervals exactly where it lists them, and a version exactly where it has no divider.
use Rattle.std.proofs.Common.{◌≡◌, ◌↔◌, ℕ, suc, ◌+◌, Bool, true, false, not, ◌==◌, List, [], ◌∷◌, length, None, Result, Ok, Err, refl, sym, ap, subst, ◌∙◌, arith}
use Rattle.std.proofs.lemmas.Bool.{false≢true}
use Rattle.std.proofs.lemmas.Bool.Decides.{nat_tests}
use Rattle.versions.specs.declared.interval.Interval.{Interval}
use Rattle.versions.specs.declared.requirement.Requirement.{Requirement}
use Rattle.versions.specs.declared.requirement.Requirement.TheVariants.{Soft, Hard}
use Rattle.versions.specs.Requirements.{Reading, before, lower, upper, behind, is_divider, next, read_on, list_of, hard, divider_place, soft, hard_from, requirement}
use Rattle.versions.specs.Spelling.{is_plain, IsSoft, Lists}
use Rattle.versions.proofs.Listed.{comes_reads, lists_comes, and_first, and_second}
use Rattle.versions.proofs.Reached.{reached_by, at_first}

-- what a result is
is_hard_ok : Result Requirement ℕ → Bool
is_hard_ok (Ok (Hard all)) = true
is_hard_ok (Ok (Soft text)) = false
is_hard_ok (Err n) = false

hard_inner : List Interval → Result Requirement ℕ → List Interval
hard_inner other (Ok (Hard all)) = all
hard_inner other (Ok (Soft text)) = other
hard_inner other (Err n) = other

is_behind : Result Reading ℕ → Bool
is_behind (Ok (before done)) = false
is_behind (Ok (lower done square word)) = false
is_behind (Ok (upper done low word)) = false
is_behind (Ok (behind done)) = true
is_behind (Err n) = false

-- a list comes from a reading behind it
behind_is : (end : ℕ) (r : Result Reading ℕ) (all : List Interval) (d : ℕ) → hard_from d (list_of end r) ≡ Ok (Hard all) → r ≡ Ok (behind all)
unfolding is_hard_ok hard_inner
behind_is end (Ok (before done)) all d e = absurd (false≢true (ap is_hard_ok e))
behind_is end (Ok (lower done square word)) all d e = absurd (false≢true (ap is_hard_ok e))
behind_is end (Ok (upper done low word)) all d e = absurd (false≢true (ap is_hard_ok e))
behind_is end (Ok (behind done)) all d e = ap (λ l. Ok (behind l)) (ap (hard_inner all) e)
behind_is end (Err n) all d e = absurd (false≢true (ap is_hard_ok e))

soft_is_not_hard : (text : List ℕ) (all : List Interval) → soft text ≡ Ok (Hard all) → ⊥
unfolding is_hard_ok
soft_is_not_hard [] all e = false≢true (ap is_hard_ok e)
soft_is_not_hard (b ∷ text) all e = false≢true (ap is_hard_ok e)

-- a text without a divider stays before the first interval
plain_at : (text : List ℕ) → divider_place text ≡ length text → is_plain text ≡ true
plain_at [] e = refl
plain_at (b ∷ text) e = by (is_divider b) refl (plain_at text)
  where
    by : (d : Bool) → is_divider b ≡ d → (divider_place text ≡ length text → is_plain text ≡ true) → is_plain (b ∷ text) ≡ true
    by true d rest = absurd (never (omega (arith, there)))
      where
        there : 0 ≡ suc (length text)
        there = sym (rw d refl) ∙ e

        never : ⊥ → ⊥
        never x = x
    by false d rest =
        let there : divider_place (b ∷ text) ≡ suc (divider_place text) = rw d refl in
        let whole : suc (divider_place text) ≡ suc (length text) = sym there ∙ e in
        rw d (rest (omega (arith, whole)))

never_behind : (text : List ℕ) (done : List Interval) (at : ℕ) → is_plain text ≡ true → is_behind (read_on at (before done) text) ≡ false
unfolding is_behind
never_behind [] done at plain = refl
never_behind (b ∷ text) done at plain = by (b == 32) refl (never_behind text done (at + 1) (and_second (not (is_divider b)) (is_plain text) plain))
  where
    free : not (is_divider b) ≡ true
    free = and_first (not (is_divider b)) (is_plain text) plain

    by : (x : Bool) → (b == 32) ≡ x → is_behind (read_on (at + 1) (before done) text) ≡ false → is_behind (read_on at (before done) (b ∷ text)) ≡ false
    by true x rest =
        let same : b ≡ 32 = grind (arith, nat_tests, x) in
        subst (λ k. is_behind (read_on at (before done) (k ∷ text)) ≡ false) (sym same) rest
    by false x rest =
        let there : next (before done) b ≡ None = grind (arith, nat_tests, x, free) in
        rw there refl

-- what is read as intervals lists them
pub intervals_exactly : (text : List ℕ) (all : List Interval) → (requirement text ≡ Ok (Hard all)) ↔ Lists text all
unfolding requirement is_behind
intervals_exactly text all = (λ e. there (divider_place text == length text) refl e, back)
  where
    there : (b : Bool) → (divider_place text == length text) ≡ b → requirement text ≡ Ok (Hard all) → Lists text all
    there true eq e =
        let is : requirement text ≡ soft text = rw eq refl in absurd (soft_is_not_hard text all (sym is ∙ e))
    there false eq e =
        let is : requirement text ≡ hard_from (divider_place text) (hard text) = rw eq refl in
        reached_by text (before []) (behind all) [] 0 (at_first [] 0 refl) (behind_is (length text) (read_on 0 (before []) text) all (divider_place text) (sym is ∙ e))

    back : Lists text all → requirement text ≡ Ok (Hard all)
    back lists = by (divider_place text == length text) refl
      where
        read : read_on 0 (before []) text ≡ Ok (behind all)
        read = comes_reads (lists_comes lists) 0

        by : (b : Bool) → (divider_place text == length text) ≡ b → requirement text ≡ Ok (Hard all)
        by true eq =
            let plain = plain_at text (grind (arith, nat_tests, eq)) in
            absurd (false≢true (sym (never_behind text [] 0 plain) ∙ ap is_behind read))
        by false eq =
            let is : requirement text ≡ hard_from (divider_place text) (hard text) = rw eq refl in
            is ∙ ap (λ r. hard_from (divider_place text) (list_of (length text) r)) read

soft_inner : List ℕ → Result Requirement ℕ → List ℕ
soft_inner other (Ok (Soft text)) = text
soft_inner other (Ok (Hard all)) = other
soft_inner other (Err n) = other

is_soft_ok : Result Requirement ℕ → Bool
is_soft_ok (Ok (Soft text)) = true
is_soft_ok (Ok (Hard all)) = false
is_soft_ok (Err n) = false

hard_is_not_soft : (d : ℕ) (r : Result (List Interval) ℕ) (t : List ℕ) → hard_from d r ≡ Ok (Soft t) → ⊥
unfolding is_soft_ok
hard_is_not_soft d (Ok all) t e = false≢true (ap is_soft_ok e)
hard_is_not_soft d (Err n) t e = false≢true (ap is_soft_ok e)

place_of : (text : List ℕ) → is_plain text ≡ true → divider_place text ≡ length text
place_of [] plain = refl
place_of (b ∷ text) plain = by (is_divider b) refl (place_of text)
  where
    by : (d : Bool) → is_divider b ≡ d → (is_plain text ≡ true → divider_place text ≡ length text) → divider_place (b ∷ text) ≡ length (b ∷ text)
    by true d rest = absurd (false≢true (sym (ap not d) ∙ and_first (not (is_divider b)) (is_plain text) plain))
    by false d rest = rw d (ap suc (rest (and_second (not (is_divider b)) (is_plain text) plain)))

-- what is read as a version is the text, which has one byte at least and no divider
pub version_exactly : (text version : List ℕ) → (requirement text ≡ Ok (Soft version)) ↔ IsSoft text version
unfolding requirement soft_inner is_soft_ok
version_exactly text version = (λ e. there (divider_place text == length text) refl e, λ is. back text version is)
  where
    some_text : (t : List ℕ) → soft t ≡ Ok (Soft version) → is_plain t ≡ true → IsSoft t version
    some_text [] e plain = absurd (false≢true (ap is_soft_ok e))
    some_text (b ∷ t) e plain = record { same = ap (soft_inner version) (sym e); plain = plain; some = omega arith }

    there : (b : Bool) → (divider_place text == length text) ≡ b → requirement text ≡ Ok (Soft version) → IsSoft text version
    there true eq e =
        let is : requirement text ≡ soft text = rw eq refl in some_text text (sym is ∙ e) (plain_at text (grind (arith, nat_tests, eq)))
    there false eq e =
        let is : requirement text ≡ hard_from (divider_place text) (hard text) = rw eq refl in absurd (hard_is_not_soft (divider_place text) (hard text) version (sym is ∙ e))

    back : (t v : List ℕ) → IsSoft t v → requirement t ≡ Ok (Soft v)
    back [] v is = absurd (never (omega (arith, is.some)))
      where
        never : ⊥ → ⊥
        never x = x
    back (b ∷ t) v is =
        let eq : (divider_place (b ∷ t) == length (b ∷ t)) ≡ true = grind (arith, nat_tests, place_of (b ∷ t) is.plain) in
        rw eq (ap (λ l. Ok (Soft l)) (sym is.same))

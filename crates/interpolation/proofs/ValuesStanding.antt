-- Texts that stand as they are written.
use Rattle.std.proofs.Common.{◌≡◌, ◌==◌, ◌&&◌, ◌||◌, ℕ, codes, Option, zero, suc, Bool, true, false, not, List, [], ◌∷◌, length, nat_lt, None, Some, option_map, Ok, Err, refl, arith, sym, ap, ◌∙◌, if◌then◌else◌}
use Rattle.std.specs.List.{list_all, list_any}
use Rattle.std.proofs.lemmas.Bool.{eqb-true, false≢true}
use Rattle.mvn_base.specs.declared.machine.Pair.{Pair}
use Rattle.mvn_base.specs.declared.rule.Rule.TheVariants.{TooLarge}
use Rattle.interpolation.specs.declared.part.Part.TheVariants.{Plain}
use Rattle.interpolation.specs.Parts.{cut, found, parts, parts_within, split}
use Rattle.interpolation.specs.KnownValues.{◌>>=◌, Filled, filled_from, longest, stands, value}
use Rattle.interpolation.specs.Texts.{first_name, name_of, text_of}
use Rattle.interpolation.proofs.ValueLists.{name_there}

both_first : (a b : Bool) → (a && b) ≡ true → a ≡ true
both_first true b e = refl
both_first false b e = e

both_second : (a b : Bool) → (a && b) ≡ true → b ≡ true
both_second true b e = e
both_second false b e = absurd (false≢true e)

not_so : (b : Bool) → not b ≡ true → b ≡ false
not_so true e = absurd (false≢true e)
not_so false e = refl

-- a text without a `$` isn't cut
uncut : (text : List ℕ) → list_any (λ c. c == 36) text ≡ false → cut 36 text ≡ None
uncut [] none = refl
uncut (b ∷ text) none = by (b == 36) refl (uncut text)
  where
    by : (t : Bool) → (b == 36) ≡ t → (list_any (λ c. c == 36) text ≡ false → cut 36 text ≡ None) → cut 36 (b ∷ text) ≡ None
    by true is rest = absurd (false≢true (sym none ∙ ap (λ t. t || list_any (λ c. c == 36) text) is))
    by false is rest =
        ap (λ t. if t then Some ([], text) else option_map (λ e. (b ∷ e.0, e.1)) (cut 36 text)) is
        ∙ ap (option_map (λ e. (b ∷ e.0, e.1))) (rest (sym (ap (λ t. t || list_any (λ c. c == 36) text) is) ∙ none))

-- so it is one plain piece
one_piece : (text : List ℕ) → cut 36 text ≡ None → parts text ≡ Plain text ∷ []
unfolding parts
one_piece text none = by (length text)
  where
    by : (n : ℕ) → parts_within n text ≡ Plain text ∷ []
    by zero = refl
    by (suc n) = ap (λ o. split (parts_within n) text (found o)) none

module _ (text : List ℕ) (is : stands text ≡ true) where
  plain : parts text ≡ Plain text ∷ []
  plain = one_piece text (uncut text (not_so (list_any (λ c. c == 36) text) (both_first (not (list_any (λ c. c == 36) text)) (not (nat_lt longest (length text))) is)))

  short : nat_lt longest (length text) ≡ false
  short = not_so (nat_lt longest (length text)) (both_second (not (list_any (λ c. c == 36) text)) (not (nat_lt longest (length text))) is)

  -- and filled with any values it is itself
  pub text_stands : (known : List Pair) (place : List ℕ) → text_of known place text ≡ Ok text
  unfolding text_of
  text_stands known place =
      ap (filled_from place (value known []) []) plain
      ∙ ap (λ b. (if b then Err (TooLarge, place) else Ok text) >>= (λ more. filled_from place (value known []) more [])) short

  -- no expression is left in it
  pub name_stands : (known : List Pair) (place : List ℕ) → name_of known place text ≡ Ok text
  unfolding name_of
  name_stands known place = name_there (text_of known place text) text (text_stands known place) (ap first_name plain)

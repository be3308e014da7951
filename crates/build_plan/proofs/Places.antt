-- The word that means no module is one of the line's.
use Rattle.std.proofs.Common.{◌≡◌, ◌⊎◌, inl, inr, ℕ, suc, ◌<◌, ◌≤◌, Bool, true, false, List, [], ◌∷◌, map, Option, None, Some, Result, Ok, Err, refl, ap, subst, sym, ◌∙◌, if◌then◌else◌, arith, nat_lt}
use Rattle.std.proofs.lemmas.Bool.Decides.{nat_tests}
use Rattle.std.proofs.lemmas.List.{map-append}
use Rattle.std.proofs.lemmas.List.Elements.{Contains-append_right}
use Rattle.std.specs.Prelude.{Contains, min, option_to_list}
use Rattle.cli_words.specs.declared.command_line.CommandLine.{CommandLine}
use Rattle.cli_words.specs.declared.command_line.Word.{Word}
use Rattle.model_types.specs.declared.model.Model.{Model}
use Rattle.reactor_order.specs.Graph.{has}
use Rattle.reactor_order.specs.Select.{from_on}
use Rattle.reactor.specs.Meaning.{meant}
use Rattle.reactor.specs.Selection.{first_meant, naming, or_unknown, resumed, resumed_at, unknown}

abbrev places : List Word → List ℕ
places words = map (λ (w : Word). w.place) words

first : (x y : ℕ) (xs : List ℕ) → x ≡ y → Contains (x ∷ xs) y
first x y xs e = (0, omega arith, e)

later : (x y : ℕ) (xs : List ℕ) → Contains xs y → Contains (x ∷ xs) y
later x y xs p = (suc p.0, omega (arith, p.1), p.2)

some_is : (a b : ℕ) → Some a ≡ Some b → a ≡ b
some_is a b e = cc

err_is : (a b : ℕ) → ◌≡◌ {A = Result (List ℕ) ℕ} (Err a) (Err b) → a ≡ b
err_is a b e = cc

one_of : (a b : ℕ) → (min a b ≡ a) ⊎ (min a b ≡ b)
one_of a b = by (nat_lt a b) refl
  where
    by : (t : Bool) → nat_lt a b ≡ t → (min a b ≡ a) ⊎ (min a b ≡ b)
    by true e = let low : a < b = grind (arith, nat_tests, e) in inl (omega (arith, low))
    by false e = let low : b ≤ a = grind (arith, nat_tests, e) in inr (omega (arith, low))

module _ (models : List Model) where
  -- of one word
  at_word : (w : Word) (numbers words : List ℕ) (start : Option ℕ) (place : ℕ) → or_unknown numbers start w ≡ Some place → (start ≡ Some place) ⊎ Contains (w.place ∷ words) place
  at_word w [] words None place e = inr (first w.place place words (some_is w.place place e))
  at_word w [] words (Some other) place e = by (one_of other w.place) (some_is (min other w.place) place e)
    where
      by : (min other w.place ≡ other) ⊎ (min other w.place ≡ w.place) → min other w.place ≡ place → (Some other ≡ Some place) ⊎ Contains (w.place ∷ words) place
      by (inl same) is = inl (ap Some (sym same ∙ is))
      by (inr same) is = inr (first w.place place words (sym same ∙ is))
  at_word w (n ∷ numbers) words start place e = inl e

  -- of some words
  at_words : (words : List Word) (start : Option ℕ) (place : ℕ) → unknown models start words ≡ Some place → (start ≡ Some place) ⊎ Contains (places words) place
  at_words [] start place e = inl e
  at_words (w ∷ words) start place e = by (at_words words (or_unknown (meant models w.text) start w) place e)
    where
      by : (or_unknown (meant models w.text) start w ≡ Some place) ⊎ Contains (places words) place → (start ≡ Some place) ⊎ Contains (places (w ∷ words)) place
      by (inl here) = at_word w (meant models w.text) (places words) start place here
      by (inr there) = inr (later w.place place (places words) there)

  -- of the word to begin with
  at_from : (order whole : List ℕ) (from : Option Word) (place : ℕ) → resumed models order whole from ≡ Err place → Contains (places (option_to_list from)) place
  at_from order whole None place e = cc
  at_from order whole (Some w) place e = by (first_meant models order w) e
    where
      chosen : (n : ℕ) (b : Bool) → (if b then Ok (from_on (Some n) whole) else Err w.place) ≡ Err place → Contains (w.place ∷ []) place
      chosen n true e = cc
      chosen n false e = first w.place place [] (err_is w.place place e)

      by : (m : Option ℕ) → resumed_at whole w.place m ≡ Err place → Contains (w.place ∷ []) place
      by None e = first w.place place [] (err_is w.place place e)
      by (Some n) e = chosen n (has whole n) e

  -- of all that name modules
  pub first_is_named : (line : CommandLine) (place : ℕ) → unknown models None (naming line) ≡ Some place → Contains (places (naming line)) place
  first_is_named line place e = by (at_words (naming line) None place e)
    where
      by : (None ≡ Some place) ⊎ Contains (places (naming line)) place → Contains (places (naming line)) place
      by (inl none) = cc
      by (inr there) = there

  pub from_is_named : (line : CommandLine) (order whole : List ℕ) (place : ℕ) → resumed models order whole line.from ≡ Err place → Contains (places (naming line)) place
  from_is_named line order whole place e =
      subst (λ (all : List ℕ). Contains all place) (sym (map-append (λ (w : Word). w.place) line.projects (option_to_list line.from)))
      (Contains-append_right (places line.projects) (places (option_to_list line.from)) place (at_from order whole line.from place e))

use Rattle.std.proofs.Common.{◌≡◌, ℕ, Bool, true, false, List, refl}
use Rattle.std.specs.Str.{IsUtf8, is_utf8}
use Rattle.std.proofs.lemmas.Str.{IsUtf8-from_is_utf8, is_utf8-from_IsUtf8}
use Rattle.cli_words.proofs.value.text_of.Goals as goal

not_utf8 : (word : List ℕ) → (IsUtf8 word → ⊥) → is_utf8 word ≡ false
not_utf8 word none = by (is_utf8 word) refl
  where
    by : (b : Bool) → is_utf8 word ≡ b → is_utf8 word ≡ false
    by true e = absurd (none (IsUtf8-from_is_utf8 word e))
    by false e = e

pub returns-in-Ok : goal.returns-in-Ok
returns-in-Ok c = (c.in-Ok.ensures.cases.0, is_utf8-from_IsUtf8 c.args.word.now c.in-Ok.ensures.cases.1)

pub returns-in-Err : goal.returns-in-Err
returns-in-Err c = not_utf8 c.args.word.now c.in-Err.ensures.cases.0

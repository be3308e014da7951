-- Examples of words, which the checker computes.
use Rattle.std.specs.Prelude.{◌≡◌, List, [], ◌∷◌, codes}
use Rattle.std.proofs.Common.{refl}
use Rattle.cli_words.specs.declared.spelling.Wanted.TheVariants.{Profiles, Projects, Define}
use Rattle.cli_words.specs.Spellings.{spelled}
use Rattle.cli_words.specs.Options.{trimmed, items, name_of, value_of, joined_value, other_word, no_words}

-- white space is no part of an item, and what has nothing else is none
some_items : items (codes " a , ,- b,") ≡ codes "a" ∷ codes "- b" ∷ []
unfolding trimmed
some_items = refl

no_items : items (codes ", ,") ≡ []
unfolding trimmed
no_items = refl

-- an option and its value in one word, with `=` between and without
with_equals : other_word 0 (codes "-P=x") no_words ≡ joined_value 0 Profiles (codes "x") no_words
unfolding spelled
with_equals = refl

long_with_equals : other_word 0 (codes "--projects=x=y") no_words ≡ joined_value 0 Projects (codes "x=y") no_words
unfolding spelled
long_with_equals = refl

without_equals : other_word 0 (codes "-Dx=y") no_words ≡ joined_value 0 Define (codes "x=y") no_words
unfolding spelled
without_equals = refl

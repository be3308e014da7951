-- Worked examples of indexes.
use Rattle.std.proofs.Common.{◌≡◌, ℕ, List, [], ◌∷◌, ◌++◌, codes, Some, None, refl}
use lib.Utf8.{encode}
use Rattle.std.specs.Str.{chars, is_utf8}
use Rattle.mvn_base.specs.Names.{is_version, is_version_byte}
use Rattle.version_index.specs.Listed.{entered_of, listed_of}
use Rattle.version_index.specs.Names.{index_lock}
use Rattle.version_index.specs.Sets.{put_version, version_set}
use Rattle.version_index.specs.Texts.{index_text, read_index}

-- `0.9` and `1.0`, a line each
two : List ℕ
two = codes "0.9" ++ 10 ∷ codes "1.0" ++ 10 ∷ []

lock_of_app : index_lock (codes "org.demo") (codes "app") ≡ codes "metadata:org.demo:app"
lock_of_app = refl

-- each once, ascending by bytes: `10` is below `9`
ten_below_nine : version_set (codes "9" ∷ codes "10" ∷ codes "9" ∷ []) ≡ codes "10" ∷ codes "9" ∷ []
ten_below_nine = refl

put_between : put_version (codes "1" ∷ codes "3" ∷ []) (codes "2") ≡ codes "1" ∷ codes "2" ∷ codes "3" ∷ []
put_between = refl

put_again : put_version (codes "1" ∷ codes "3" ∷ []) (codes "3") ≡ codes "1" ∷ codes "3" ∷ []
put_again = refl

any_order : index_text (codes "1.0" ∷ codes "0.9" ∷ codes "1.0" ∷ []) ≡ two
unfolding two
any_order = refl

-- no version makes the empty text
none_is_empty : index_text [] ≡ []
none_is_empty = refl

-- ---- read

read_two : read_index two ≡ Some (codes "0.9" ∷ codes "1.0" ∷ [])
unfolding two is_version is_version_byte is_utf8 chars encode
read_two = refl

empty_has_none : read_index [] ≡ Some []
empty_has_none = refl

no_last_feed : read_index (codes "0.9" ++ 10 ∷ codes "1.0") ≡ None
unfolding is_version is_version_byte is_utf8 chars encode
no_last_feed = refl

descending : read_index (codes "1.0" ++ 10 ∷ codes "0.9" ++ 10 ∷ []) ≡ None
unfolding is_version is_version_byte is_utf8 chars encode
descending = refl

once_more : read_index (codes "1.0" ++ 10 ∷ codes "1.0" ++ 10 ∷ []) ≡ None
unfolding is_version is_version_byte is_utf8 chars encode
once_more = refl

empty_line : read_index (10 ∷ codes "1.0" ++ 10 ∷ []) ≡ None
unfolding is_version is_version_byte is_utf8 chars encode
empty_line = refl

-- with a carriage return before the line feed
carriage_return : read_index (codes "1.0" ++ 13 ∷ 10 ∷ []) ≡ None
unfolding is_version is_version_byte is_utf8 chars encode
carriage_return = refl

-- a byte that begins no character
not_utf8 : read_index (255 ∷ 10 ∷ []) ≡ None
unfolding is_version is_version_byte is_utf8 chars encode
not_utf8 = refl

-- ---- listed and entered

-- no index, or a broken one: what was known at the start
broken_is_none : listed_of (Some (codes "1.0")) (codes "2" ∷ codes "1" ∷ []) ≡ codes "1" ∷ codes "2" ∷ []
unfolding is_version is_version_byte is_utf8 chars encode
broken_is_none = refl

first_entered : entered_of None (codes "0.9" ∷ []) (codes "1.0") ≡ two
unfolding two
first_entered = refl

entered_again : entered_of (Some two) [] (codes "1.0") ≡ two
unfolding two is_version is_version_byte is_utf8 chars encode
entered_again = refl

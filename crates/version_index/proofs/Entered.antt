-- What a repository lists, and the index with a further version.
use Rattle.std.proofs.Common.{◌≡◌, ℕ, ◌≤◌, true, ◌&&◌, List, ◌∷◌, length, Option, Some, None, option_and_then, is_some, unwrap_or, refl, sym, ap, ◌∙◌}
use Rattle.std.specs.List.{list_all}
use Rattle.std.proofs.lemmas.Bool.{false≢true}
use Rattle.mvn_base.proofs.Cuts.{and_left, and_right}
use Rattle.version_index.specs.Listed.{entered_of, listed_of}
use Rattle.version_index.specs.Sets.{IsAscending, has_version, put_version, version_set}
use Rattle.version_index.specs.Texts.{index_text, is_listed, most_index, read_index, version_lines}
use Rattle.version_index.proofs.Lines.{all_of, lines_fewer, read_back, read_is, set_listed}
use Rattle.version_index.proofs.Sets.{has_put, has_set, put_ascends, put_swap, same_versions, set_ascends, set_itself}

-- a set with one more is the set of all
pub put_is_set : (xs : List (List ℕ)) (v : List ℕ) → IsAscending xs → put_version xs v ≡ version_set (v ∷ xs)
put_is_set xs v up = same_versions (put_version xs v) (version_set (v ∷ xs)) (put_ascends xs v up) (set_ascends (v ∷ xs)) (λ q. has_put q v xs ∙ sym (has_set q (v ∷ xs)))

-- sets with the same versions are one
pub same_sets : (one other : List (List ℕ)) → ((q : List ℕ) → has_version q one ≡ has_version q other) → version_set one ≡ version_set other
same_sets one other same = same_versions (version_set one) (version_set other) (set_ascends one) (set_ascends other) (λ q. has_set q one ∙ same q ∙ sym (has_set q other))

-- what is written is read
pub written_read : (xs : List (List ℕ)) → list_all is_listed xs ≡ true → length (index_text xs) ≤ most_index → read_index (index_text xs) ≡ Some (version_set xs)
written_read xs fine short = read_back (version_set xs) (set_ascends xs) (set_listed xs fine) short

-- fewer versions have no longer a text
pub fewer_shorter : (one other : List (List ℕ)) → ((q : List ℕ) → has_version q one ≡ true → has_version q other ≡ true) → length (index_text one) ≤ length (index_text other)
fewer_shorter one other less = lines_fewer (version_set one) (version_set other) (set_ascends one) (set_ascends other) (λ q is. has_set q other ∙ less q (sym (has_set q one) ∙ is))

-- ---- what is listed

by_read : (P : List (List ℕ) → Type 0) (start : List (List ℕ)) → P (version_set start) → (read : Option (List (List ℕ))) → ((xs : List (List ℕ)) → read ≡ Some xs → P xs) → P (unwrap_or read (version_set start))
by_read P start else None found = else
by_read P start else (Some xs) found = found xs refl

index_of : (found : Option (List ℕ)) (xs : List (List ℕ)) → option_and_then read_index found ≡ Some xs → (IsAscending xs) × (list_all is_listed xs ≡ true)
index_of None xs e = absurd (none xs e)
  where
    none : (xs : List (List ℕ)) → None ≡ Some xs → ⊥
    none xs e = false≢true (ap is_some e)
index_of (Some bytes) xs e = let is = read_is bytes xs e in (is.ascending, is.valid)

pub listed_ascends : (found : Option (List ℕ)) (start : List (List ℕ)) → IsAscending (listed_of found start)
listed_ascends found start = by_read IsAscending start (set_ascends start) (option_and_then read_index found) (λ xs e. (index_of found xs e).0)

pub listed_valid : (found : Option (List ℕ)) (start : List (List ℕ)) → list_all is_listed start ≡ true → list_all is_listed (listed_of found start) ≡ true
listed_valid found start fine = by_read (λ xs. list_all is_listed xs ≡ true) start (set_listed start fine) (option_and_then read_index found) (λ xs e. (index_of found xs e).1)

-- what is listed is listed again from itself
pub listed_again : (found : Option (List ℕ)) (start : List (List ℕ)) → listed_of found (listed_of found start) ≡ listed_of found start
listed_again found start = by (option_and_then read_index found)
  where
    by : (read : Option (List (List ℕ))) → unwrap_or read (version_set (unwrap_or read (version_set start))) ≡ unwrap_or read (version_set start)
    by None = set_itself (version_set start) (set_ascends start)
    by (Some xs) = refl

-- ---- a further version

put_valid : (xs : List (List ℕ)) (v : List ℕ) → list_all is_listed xs ≡ true → is_listed v ≡ true → list_all is_listed (put_version xs v) ≡ true
put_valid xs v fine one = all_of is_listed (put_version xs v) (v ∷ xs) (ap (λ b. b && list_all is_listed xs) one ∙ fine) (λ q is. sym (has_put q v xs) ∙ is)

-- it is read with those that were listed
pub entered_read : (found : Option (List ℕ)) (start : List (List ℕ)) (v : List ℕ) → list_all is_listed (v ∷ start) ≡ true → length (entered_of found start v) ≤ most_index
    → read_index (entered_of found start v) ≡ Some (put_version (listed_of found start) v)
entered_read found start v fine short =
    read_back (put_version (listed_of found start) v) (put_ascends (listed_of found start) v (listed_ascends found start))
    (put_valid (listed_of found start) v (listed_valid found start (and_right (is_listed v) (list_all is_listed start) fine)) (and_left (is_listed v) (list_all is_listed start) fine)) short

-- two make one index in either order
pub entered_swap : (found : Option (List ℕ)) (start : List (List ℕ)) (v w : List ℕ) → list_all is_listed (v ∷ w ∷ start) ≡ true → length (entered_of found start v) ≤ most_index → length (entered_of found start w) ≤ most_index
    → entered_of (Some (entered_of found start v)) start w ≡ entered_of (Some (entered_of found start w)) start v
entered_swap found start v w fine short short_too =
    after v w (entered_read found start v first short) ∙ ap version_lines (put_swap (listed_of found start) v w (listed_ascends found start)) ∙ sym (after w v (entered_read found start w rest short_too))
  where
    rest : list_all is_listed (w ∷ start) ≡ true
    rest = and_right (is_listed v) (list_all is_listed (w ∷ start)) fine

    first : list_all is_listed (v ∷ start) ≡ true
    first = ap (λ b. b && list_all is_listed start) (and_left (is_listed v) (list_all is_listed (w ∷ start)) fine) ∙ and_right (is_listed w) (list_all is_listed start) rest

    after : (a b : List ℕ) → read_index (entered_of found start a) ≡ Some (put_version (listed_of found start) a)
        → entered_of (Some (entered_of found start a)) start b ≡ version_lines (put_version (put_version (listed_of found start) a) b)
    after a b read = ap (λ r. version_lines (put_version (unwrap_or r (version_set start)) b)) read

-- the new index is the text of all
pub entered_is : (found : Option (List ℕ)) (start : List (List ℕ)) (v : List ℕ) → entered_of found start v ≡ index_text (v ∷ listed_of found start)
entered_is found start v = ap version_lines (put_is_set (listed_of found start) v (listed_ascends found start))

-- The last line of a report is its line of totals.
use Rattle.std.proofs.Common.{◌≡◌, ◌∙◌, ◌⊎◌, inl, inr, ℕ, zero, suc, ◌+◌, ◌/◌, ◌%◌, Bool, true, false, ◌||◌, ◌==◌, nat_lt, cond, if◌then◌else◌, List, [], ◌∷◌, ◌++◌, length, flat_map, fold, codes, Option, Some, None, refl, sym, ap, subst, arith}
use Rattle.std.proofs.lemmas.List.{append-nil}
use Rattle.std.proofs.lemmas.Bool.Decides.{nat_tests}
use Rattle.std.specs.List.{list_any}
use Rattle.std.specs.Fmt.{decimal, digits, digits_onto, digit_glyph}
use Rattle.report.specs.declared.row.FullPart.{FullPart}
use Rattle.report.specs.declared.row.ReportRow.{ReportRow}
use Rattle.report.specs.Report.{count_of, end_text, full_text, indented, is_built, is_failed, is_skipped, line, report_text, row_text, total_text}
use Rattle.generated.specs.LastLines.{last_line, next}

assoc : {A : Type 0} (xs ys zs : List A) → (xs ++ ys) ++ zs ≡ xs ++ (ys ++ zs)
assoc [] ys zs = refl
assoc (x ∷ xs) ys zs = ap (λ r. x ∷ r) (assoc xs ys zs)

-- ---- bytes without a line feed

abbrev NoFeed : List ℕ → Type 0
NoFeed [] = Unit {0}
NoFeed (b ∷ text) = ((b == 10) ≡ false) × NoFeed text

both : (xs ys : List ℕ) → NoFeed xs → NoFeed ys → NoFeed (xs ++ ys)
both [] ys p q = q
both (b ∷ xs) ys (e, p) q = (e, both xs ys p q)

glyph : (d : ℕ) → (digit_glyph false d == 10) ≡ false
glyph d = by (nat_lt d 10) refl
  where
    by : (b : Bool) → nat_lt d 10 ≡ b → (digit_glyph false d == 10) ≡ false
    by true e = grind (arith, nat_tests, e)
    by false e = grind (arith, nat_tests, e)

onto : (k n : ℕ) (rest : List ℕ) → NoFeed rest → NoFeed (digits_onto k 10 false n rest)
onto zero n rest p = p
onto (suc k) n rest p = by (n / 10 == 0) (onto k (n / 10) (digit_glyph false (n % 10) ∷ rest) (glyph (n % 10), p))
  where
    by : (b : Bool) → NoFeed (digits_onto k 10 false (n / 10) (digit_glyph false (n % 10) ∷ rest)) → NoFeed (if b then digit_glyph false (n % 10) ∷ rest else digits_onto k 10 false (n / 10) (digit_glyph false (n % 10) ∷ rest))
    by true more = (glyph (n % 10), p)
    by false more = more

number : (n : ℕ) → NoFeed (decimal n)
unfolding digits
number n = onto 64 n [] tt

or_left : (a b : Bool) → a || b ≡ false → a ≡ false
or_left true b e = cc
or_left false b e = refl

or_right : (a b : Bool) → a || b ≡ false → b ≡ false
or_right true b e = cc
or_right false b e = e

-- a literal has none if it computes so
clean : (text : List ℕ) → list_any (λ b. b == 10) text ≡ false → NoFeed text
clean [] e = tt
clean (b ∷ text) e = (or_left (b == 10) (list_any (λ b. b == 10) text) e, clean text (or_right (b == 10) (list_any (λ b. b == 10) text) e))

-- ---- lines

going_on : (line text : List ℕ) → NoFeed text → fold next (line, false) text ≡ (line ++ text, false)
going_on line [] p = ap (λ (l : List ℕ). (l, false)) (sym (append-nil line))
going_on line (b ∷ text) (e, p) =
    ap (λ (ended : Bool). fold next (line ++ b ∷ [], ended) text) e ∙ going_on (line ++ b ∷ []) text p ∙ ap (λ (l : List ℕ). (l, false)) (assoc line (b ∷ []) text)

-- texts one after another
fold_both : (s : List ℕ × Bool) (xs ys : List ℕ) → fold next s (xs ++ ys) ≡ fold next (fold next s xs) ys
fold_both s [] ys = refl
fold_both s (b ∷ xs) ys = fold_both (next s b) xs ys

-- a line begins behind another, or at the front
abbrev Begins : List ℕ × Bool → Type 0
Begins s = (s.1 ≡ true) ⊎ (s ≡ ([], false))

first_byte : (s : List ℕ × Bool) (b : ℕ) → Begins s → next s b ≡ (b ∷ [], b == 10)
first_byte (line, ended) b (inl e) = ap (λ (x : Bool). ((if x then b ∷ [] else line ++ b ∷ []), b == 10)) e
first_byte s b (inr e) = ap (λ (x : List ℕ × Bool). next x b) e

-- it is the last if it is the one that ends
one_line : (s : List ℕ × Bool) (b : ℕ) (text : List ℕ) → Begins s → NoFeed (b ∷ text) → fold next s (line (b ∷ text)) ≡ (line (b ∷ text), true)
one_line s b text begins (e, p) =
    fold_both s (b ∷ text) (10 ∷ [])
    ∙ ap (λ (x : List ℕ × Bool). fold next (fold next x text) (10 ∷ [])) (first_byte s b begins ∙ ap (λ (ended : Bool). (b ∷ [], ended)) e)
    ∙ ap (λ (x : List ℕ × Bool). fold next x (10 ∷ [])) (going_on (b ∷ []) text p)

-- a text that is empty or ends by a line feed
abbrev Ended : List ℕ → Type 0
Ended text = (text ≡ []) ⊎ ((front : List ℕ) × (text ≡ line front))

ended_both : (xs ys : List ℕ) → Ended xs → Ended ys → Ended (xs ++ ys)
ended_both xs ys p (inr (front, e)) = inr (xs ++ front, ap (λ (t : List ℕ). xs ++ t) e ∙ sym (assoc xs front (10 ∷ [])))
ended_both xs ys p (inl e) = subst Ended (sym (ap (λ (t : List ℕ). xs ++ t) e ∙ append-nil xs)) p

ended_all : {A : Type 0} (f : A → List ℕ) → ((x : A) → Ended (f x)) → (xs : List A) → Ended (flat_map f xs)
ended_all f each [] = inl refl
ended_all f each (x ∷ xs) = ended_both (f x) (flat_map f xs) (each x) (ended_all f each xs)

ended_line : (text : List ℕ) → Ended (line text)
ended_line text = inr (text, refl)

ended_indented : (word text : List ℕ) → Ended (indented word text)
ended_indented word text = inr (codes "  " ++ word ++ text, refl)

ended_files : (word : List ℕ) (files : List (List ℕ)) → Ended (flat_map (indented word) files)
ended_files word files = ended_all (indented word) (ended_indented word) files

ended_full : (full : Option FullPart) → Ended (full_text full)
ended_full None = inl refl
ended_full (Some full) =
    ended_both (indented (codes "model ") full.model ++ flat_map (indented (codes "compile ")) full.compile ++ flat_map (indented (codes "runtime ")) full.runtime) (flat_map (indented (codes "test ")) full.test)
    (ended_both (indented (codes "model ") full.model ++ flat_map (indented (codes "compile ")) full.compile) (flat_map (indented (codes "runtime ")) full.runtime)
    (ended_both (indented (codes "model ") full.model) (flat_map (indented (codes "compile ")) full.compile) (ended_indented (codes "model ") full.model) (ended_files (codes "compile ") full.compile))
    (ended_files (codes "runtime ") full.runtime))
    (ended_files (codes "test ") full.test)

ended_row : (row : ReportRow) → Ended (row_text row)
ended_row row =
    ended_both (line (end_text row.gav row.end) ++ flat_map (indented []) row.notes ++ flat_map (indented []) row.tree) (full_text row.full)
    (ended_both (line (end_text row.gav row.end) ++ flat_map (indented []) row.notes) (flat_map (indented []) row.tree)
    (ended_both (line (end_text row.gav row.end)) (flat_map (indented []) row.notes) (ended_line (end_text row.gav row.end)) (ended_files [] row.notes))
    (ended_files [] row.tree))
    (ended_full row.full)

begins_behind : (text : List ℕ) → Ended text → Begins (fold next ([], false) text)
begins_behind text (inl e) = inr (ap (λ (t : List ℕ). fold next ([], false) t) e)
begins_behind text (inr (front, e)) = inl (ap (λ (t : List ℕ). (fold next ([], false) t).1) e ∙ ap (λ (x : List ℕ × Bool). x.1) (fold_both ([], false) front (10 ∷ [])))

-- ---- the report

-- a text with a label and a number behind it
abbrev counted : (text label : List ℕ) → ℕ → List ℕ
counted text label n = text ++ label ++ decimal n

counted_clean : (text label : List ℕ) (n : ℕ) → NoFeed text → NoFeed label → NoFeed (counted text label n)
counted_clean text label n p q = both (text ++ label) (decimal n) (both text label p q) (number n)

total_bytes : List ReportRow → List ℕ
total_bytes rows = counted (counted (counted (codes "otal " ++ decimal (length rows)) (codes " built ") (count_of is_built rows)) (codes " failed ") (count_of is_failed rows)) (codes " skipped ") (count_of is_skipped rows)

no_feed : (rows : List ReportRow) → NoFeed (116 ∷ total_bytes rows)
unfolding total_bytes
no_feed rows =
    let total : NoFeed (codes "otal " ++ decimal (length rows)) = both (codes "otal ") (decimal (length rows)) (clean (codes "otal ") refl) (number (length rows)) in
    let built = counted_clean (codes "otal " ++ decimal (length rows)) (codes " built ") (count_of is_built rows) total (clean (codes " built ") refl) in
    let failed = counted_clean (counted (codes "otal " ++ decimal (length rows)) (codes " built ") (count_of is_built rows)) (codes " failed ") (count_of is_failed rows) built (clean (codes " failed ") refl) in
    (refl, counted_clean (counted (counted (codes "otal " ++ decimal (length rows)) (codes " built ") (count_of is_built rows)) (codes " failed ") (count_of is_failed rows)) (codes " skipped ") (count_of is_skipped rows) failed (clean (codes " skipped ") refl))

total_is : (rows : List ReportRow) → total_text rows ≡ line (116 ∷ total_bytes rows)
unfolding total_text total_bytes
total_is rows = refl

pub last_is_total : (rows : List ReportRow) → last_line (report_text rows) ≡ total_text rows
last_is_total rows =
    ap (λ (t : List ℕ). last_line (flat_map row_text rows ++ t)) (total_is rows)
    ∙ ap (λ (x : List ℕ × Bool). x.0) (fold_both ([], false) (flat_map row_text rows) (line (116 ∷ total_bytes rows)) ∙ one_line _ 116 (total_bytes rows) (begins_behind (flat_map row_text rows) (ended_all row_text ended_row rows)) (no_feed rows))
    ∙ sym (total_is rows)

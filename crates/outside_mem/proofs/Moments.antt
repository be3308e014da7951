-- Images of a repository in memory.
use Rattle.std.proofs.Common.{◌≡◌, ◌≤◌, ◌<◌, ℕ, zero, suc, ◌+◌, ◌-◌, Bool, true, false, if◌then◌else◌, T, List, [], ◌∷◌, ◌++◌, length, map, filter, fold, take, drop, get_or, Ordering, Some, cond, refl, sym, ap, subst, ◌∙◌, arith}
use Rattle.std.specs.declared.cmp.Ordering.TheVariants.{Less, Equal, Greater}
use Rattle.std.specs.Ordering.{nat_cmp, is_eq, eq_by_cmp}
use Rattle.std.specs.Cmp.Lexicographic.{slice_cmp, nat_list_cmp_total}
use Rattle.std.specs.FinMap as finite
use Rattle.std.specs.FinMap.{get-insert, slice_cmp-IsAntisymmetric, nat_cmp-IsAntisymmetric}
use Rattle.std.proofs.Math.Seq.{drop-cons}
use Rattle.std.proofs.lemmas.List.Sums.{fold-append}
use Rattle.std.proofs.lemmas.List.Folds.{fold-map}
use Rattle.mvn_shared.specs.Files.{Files, file_at}
use Rattle.mvn_outside.specs.declared.shelf.Published.{Published}
use Rattle.mvn_outside.specs.declared.shelf.ShelfTold.{ShelfTold}
use Rattle.mvn_outside.specs.Shelf.{with_publish, files_after, Standing}
use Rattle.outside_mem.specs.declared.remote.MemFile.{MemFile}
use Rattle.outside_mem.specs.FilesNamed.{with_named, files_named}
use Rattle.outside_mem.specs.Image.{settled_at, unsettled, names_of, chosen, is_among, IsImage, as_file, files_named_in, image_after, image_of}

-- the files of publishes, put in one after another, are the publishes one after another
pub fold_files : (m : Files) (ps : List Published) → fold with_named m (map as_file ps) ≡ fold with_publish m ps
fold_files m ps = fold-map with_named as_file m ps

-- ---- what stands under one name after some of the publishes

by_equal : (r : Ordering) → is_eq r ≡ true → r ≡ Equal
by_equal Less e = cc
by_equal Equal e = refl
by_equal Greater e = cc

-- names that the order doesn't tell apart are the same
same_name : (a b : List ℕ) → eq_by_cmp (slice_cmp nat_cmp) a b ≡ true → a ≡ b
same_name a b e = slice_cmp-IsAntisymmetric nat_cmp-IsAntisymmetric a b (by_equal (slice_cmp nat_cmp a b) e)

-- after a publish its own name has its bytes, and every other name what it had
one_publish : (m : Files) (p : Published) (q : List ℕ) → file_at (with_publish m p) q ≡ cond (eq_by_cmp (slice_cmp nat_cmp) q p.name) (Some p.bytes) (file_at m q)
one_publish m p q = get-insert nat_list_cmp_total m p.name p.bytes q

-- a publish of another name changes nothing here
other_publish : (keep : List ℕ → Bool) (b : Bool) (m : Files) (p : Published) (q : List ℕ) → keep q ≡ b → (keep p.name ≡ b → T false) → file_at (with_publish m p) q ≡ file_at m q
other_publish keep b m p q here there =
    let by : (c : Bool) → eq_by_cmp (slice_cmp nat_cmp) q p.name ≡ c → cond c (Some p.bytes) (file_at m q) ≡ file_at m q = λ c. elim c as (λ c. eq_by_cmp (slice_cmp nat_cmp) q p.name ≡ c → cond c (Some p.bytes) (file_at m q) ≡ file_at m q) [
      | true ↦ λ e. absurd (there (ap keep (sym (same_name q p.name e)) ∙ here))
      | false ↦ λ e. refl
    ] in
    one_publish m p q ∙ by _ refl

both_publish : (m n : Files) (p : Published) (q : List ℕ) → file_at m q ≡ file_at n q → file_at (with_publish m p) q ≡ file_at (with_publish n p) q
both_publish m n p q h = one_publish m p q ∙ ap (cond (eq_by_cmp (slice_cmp nat_cmp) q p.name) (Some p.bytes)) h ∙ sym (one_publish n p q)

not_both : (b : Bool) → b ≡ false → b ≡ true → T false
not_both b e f = absurd (subst (λ b. T b) (sym f ∙ e) tt)

-- the publishes whose names pass a test
abbrev pub kept : (List ℕ → Bool) → List Published → List Published
kept keep ps = filter (λ p. keep p.name) ps

one_kept : (keep : List ℕ → Bool) (b : Bool) (p : Published) (ps : List Published) → keep p.name ≡ b → kept keep (p ∷ ps) ≡ cond b (p ∷ kept keep ps) (kept keep ps)
one_kept keep b p ps e = ap (λ b. cond b (p ∷ kept keep ps) (kept keep ps)) e

-- under a name that passes stands what stands there after all of them
pub newest_value : (keep : List ℕ → Bool) (ps : List Published) (m n : Files) (q : List ℕ) → keep q ≡ true → file_at m q ≡ file_at n q
    → file_at (fold with_publish m (kept keep ps)) q ≡ file_at (fold with_publish n ps) q
newest_value keep [] m n q here h = h
newest_value keep (p ∷ ps) m n q here h =
    let by : (b : Bool) → keep p.name ≡ b → file_at (fold with_publish m (cond b (p ∷ kept keep ps) (kept keep ps))) q ≡ file_at (fold with_publish n (p ∷ ps)) q = λ b. elim b as (λ b. keep p.name ≡ b → file_at (fold with_publish m (cond b (p ∷ kept keep ps) (kept keep ps))) q ≡ file_at (fold with_publish n (p ∷ ps)) q) [
      | true ↦ λ e. newest_value keep ps (with_publish m p) (with_publish n p) q here (both_publish m n p q h)
      | false ↦ λ e. newest_value keep ps m (with_publish n p) q here (h ∙ sym (other_publish keep true n p q here (not_both _ e)))
    ] in
    ap (λ l. file_at (fold with_publish m l) q) (one_kept keep _ p ps refl) ∙ by _ refl

-- under a name that doesn't pass stands what stood there before
pub old_value : (keep : List ℕ → Bool) (ps : List Published) (m : Files) (q : List ℕ) → keep q ≡ false
    → file_at (fold with_publish m (kept keep ps)) q ≡ file_at m q
old_value keep [] m q here = refl
old_value keep (p ∷ ps) m q here =
    let by : (b : Bool) → keep p.name ≡ b → file_at (fold with_publish m (cond b (p ∷ kept keep ps) (kept keep ps))) q ≡ file_at m q = λ b. elim b as (λ b. keep p.name ≡ b → file_at (fold with_publish m (cond b (p ∷ kept keep ps) (kept keep ps))) q ≡ file_at m q) [
      | true ↦ λ e. old_value keep ps (with_publish m p) q here ∙ other_publish keep false m p q here (λ f. not_both _ f e)
      | false ↦ λ e. old_value keep ps m q here
    ] in
    ap (λ l. file_at (fold with_publish m l) q) (one_kept keep _ p ps refl) ∙ by _ refl

-- ---- images

-- the publishes up to a moment are the settled ones and those after them
parted : {A : Type 0} (low high : ℕ) (xs : List A) → low ≤ high → take high xs ≡ take low xs ++ drop low (take high xs)
parted zero high xs h = refl
parted (suc low) zero xs h = absurd (omega (h, arith))
parted (suc low) (suc high) [] h = refl
parted (suc low) (suc high) (x ∷ xs) h = ap (λ l. x ∷ l) (parted low high xs (omega (h, arith)))

-- the files after a moment, from those that were settled
after_moment : (told : ShelfTold) (settled moment : ℕ) → settled ≤ moment → files_after told moment ≡ fold with_publish (files_after told settled) (unsettled told settled moment)
after_moment told settled moment h =
    ap (fold with_publish told.opening) (parted settled moment told.publishes h)
    ∙ fold-append with_publish told.opening (take settled told.publishes) (unsettled told settled moment)

-- what is made is an image
pub made_image : (told : ShelfTold) (settled moment : ℕ) (newest : List Bool) → settled ≤ moment → IsImage told settled moment newest (image_of told settled moment newest)
made_image told settled moment newest h q =
    let later = unsettled told settled moment in
    let keep = is_among (chosen (names_of later) newest) in
    let start = files_after told settled in
    let by : (b : Bool) → keep q ≡ b → file_at (fold with_publish start (kept keep later)) q ≡ (if b then file_at (files_after told moment) q else file_at start q) = λ b. elim b as (λ b. keep q ≡ b → file_at (fold with_publish start (kept keep later)) q ≡ (if b then file_at (files_after told moment) q else file_at start q)) [
      | true ↦ λ e. newest_value keep later start start q e refl ∙ ap (λ m. file_at m q) (sym (after_moment told settled moment h))
      | false ↦ λ e. old_value keep later start q e
    ] in
    by _ refl

-- each name of an image has a value that it had since the settled ones
pub image_stands : (told : ShelfTold) (settled moment : ℕ) (newest : List Bool) (c : Files) → settled ≤ moment → IsImage told settled moment newest c → Standing told settled moment c
image_stands told settled moment newest c h is q =
    let by : (b : Bool) → file_at c q ≡ (if b then file_at (files_after told moment) q else file_at (files_after told settled) q) → (count : ℕ) × (settled ≤ count) × (count ≤ moment) × (file_at c q ≡ file_at (files_after told count) q) = λ b. elim b as (λ b. file_at c q ≡ (if b then file_at (files_after told moment) q else file_at (files_after told settled) q) → (count : ℕ) × (settled ≤ count) × (count ≤ moment) × (file_at c q ≡ file_at (files_after told count) q)) [
      | true ↦ λ e. (moment, h, omega arith, e)
      | false ↦ λ e. (settled, omega arith, h, e)
    ] in
    by _ (is q)

-- ---- the numbers of settled publishes

-- what is read of a list with one item more
one_read : (dates : List ℕ) (date at n : ℕ) → get_or dates at 0 ≤ n → (length dates ≤ at → date ≤ n) → get_or (dates ++ date ∷ []) at 0 ≤ n
one_read [] date zero n h last = last (omega arith)
one_read [] date (suc at) n h last = omega arith
one_read (x ∷ xs) date zero n h last = h
one_read (x ∷ xs) date (suc at) n h last = one_read xs date at n h (λ l. last (omega (l, arith)))

-- one more number, that of the last moment
pub one_date : (dates : List ℕ) (date : ℕ) → ((moment : ℕ) → settled_at dates moment ≤ moment) → date ≤ length dates → (moment : ℕ) → settled_at (dates ++ date ∷ []) moment ≤ moment
one_date dates date early within zero = omega arith
one_date dates date early within (suc at) = one_read dates date at (suc at) (early (suc at)) (λ l. omega (l, within, arith))

-- ---- the files of an image as a list

-- the names of publishes are those of their files
pub names_same : (ps : List Published) → finite.keys (files_named (map as_file ps)) ≡ names_of ps
names_same ps = ap finite.keys (fold_files finite.empty ps)

one_file : (names : List (List ℕ)) (b : Bool) (p : Published) (ps : List Published) → (if b then as_file p ∷ [] else []) ++ map as_file ps ≡ map as_file (cond b (p ∷ ps) ps)
one_file names true p ps = refl
one_file names false p ps = refl

-- the files with such names are those of the publishes with such names
named_in : (names : List (List ℕ)) (ps : List Published) → files_named_in names ps ≡ map as_file (kept (is_among names) ps)
named_in names [] = refl
named_in names (p ∷ ps) = ap (λ l. (if is_among names p.name then as_file p ∷ [] else []) ++ l) (named_in names ps) ∙ one_file names (is_among names p.name) p (kept (is_among names) ps)

-- given files, those of publishes, and those of other publishes with such names, put in one after another
pub named_parts : (given : List MemFile) (xs ys : List Published) (names : List (List ℕ)) → files_named ((given ++ map as_file xs) ++ files_named_in names ys)
    ≡ fold with_publish (fold with_publish (files_named given) xs) (kept (is_among names) ys)
named_parts given xs ys names =
    fold-append with_named _ (given ++ map as_file xs) (files_named_in names ys)
    ∙ ap (fold with_named (files_named (given ++ map as_file xs))) (named_in names ys)
    ∙ fold_files (files_named (given ++ map as_file xs)) (kept (is_among names) ys)
    ∙ ap (λ m. fold with_publish m (kept (is_among names) ys)) (fold-append with_named _ given (map as_file xs) ∙ fold_files (files_named given) xs)

-- ---- which names are chosen

none_chosen : (names : List (List ℕ)) → chosen names [] ≡ []
none_chosen [] = refl
none_chosen (n ∷ names) = refl

-- where one list has ended, no more are chosen
pub chosen_end : (names : List (List ℕ)) (newest : List Bool) (at : ℕ) → length newest ≤ at → chosen (drop at names) (drop at newest) ≡ []
chosen_end [] [] zero h = refl
chosen_end [] [] (suc at) h = refl
chosen_end [] (b ∷ newest) zero h = refl
chosen_end [] (b ∷ newest) (suc at) h = refl
chosen_end (n ∷ names) [] zero h = refl
chosen_end (n ∷ names) [] (suc at) h = none_chosen (drop at names)
chosen_end (n ∷ names) (b ∷ newest) zero h = absurd (omega (h, arith))
chosen_end (n ∷ names) (b ∷ newest) (suc at) h = chosen_end names newest at (omega (h, arith))

pub chosen_past : (names : List (List ℕ)) (newest : List Bool) (at : ℕ) → length names ≤ at → chosen (drop at names) (drop at newest) ≡ []
chosen_past [] newest zero h = refl
chosen_past [] newest (suc at) h = refl
chosen_past (n ∷ names) newest zero h = absurd (omega (h, arith))
chosen_past (n ∷ names) [] (suc at) h = none_chosen (drop at names)
chosen_past (n ∷ names) (b ∷ newest) (suc at) h = chosen_past names newest at (omega (h, arith))

-- one name more
chosen_next : (names : List (List ℕ)) (newest : List Bool) (at : ℕ) (name : List ℕ) (b : Bool) → at < length names → at < length newest
    → chosen (drop at names) (drop at newest) ≡ (if get_or newest at b then get_or names at name ∷ [] else []) ++ chosen (drop (suc at) names) (drop (suc at) newest)
chosen_next [] newest at name b h k = absurd (omega (h, arith))
chosen_next (n ∷ names) [] at name b h k = absurd (omega (k, arith))
chosen_next (n ∷ names) (true ∷ newest) zero name b h k = refl
chosen_next (n ∷ names) (false ∷ newest) zero name b h k = refl
chosen_next (n ∷ names) (c ∷ newest) (suc at) name b h k = chosen_next names newest at name b (omega (h, arith)) (omega (k, arith))

pub chosen_more : (names : List (List ℕ)) (newest : List Bool) (at : ℕ) (name : List ℕ) (b : Bool) → at < length names → at < length newest
    → chosen (drop at names) (drop at newest) ≡ (if get_or newest at b then get_or names at name ∷ [] else []) ++ chosen (drop (at + 1) names) (drop (at + 1) newest)
chosen_more names newest at name b h k =
    let e : suc at ≡ at + 1 = omega arith in
    subst (λ n. chosen (drop at names) (drop at newest) ≡ (if get_or newest at b then get_or names at name ∷ [] else []) ++ chosen (drop n names) (drop n newest)) e (chosen_next names newest at name b h k)

-- nothing more behind a list
pub nothing_more : {A : Type 0} (xs rest : List A) → rest ≡ [] → xs ≡ xs ++ rest
nothing_more [] rest e = sym e
nothing_more (x ∷ xs) rest e = ap (λ l. x ∷ l) (nothing_more xs rest e)

-- ---- the number of a moment

-- without publishes no number is above its moment
pub no_dates : (moment : ℕ) → settled_at [] moment ≤ moment
no_dates zero = omega arith
no_dates (suc before) = omega arith

-- behind the opening it is that of the publish just before
pub read_date : (dates : List ℕ) (moment : ℕ) → 0 < moment → get_or dates (moment - 1) 0 ≡ settled_at dates moment
read_date dates zero h = absurd (omega (h, arith))
read_date dates (suc before) h =
    let e : suc before - 1 ≡ before = omega arith in
    ap (λ n. get_or dates n 0) e

-- ---- one publish more of those with such names

joined : {A : Type 0} (xs ys zs : List A) → (xs ++ ys) ++ zs ≡ xs ++ (ys ++ zs)
joined [] ys zs = refl
joined (x ∷ xs) ys zs = ap (λ l. x ∷ l) (joined xs ys zs)

pub named_next : (names : List (List ℕ)) (ps : List Published) (i : ℕ) (p : Published) (before after whole : List MemFile) → i < length ps → p ≡ get_or ps i p
    → after ≡ before ++ (if is_among names p.name then as_file p ∷ [] else []) → before ++ files_named_in names (drop i ps) ≡ whole → after ++ files_named_in names (drop (i + 1) ps) ≡ whole
named_next names ps i p before after whole low is added so =
    let one : i + 1 ≡ suc i = omega arith in
    ap (λ k. after ++ files_named_in names (drop k ps)) one
    ∙ ap (λ l. l ++ files_named_in names (drop (suc i) ps)) added
    ∙ joined before (if is_among names p.name then as_file p ∷ [] else []) (files_named_in names (drop (suc i) ps))
    ∙ ap (λ l. before ++ files_named_in names l) (sym (drop-cons ps i p low ∙ ap (λ x. x ∷ drop (suc i) ps) (sym is)))
    ∙ so

-- the files that an image is made of, step by step
pub made_files : (given : List MemFile) (settled later : List Published) (newest : List Bool) (start first all : List MemFile) (names : List (List ℕ))
    → start ≡ given → first ≡ start ++ map as_file settled → names ≡ chosen (names_of later) newest → all ≡ first ++ files_named_in names later
    → files_named all ≡ image_after (fold with_publish (files_named given) settled) later newest
made_files given settled later newest start first all names start_is first_is names_is all_is =
    let begun : first ≡ given ++ map as_file settled = first_is ∙ ap (λ s. s ++ map as_file settled) start_is in
    ap files_named (all_is ∙ ap (λ f. f ++ files_named_in names later) begun ∙ ap (λ n. (given ++ map as_file settled) ++ files_named_in n later) names_is)
    ∙ named_parts given settled later (chosen (names_of later) newest)

-- the settled publishes stand at the front of those up to a moment
pub settled_part : {A : Type 0} (low high : ℕ) (xs : List A) → low ≤ high → take low (take high xs) ≡ take low xs
settled_part zero high xs h = refl
settled_part (suc low) zero xs h = absurd (omega (h, arith))
settled_part (suc low) (suc high) [] h = refl
settled_part (suc low) (suc high) (x ∷ xs) h = ap (λ l. x ∷ l) (settled_part low high xs (omega (h, arith)))

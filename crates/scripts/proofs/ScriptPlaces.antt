-- What is left of a script from a place on.
use Rattle.std.proofs.Common.{◌≡◌, ℕ, zero, suc, ◌+◌, ◌-◌, ◌<◌, ◌≤◌, Bool, true, false, List, [], ◌∷◌, ◌++◌, length, drop, get_or, find, slice_get, Option, Some, None, refl, arith, sym, ap, subst, ◌∙◌, if◌then◌else◌}
use Rattle.std.specs.List.{list_all}
use Rattle.std.specs.Option.{option_map_or}
use Rattle.std.proofs.lemmas.List.{at_drop_all, at_drop_more}
use Rattle.std.proofs.lemmas.List.Folds.{find-append}
use Rattle.build_core.specs.Locks.{below}
use Rattle.build_core.specs.declared.mode.Mode.TheVariants.{Shared, Exclusive}
use Rattle.scripts.specs.declared.outline.ModuleOutline.{ModuleOutline}
use Rattle.scripts.specs.declared.script_place.ScriptPlace.TheVariants as place
use Rattle.scripts.specs.Scripts.{Script, Step, answers, choice_script, fetches, frees, install_script, is_there, lock_script, may_publish, own_script, read_script, reads, release_script, script_of, settled, step, steps, takes, whole}
use Rattle.scripts.specs.ScriptPlaces.{own_from, rest_of}

pub steps_end : (stage : ℕ) (f : ℕ → Step) (xs : List ℕ) (i : ℕ) (rest : Script) → length xs ≤ i → steps stage f (drop i xs) rest ≡ rest
steps_end stage f xs i rest far = at_drop_all (λ t. steps stage f t rest) xs i far

pub steps_at : (stage : ℕ) (f : ℕ → Step) (xs : List ℕ) (i : ℕ) (rest : Script) → i < length xs → steps stage f (drop i xs) rest ≡ step stage (f (get_or xs i 0)) (steps stage f (drop (i + 1) xs) rest)
steps_at stage f xs i rest low = at_drop_more (λ t. steps stage f t rest) xs i 0 low

pub length_below : (n : ℕ) → length (below n) ≡ n
length_below zero = refl
length_below (suc n) = more (below n) n ∙ ap suc (length_below n)
  where
    more : (xs : List ℕ) (x : ℕ) → length (xs ++ x ∷ []) ≡ suc (length xs)
    more [] x = refl
    more (y ∷ xs) x = ap suc (more xs x)

-- ---- the places behind a list's end

pub answering_end : (m : ModuleOutline) (i : ℕ) → m.goals ≤ i → rest_of m (place.Answering i) ≡ rest_of m place.Securing
unfolding rest_of
answering_end m i far = steps_end 5 answers (below m.goals) i (install_script m) (omega (arith, far, length_below m.goals))

pub reading_end : (m : ModuleOutline) (i : ℕ) → length m.reads ≤ i → rest_of m (place.Reading i) ≡ rest_of m place.Releasing
unfolding rest_of
reading_end m i far = steps_end 4 reads m.reads i (release_script m) far

pub fetching_end : (m : ModuleOutline) (i : ℕ) → length m.fetch ≤ i → rest_of m (place.Fetching i) ≡ rest_of m (place.Reading 0)
unfolding rest_of
fetching_end m i far = steps_end 3 fetches m.fetch i (read_script m) far

pub locking_end : (m : ModuleOutline) (i : ℕ) → length m.batch ≤ i → rest_of m (place.Locking i) ≡ rest_of m (place.Fetching 0)
unfolding rest_of
locking_end m i far = steps_end 3 (takes Exclusive) m.batch i (steps 3 fetches m.fetch (read_script m)) far

-- ---- what is settled

settled_installing : (m : ModuleOutline) (there : List Bool) (empty : Bool) → settled there empty (install_script m) ≡ install_script m
settled_installing m there empty = by m.installs
  where
    by : (b : Bool) → settled there empty (if b then step 6 (takes Exclusive m.own_name) (own_script m.own) else whole) ≡ (if b then step 6 (takes Exclusive m.own_name) (own_script m.own) else whole)
    by true = refl
    by false = refl

settled_answers : (m : ModuleOutline) (there : List Bool) (empty : Bool) (xs : List ℕ) → settled there empty (steps 5 answers xs (install_script m)) ≡ steps 5 answers xs (install_script m)
settled_answers m there empty [] = settled_installing m there empty
settled_answers m there empty (x ∷ xs) = refl

pub answering_stays : (m : ModuleOutline) (there : List Bool) (empty : Bool) (i : ℕ) → settled there empty (rest_of m (place.Answering i)) ≡ rest_of m (place.Answering i)
unfolding rest_of
answering_stays m there empty i = settled_answers m there empty (drop i (below m.goals))

pub securing_stays : (m : ModuleOutline) (there : List Bool) (empty : Bool) → settled there empty (rest_of m place.Securing) ≡ rest_of m place.Securing
unfolding rest_of
securing_stays m there empty = settled_installing m there empty

pub release_empty : (m : ModuleOutline) (there : List Bool) (empty : Bool) → empty ≡ true → settled there empty (rest_of m place.Releasing) ≡ rest_of m (place.Answering 0)
unfolding rest_of
release_empty m there empty e = ap (λ b. settled there b (release_script m)) e ∙ settled_answers m there true (below m.goals)

pub release_held : (m : ModuleOutline) (there : List Bool) (empty : Bool) → empty ≡ false → settled there empty (rest_of m place.Releasing) ≡ rest_of m place.Releasing
unfolding rest_of
release_held m there empty e = rw e refl

pub read_more : (m : ModuleOutline) (there : List Bool) (empty : Bool) (i : ℕ) → i < length m.reads → settled there empty (rest_of m (place.Reading i)) ≡ rest_of m (place.Reading i)
unfolding rest_of
read_more m there empty i low = let e = steps_at 4 reads m.reads i (release_script m) low in ap (settled there empty) e ∙ sym e

pub read_end : (m : ModuleOutline) (there : List Bool) (empty : Bool) (i : ℕ) → length m.reads ≤ i → settled there empty (rest_of m (place.Reading i)) ≡ settled there empty (rest_of m place.Releasing)
read_end m there empty i far = ap (settled there empty) (reading_end m i far)

pub lock_more : (m : ModuleOutline) (there : List Bool) (empty : Bool) (i : ℕ) → i < length m.batch → settled there empty (rest_of m (place.Locking i)) ≡ rest_of m (place.Locking i)
unfolding rest_of
lock_more m there empty i low = let e = steps_at 3 (takes Exclusive) m.batch i (steps 3 fetches m.fetch (read_script m)) low in ap (settled there empty) e ∙ sym e

pub lock_end : (m : ModuleOutline) (there : List Bool) (empty : Bool) (i : ℕ) → length m.batch ≤ i → settled there empty (rest_of m (place.Locking i)) ≡ settled there empty (rest_of m (place.Fetching 0))
lock_end m there empty i far = ap (settled there empty) (locking_end m i far)

pub free_empty : (m : ModuleOutline) (there : List Bool) (empty : Bool) → empty ≡ true → settled there empty (rest_of m place.Unsharing) ≡ settled there empty (rest_of m (place.Locking 0))
unfolding rest_of
free_empty m there empty e = ap (λ b. settled there b (step 3 frees (lock_script m))) e ∙ sym (ap (λ b. settled there b (lock_script m)) e)

pub free_held : (m : ModuleOutline) (there : List Bool) (empty : Bool) → empty ≡ false → settled there empty (rest_of m place.Unsharing) ≡ rest_of m place.Unsharing
unfolding rest_of
free_held m there empty e = rw e refl

pub share_more : (m : ModuleOutline) (there : List Bool) (empty : Bool) (i : ℕ) → i < length m.batch → settled there empty (rest_of m (place.Sharing i)) ≡ rest_of m (place.Sharing i)
unfolding rest_of
share_more m there empty i low = let e = steps_at 2 (takes Shared) m.batch i (choice_script m) low in ap (settled there empty) e ∙ sym e

share_choice : (m : ModuleOutline) (there : List Bool) (empty : Bool) (i : ℕ) → length m.batch ≤ i → settled there empty (rest_of m (place.Sharing i)) ≡ settled there empty (choice_script m)
unfolding rest_of
share_choice m there empty i far = ap (settled there empty) (steps_end 2 (takes Shared) m.batch i (choice_script m) far)

pub share_there : (m : ModuleOutline) (there : List Bool) (empty : Bool) (i : ℕ) → length m.batch ≤ i → list_all (is_there there) m.fetch ≡ true → settled there empty (rest_of m (place.Sharing i)) ≡ settled there empty (rest_of m (place.Reading 0))
unfolding rest_of
share_there m there empty i far e = share_choice m there empty i far ∙ rw e refl

pub share_absent : (m : ModuleOutline) (there : List Bool) (empty : Bool) (i : ℕ) → length m.batch ≤ i → list_all (is_there there) m.fetch ≡ false → settled there empty (rest_of m (place.Sharing i)) ≡ settled there empty (rest_of m place.Unsharing)
unfolding rest_of
share_absent m there empty i far e = share_choice m there empty i far ∙ rw e refl

own_stays : (own : List ℕ) (there : List Bool) (empty : Bool) (i : ℕ) → i < length own → settled there empty (own_from i own) ≡ own_from i own
own_stays [] there empty i low = absurd (omega (arith, low))
own_stays (pom ∷ own) there empty zero low = refl
own_stays (pom ∷ own) there empty (suc i) low = let e = steps_at 6 may_publish own i (step 6 frees whole) (omega (arith, low)) in ap (settled there empty) e ∙ sym e

own_held : (own : List ℕ) (there : List Bool) (i : ℕ) → settled there false (own_from i own) ≡ own_from i own
own_held [] there zero = refl
own_held (pom ∷ own) there zero = refl
own_held own there (suc i) = by (drop (suc i) own)
  where
    by : (xs : List ℕ) → settled there false (steps 6 may_publish xs (step 6 frees whole)) ≡ steps 6 may_publish xs (step 6 frees whole)
    by [] = refl
    by (x ∷ xs) = refl

pub own_end : (own : List ℕ) (i : ℕ) → length own ≤ i → own_from i own ≡ step 6 frees whole
own_end [] zero far = refl
own_end (pom ∷ own) zero far = absurd (omega (arith, far))
own_end own (suc i) far = steps_end 6 may_publish own (suc i) (step 6 frees whole) far

pub install_more : (m : ModuleOutline) (there : List Bool) (empty : Bool) (i : ℕ) → i < length m.own → settled there empty (rest_of m (place.Installing i)) ≡ rest_of m (place.Installing i)
unfolding rest_of
install_more m there empty i low = own_stays m.own there empty i low

pub install_held : (m : ModuleOutline) (there : List Bool) (empty : Bool) (i : ℕ) → empty ≡ false → settled there empty (rest_of m (place.Installing i)) ≡ rest_of m (place.Installing i)
unfolding rest_of
install_held m there empty i e = rw e (own_held m.own there i)

pub install_end : (m : ModuleOutline) (there : List Bool) (empty : Bool) (i : ℕ) → length m.own ≤ i → empty ≡ true → settled there empty (rest_of m (place.Installing i)) ≡ rest_of m place.Whole
unfolding rest_of
install_end m there empty i far e = rw e (ap (settled there true) (own_end m.own i far))

-- ---- files that are there

pub pass_over : (there : List Bool) (files : List ℕ) (i : ℕ) → i < length files → is_there there (get_or files i 0) ≡ true → (empty : Bool) (rest : Script) → settled there empty (steps 3 fetches (drop (i + 1) files) rest) ≡ settled there empty (steps 3 fetches (drop i files) rest)
pass_over there files i low is empty rest = sym (ap (settled there empty) (steps_at 3 fetches files i rest low) ∙ rw is refl)

pub stop_over : (there : List Bool) (files : List ℕ) (i : ℕ) → i < length files → is_there there (get_or files i 0) ≡ false → (empty : Bool) (rest : Script) → steps 3 fetches (drop i files) rest ≡ settled there empty (steps 3 fetches (drop i files) rest)
stop_over there files i low is empty rest = let e = steps_at 3 fetches files i rest low in e ∙ sym (ap (settled there empty) e ∙ rw is refl)

pub none_over : (there : List Bool) (files : List ℕ) (i : ℕ) → length files ≤ i → (empty : Bool) (rest : Script) → settled there empty rest ≡ settled there empty (steps 3 fetches (drop i files) rest)
none_over there files i far empty rest = ap (settled there empty) (sym (steps_end 3 fetches files i rest far))

pub all_more : (p : ℕ → Bool) (files : List ℕ) (i : ℕ) → i < length files → p (get_or files i 0) ≡ true → list_all p (drop (i + 1) files) ≡ list_all p (drop i files)
all_more p files i low is = sym (at_drop_more (list_all p) files i 0 low ∙ rw is refl)

pub all_stop : (p : ℕ → Bool) (files : List ℕ) (i : ℕ) → i < length files → p (get_or files i 0) ≡ false → list_all p (drop i files) ≡ false
all_stop p files i low is = at_drop_more (list_all p) files i 0 low ∙ rw is refl

pub all_end : (p : ℕ → Bool) (files : List ℕ) (i : ℕ) → length files ≤ i → list_all p (drop i files) ≡ true
all_end p files i far = at_drop_all (list_all p) files i far

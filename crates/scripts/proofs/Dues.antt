-- Which deeds are due at a place.
use Rattle.std.proofs.Common.{◌≡◌, ◌≢◌, ℕ, zero, suc, ◌+◌, ◌<◌, ◌≤◌, ◌⊎◌, inl, inr, true, false, nat_eq, List, [], ◌∷◌, ◌++◌, length, drop, get_or, Some, None, refl, arith, sym, ap, subst, ◌∙◌, if◌then◌else◌}
use Rattle.build_core.specs.Locks.{below}
use Rattle.build_core.specs.declared.mode.Mode.{Mode}
use Rattle.build_core.specs.declared.mode.Mode.TheVariants.{Shared, Exclusive}
use Rattle.scripts.specs.declared.outline.ModuleOutline.{ModuleOutline}
use Rattle.scripts.specs.declared.deed.Deed.{Deed}
use Rattle.scripts.specs.declared.deed.Deed.TheVariants as deed
use Rattle.scripts.specs.declared.script_place.ScriptPlace.{ScriptPlace}
use Rattle.scripts.specs.declared.script_place.ScriptPlace.TheVariants as place
use Rattle.scripts.specs.Scripts.{Script, answers, choice_script, done, fetches, frees, install_script, may_publish, own_script, read_script, reads, release_script, step, steps, takes, whole}
use Rattle.scripts.specs.ScriptPlaces.{IsPlaced, own_from, rest_of}
use Rattle.scripts.proofs.ScriptPlaces.{length_below, own_end, steps_at, steps_end}

pub below_or_not : (a b : ℕ) → (a < b) ⊎ (b ≤ a)
below_or_not zero zero = inr (omega arith)
below_or_not zero (suc b) = inl (omega arith)
below_or_not (suc a) zero = inr (omega arith)
below_or_not (suc a) (suc b) = by (below_or_not a b)
  where
    by : (a < b) ⊎ (b ≤ a) → (suc a < suc b) ⊎ (suc b ≤ suc a)
    by (inl less) = inl (omega (arith, less))
    by (inr more) = inr (omega (arith, more))

-- ---- names

share_beyond : (m : ModuleOutline) (i : ℕ) (mode : Mode) (name : ℕ) → length m.batch ≤ i → done (rest_of m (place.Sharing i)) (deed.Take mode name) ≡ None
unfolding rest_of
share_beyond m i mode name far = ap (λ s. done s (deed.Take mode name)) (steps_end 2 (takes Shared) m.batch i (choice_script m) far)

pub share_here : (m : ModuleOutline) (i : ℕ) (d : Deed) → i < length m.batch → done (rest_of m (place.Sharing i)) d ≡ done (step 2 (takes Shared (get_or m.batch i 0)) (rest_of m (place.Sharing (i + 1)))) d
unfolding rest_of
share_here m i d low = ap (λ s. done s d) (steps_at 2 (takes Shared) m.batch i (choice_script m) low)

pub share_yes : (m : ModuleOutline) (i name : ℕ) → i < length m.batch → nat_eq name (get_or m.batch i 0) ≡ true → Some (rest_of m (place.Sharing (i + 1))) ≡ done (rest_of m (place.Sharing i)) (deed.Take Shared name)
share_yes m i name low is = sym (share_here m i (deed.Take Shared name) low ∙ rw is refl)

pub share_no : (m : ModuleOutline) (i name : ℕ) → (i < length m.batch → nat_eq name (get_or m.batch i 0) ≡ false) → None ≡ done (rest_of m (place.Sharing i)) (deed.Take Shared name)
share_no m i name isnt = by (below_or_not i (length m.batch))
  where
    by : (i < length m.batch) ⊎ (length m.batch ≤ i) → None ≡ done (rest_of m (place.Sharing i)) (deed.Take Shared name)
    by (inl low) = sym (share_here m i (deed.Take Shared name) low ∙ rw (isnt low) refl)
    by (inr far) = sym (share_beyond m i Shared name far)

pub share_other : (m : ModuleOutline) (i name : ℕ) → None ≡ done (rest_of m (place.Sharing i)) (deed.Take Exclusive name)
share_other m i name = by (below_or_not i (length m.batch))
  where
    by : (i < length m.batch) ⊎ (length m.batch ≤ i) → None ≡ done (rest_of m (place.Sharing i)) (deed.Take Exclusive name)
    by (inl low) = sym (share_here m i (deed.Take Exclusive name) low)
    by (inr far) = sym (share_beyond m i Exclusive name far)

pub lock_here : (m : ModuleOutline) (i : ℕ) (d : Deed) → i < length m.batch → done (rest_of m (place.Locking i)) d ≡ done (step 3 (takes Exclusive (get_or m.batch i 0)) (rest_of m (place.Locking (i + 1)))) d
unfolding rest_of
lock_here m i d low = ap (λ s. done s d) (steps_at 3 (takes Exclusive) m.batch i (steps 3 fetches m.fetch (read_script m)) low)

pub lock_yes : (m : ModuleOutline) (i name : ℕ) → i < length m.batch → nat_eq name (get_or m.batch i 0) ≡ true → Some (rest_of m (place.Locking (i + 1))) ≡ done (rest_of m (place.Locking i)) (deed.Take Exclusive name)
lock_yes m i name low is = sym (lock_here m i (deed.Take Exclusive name) low ∙ rw is refl)

pub lock_no : (m : ModuleOutline) (i name : ℕ) → i < length m.batch → nat_eq name (get_or m.batch i 0) ≡ false → None ≡ done (rest_of m (place.Locking i)) (deed.Take Exclusive name)
lock_no m i name low isnt = sym (lock_here m i (deed.Take Exclusive name) low ∙ rw isnt refl)

pub lock_other : (m : ModuleOutline) (i name : ℕ) → i < length m.batch → None ≡ done (rest_of m (place.Locking i)) (deed.Take Shared name)
lock_other m i name low = sym (lock_here m i (deed.Take Shared name) low)

pub own_here : (m : ModuleOutline) (d : Deed) → m.installs ≡ true → done (rest_of m place.Securing) d ≡ done (step 6 (takes Exclusive m.own_name) (rest_of m (place.Installing 0))) d
unfolding rest_of
own_here m d is = ap (λ b. done (if b then step 6 (takes Exclusive m.own_name) (own_script m.own) else whole) d) is

pub own_yes : (m : ModuleOutline) (name : ℕ) → m.installs ≡ true → nat_eq name m.own_name ≡ true → Some (rest_of m (place.Installing 0)) ≡ done (rest_of m place.Securing) (deed.Take Exclusive name)
own_yes m name installs is = sym (own_here m (deed.Take Exclusive name) installs ∙ rw is refl)

pub own_no : (m : ModuleOutline) (name : ℕ) → m.installs ≡ true → nat_eq name m.own_name ≡ false → None ≡ done (rest_of m place.Securing) (deed.Take Exclusive name)
own_no m name installs isnt = sym (own_here m (deed.Take Exclusive name) installs ∙ rw isnt refl)

pub own_other : (m : ModuleOutline) (name : ℕ) → m.installs ≡ true → None ≡ done (rest_of m place.Securing) (deed.Take Shared name)
own_other m name installs = sym (own_here m (deed.Take Shared name) installs)

-- ---- files and goals

read_here : (m : ModuleOutline) (i : ℕ) (d : Deed) → i < length m.reads → done (rest_of m (place.Reading i)) d ≡ done (step 4 (reads (get_or m.reads i 0)) (rest_of m (place.Reading (i + 1)))) d
unfolding rest_of
read_here m i d low = ap (λ s. done s d) (steps_at 4 reads m.reads i (release_script m) low)

pub read_yes : (m : ModuleOutline) (i file : ℕ) → i < length m.reads → nat_eq file (get_or m.reads i 0) ≡ true → Some (rest_of m (place.Reading (i + 1))) ≡ done (rest_of m (place.Reading i)) (deed.Read file)
read_yes m i file low is = sym (read_here m i (deed.Read file) low ∙ rw is refl)

pub read_no : (m : ModuleOutline) (i file : ℕ) → i < length m.reads → nat_eq file (get_or m.reads i 0) ≡ false → None ≡ done (rest_of m (place.Reading i)) (deed.Read file)
read_no m i file low isnt = sym (read_here m i (deed.Read file) low ∙ rw isnt refl)

fetch_here : (m : ModuleOutline) (i : ℕ) (d : Deed) → i < length m.fetch → done (rest_of m (place.Fetching i)) d ≡ done (step 3 (fetches (get_or m.fetch i 0)) (rest_of m (place.Fetching (i + 1)))) d
unfolding rest_of
fetch_here m i d low = ap (λ s. done s d) (steps_at 3 fetches m.fetch i (read_script m) low)

pub fetch_yes : (m : ModuleOutline) (i file : ℕ) → i < length m.fetch → nat_eq file (get_or m.fetch i 0) ≡ true → Some (rest_of m (place.Fetching (i + 1))) ≡ done (rest_of m (place.Fetching i)) (deed.Publish file)
fetch_yes m i file low is = sym (fetch_here m i (deed.Publish file) low ∙ rw is refl)

pub fetch_no : (m : ModuleOutline) (i file : ℕ) → i < length m.fetch → nat_eq file (get_or m.fetch i 0) ≡ false → None ≡ done (rest_of m (place.Fetching i)) (deed.Publish file)
fetch_no m i file low isnt = sym (fetch_here m i (deed.Publish file) low ∙ rw isnt refl)

get_front : (xs : List ℕ) (y i : ℕ) → i < length xs → get_or (xs ++ y ∷ []) i 0 ≡ get_or xs i 0
get_front [] y i low = absurd (omega (arith, low))
get_front (x ∷ xs) y zero low = refl
get_front (x ∷ xs) y (suc i) low = get_front xs y i (omega (arith, low))

get_last : (xs : List ℕ) (y : ℕ) → get_or (xs ++ y ∷ []) (length xs) 0 ≡ y
get_last [] y = refl
get_last (x ∷ xs) y = get_last xs y

get_below : (n i : ℕ) → i < n → get_or (below n) i 0 ≡ i
get_below zero i low = absurd (omega (arith, low))
get_below (suc n) i low = by (get_below n i) (below_or_not i n)
  where
    by : (i < n → get_or (below n) i 0 ≡ i) → (i < n) ⊎ (n ≤ i) → get_or (below n ++ n ∷ []) i 0 ≡ i
    by again (inl less) = get_front (below n) n i (omega (arith, less, length_below n)) ∙ again less
    by again (inr more) =
        let last : i ≡ n = omega (arith, more, low) in
        let at : length (below n) ≡ i = length_below n ∙ sym last in
        subst (λ k. get_or (below n ++ n ∷ []) k 0 ≡ n) at (get_last (below n) n) ∙ sym last

answer_here : (m : ModuleOutline) (i : ℕ) (d : Deed) → i < m.goals → done (rest_of m (place.Answering i)) d ≡ done (step 5 (answers i) (rest_of m (place.Answering (i + 1)))) d
unfolding rest_of
answer_here m i d low =
    ap (λ s. done s d) (steps_at 5 answers (below m.goals) i (install_script m) (omega (arith, low, length_below m.goals)))
    ∙ ap (λ g. done (step 5 (answers g) (rest_of m (place.Answering (i + 1)))) d) (get_below m.goals i low)

pub answer_yes : (m : ModuleOutline) (i goal : ℕ) → i < m.goals → nat_eq goal i ≡ true → Some (rest_of m (place.Answering (i + 1))) ≡ done (rest_of m (place.Answering i)) (deed.Answer goal)
answer_yes m i goal low is = sym (answer_here m i (deed.Answer goal) low ∙ rw is refl)

pub answer_no : (m : ModuleOutline) (i goal : ℕ) → i < m.goals → nat_eq goal i ≡ false → None ≡ done (rest_of m (place.Answering i)) (deed.Answer goal)
answer_no m i goal low isnt = sym (answer_here m i (deed.Answer goal) low ∙ rw isnt refl)

-- ---- own files

free_past : (xs : List ℕ) → done (steps 6 may_publish xs (step 6 frees whole)) deed.Free ≡ Some (step 6 frees whole)
free_past [] = refl
free_past (x ∷ xs) = free_past xs

own_freed_at : (own : List ℕ) (i : ℕ) → 0 < i → done (own_from i own) deed.Free ≡ Some (step 6 frees whole)
own_freed_at own zero above = absurd (omega (arith, above))
own_freed_at own (suc i) above = free_past (drop (suc i) own)

pub own_freed_yes : (m : ModuleOutline) (i : ℕ) → 0 < i → Some (rest_of m (place.Installing (length m.own))) ≡ done (rest_of m (place.Installing i)) deed.Free
unfolding rest_of
own_freed_yes m i above = ap (λ s. Some s) (own_end m.own (length m.own) (omega arith)) ∙ sym (own_freed_at m.own i above)

pub own_freed_none : (m : ModuleOutline) (i : ℕ) → m.own ≡ [] → Some (rest_of m (place.Installing (length m.own))) ≡ done (rest_of m (place.Installing i)) deed.Free
unfolding rest_of
own_freed_none m i none = subst (λ own. Some (own_from (length own) own) ≡ done (own_from i own) deed.Free) (sym none) (by i)
  where
    by : (i : ℕ) → Some (own_from 0 []) ≡ done (own_from i []) deed.Free
    by zero = refl
    by (suc i) = refl

pub own_freed_no : (m : ModuleOutline) (i : ℕ) → i ≡ 0 → m.own ≢ [] → None ≡ done (rest_of m (place.Installing i)) deed.Free
unfolding rest_of
own_freed_no m i first some_own = subst (λ k. None ≡ done (own_from k m.own) deed.Free) (sym first) (by m.own some_own)
  where
    by : (own : List ℕ) → own ≢ [] → None ≡ done (own_from 0 own) deed.Free
    by [] h = absurd (h refl)
    by (x ∷ own) h = refl

pub pom_yes : (m : ModuleOutline) (file : ℕ) → 0 < length m.own → nat_eq file (get_or m.own 0 0) ≡ true → Some (rest_of m (place.Installing 1)) ≡ done (rest_of m (place.Installing 0)) (deed.Publish file)
unfolding rest_of
pom_yes m file = by m.own
  where
    by : (own : List ℕ) → 0 < length own → nat_eq file (get_or own 0 0) ≡ true → Some (own_from 1 own) ≡ done (own_from 0 own) (deed.Publish file)
    by [] low is = absurd (omega (arith, low))
    by (x ∷ own) low is = sym (rw is refl)

pub pom_no : (m : ModuleOutline) (file : ℕ) → (0 < length m.own → nat_eq file (get_or m.own 0 0) ≡ false) → None ≡ done (rest_of m (place.Installing 0)) (deed.Publish file)
unfolding rest_of
pom_no m file = by m.own
  where
    by : (own : List ℕ) → (0 < length own → nat_eq file (get_or own 0 0) ≡ false) → None ≡ done (own_from 0 own) (deed.Publish file)
    by [] isnt = refl
    by (x ∷ own) isnt = sym (rw (isnt (omega arith)) refl)

own_from_more : (own : List ℕ) (i : ℕ) → own_from (i + 1) own ≡ steps 6 may_publish (drop (i + 1) own) (step 6 frees whole)
own_from_more own i = let e : suc i ≡ i + 1 = omega arith in subst (λ k. own_from k own ≡ steps 6 may_publish (drop k own) (step 6 frees whole)) e refl

own_from_behind : (own : List ℕ) (i : ℕ) → 0 < i → own_from i own ≡ steps 6 may_publish (drop i own) (step 6 frees whole)
own_from_behind own zero above = absurd (omega (arith, above))
own_from_behind own (suc i) above = refl

pub found_own : (m : ModuleOutline) (i j file : ℕ) → 0 < i
    → Some (steps 6 may_publish (drop (j + 1) m.own) (step 6 frees whole)) ≡ done (steps 6 may_publish (drop i m.own) (step 6 frees whole)) (deed.Publish file)
    → Some (rest_of m (place.Installing (j + 1))) ≡ done (rest_of m (place.Installing i)) (deed.Publish file)
unfolding rest_of
found_own m i j file above e = ap (λ s. Some s) (own_from_more m.own j) ∙ e ∙ sym (ap (λ s. done s (deed.Publish file)) (own_from_behind m.own i above))

pub no_own : (m : ModuleOutline) (i file : ℕ) → 0 < i
    → done (step 6 frees whole) (deed.Publish file) ≡ done (steps 6 may_publish (drop i m.own) (step 6 frees whole)) (deed.Publish file)
    → None ≡ done (rest_of m (place.Installing i)) (deed.Publish file)
unfolding rest_of
no_own m i file above e = e ∙ sym (ap (λ s. done s (deed.Publish file)) (own_from_behind m.own i above))

pub pass_own : (files : List ℕ) (i file : ℕ) → i < length files → nat_eq file (get_or files i 0) ≡ false → (rest : Script) → done (steps 6 may_publish (drop (i + 1) files) rest) (deed.Publish file) ≡ done (steps 6 may_publish (drop i files) rest) (deed.Publish file)
pass_own files i file low isnt rest = sym (ap (λ s. done s (deed.Publish file)) (steps_at 6 may_publish files i rest low) ∙ rw isnt refl)

pub stop_own : (files : List ℕ) (i file : ℕ) → i < length files → nat_eq file (get_or files i 0) ≡ true → (rest : Script) → Some (steps 6 may_publish (drop (i + 1) files) rest) ≡ done (steps 6 may_publish (drop i files) rest) (deed.Publish file)
stop_own files i file low is rest = sym (ap (λ s. done s (deed.Publish file)) (steps_at 6 may_publish files i rest low) ∙ rw is refl)

pub end_own : (files : List ℕ) (i file : ℕ) → length files ≤ i → (rest : Script) → done rest (deed.Publish file) ≡ done (steps 6 may_publish (drop i files) rest) (deed.Publish file)
end_own files i file far rest = ap (λ s. done s (deed.Publish file)) (sym (steps_end 6 may_publish files i rest far))

-- ---- deeds that aren't due at other places

own_past_take : (mode : Mode) (name : ℕ) (xs : List ℕ) → done (steps 6 may_publish xs (step 6 frees whole)) (deed.Take mode name) ≡ None
own_past_take mode name [] = refl
own_past_take mode name (x ∷ xs) = own_past_take mode name xs

own_take : (mode : Mode) (name : ℕ) (own : List ℕ) (i : ℕ) → done (own_from i own) (deed.Take mode name) ≡ None
own_take mode name [] zero = refl
own_take mode name (pom ∷ own) zero = own_pom
  where
    own_pom : done (own_script (pom ∷ own)) (deed.Take mode name) ≡ None
    own_pom = refl
own_take mode name own (suc i) = own_past_take mode name (drop (suc i) own)

pub not_take : (m : ModuleOutline) (mode : Mode) (name : ℕ) (s : ScriptPlace) → IsPlaced m s → ((k : ℕ) → s ≡ place.Sharing k → ⊥) → ((k : ℕ) → s ≡ place.Locking k → ⊥) → (s ≡ place.Securing → ⊥) → None ≡ done (rest_of m s) (deed.Take mode name)
unfolding rest_of
not_take m mode name (place.Sharing i) placed h0 h1 h2 = absurd (h0 i refl)
not_take m mode name place.Unsharing placed h0 h1 h2 = refl
not_take m mode name (place.Locking i) placed h0 h1 h2 = absurd (h1 i refl)
not_take m mode name (place.Fetching i) placed h0 h1 h2 = sym (fetch_here m i (deed.Take mode name) placed)
not_take m mode name (place.Reading i) placed h0 h1 h2 = sym (read_here m i (deed.Take mode name) placed)
not_take m mode name place.Releasing placed h0 h1 h2 = refl
not_take m mode name (place.Answering i) placed h0 h1 h2 = sym (answer_here m i (deed.Take mode name) placed)
not_take m mode name place.Securing placed h0 h1 h2 = absurd (h2 refl)
not_take m mode name (place.Installing i) placed h0 h1 h2 = sym (own_take mode name m.own i)
not_take m mode name place.Whole placed h0 h1 h2 = refl

share_free : (m : ModuleOutline) (xs : List ℕ) → done (steps 2 (takes Shared) xs (choice_script m)) deed.Free ≡ None
share_free m [] = refl
share_free m (x ∷ xs) = refl

pub not_free : (m : ModuleOutline) (s : ScriptPlace) → IsPlaced m s → (s ≡ place.Unsharing → ⊥) → (s ≡ place.Releasing → ⊥) → ((k : ℕ) → s ≡ place.Installing k → ⊥) → None ≡ done (rest_of m s) deed.Free
unfolding rest_of
not_free m (place.Sharing i) placed h0 h1 h2 = sym (share_free m (drop i m.batch))
not_free m place.Unsharing placed h0 h1 h2 = absurd (h0 refl)
not_free m (place.Locking i) placed h0 h1 h2 = sym (lock_here m i deed.Free placed)
not_free m (place.Fetching i) placed h0 h1 h2 = sym (fetch_here m i deed.Free placed)
not_free m (place.Reading i) placed h0 h1 h2 = sym (read_here m i deed.Free placed)
not_free m place.Releasing placed h0 h1 h2 = absurd (h1 refl)
not_free m (place.Answering i) placed h0 h1 h2 = sym (answer_here m i deed.Free placed)
not_free m place.Securing placed h0 h1 h2 = sym (own_here m deed.Free placed)
not_free m (place.Installing i) placed h0 h1 h2 = absurd (h2 i refl)
not_free m place.Whole placed h0 h1 h2 = refl

share_read : (m : ModuleOutline) (file : ℕ) (xs : List ℕ) → done (steps 2 (takes Shared) xs (choice_script m)) (deed.Read file) ≡ None
share_read m file [] = refl
share_read m file (x ∷ xs) = refl

own_past_read : (file : ℕ) (xs : List ℕ) → done (steps 6 may_publish xs (step 6 frees whole)) (deed.Read file) ≡ None
own_past_read file [] = refl
own_past_read file (x ∷ xs) = own_past_read file xs

own_read : (file : ℕ) (own : List ℕ) (i : ℕ) → done (own_from i own) (deed.Read file) ≡ None
own_read file [] zero = refl
own_read file (pom ∷ own) zero = own_pom
  where
    own_pom : done (own_script (pom ∷ own)) (deed.Read file) ≡ None
    own_pom = refl
own_read file own (suc i) = own_past_read file (drop (suc i) own)

pub not_read : (m : ModuleOutline) (file : ℕ) (s : ScriptPlace) → IsPlaced m s → ((k : ℕ) → s ≡ place.Reading k → ⊥) → None ≡ done (rest_of m s) (deed.Read file)
unfolding rest_of
not_read m file (place.Sharing i) placed h0 = sym (share_read m file (drop i m.batch))
not_read m file place.Unsharing placed h0 = refl
not_read m file (place.Locking i) placed h0 = sym (lock_here m i (deed.Read file) placed)
not_read m file (place.Fetching i) placed h0 = sym (fetch_here m i (deed.Read file) placed)
not_read m file (place.Reading i) placed h0 = absurd (h0 i refl)
not_read m file place.Releasing placed h0 = refl
not_read m file (place.Answering i) placed h0 = sym (answer_here m i (deed.Read file) placed)
not_read m file place.Securing placed h0 = sym (own_here m (deed.Read file) placed)
not_read m file (place.Installing i) placed h0 = sym (own_read file m.own i)
not_read m file place.Whole placed h0 = refl

share_publish : (m : ModuleOutline) (file : ℕ) (xs : List ℕ) → done (steps 2 (takes Shared) xs (choice_script m)) (deed.Publish file) ≡ None
share_publish m file [] = refl
share_publish m file (x ∷ xs) = refl

pub not_publish : (m : ModuleOutline) (file : ℕ) (s : ScriptPlace) → IsPlaced m s → ((k : ℕ) → s ≡ place.Fetching k → ⊥) → ((k : ℕ) → s ≡ place.Installing k → ⊥) → None ≡ done (rest_of m s) (deed.Publish file)
unfolding rest_of
not_publish m file (place.Sharing i) placed h0 h1 = sym (share_publish m file (drop i m.batch))
not_publish m file place.Unsharing placed h0 h1 = refl
not_publish m file (place.Locking i) placed h0 h1 = sym (lock_here m i (deed.Publish file) placed)
not_publish m file (place.Fetching i) placed h0 h1 = absurd (h0 i refl)
not_publish m file (place.Reading i) placed h0 h1 = sym (read_here m i (deed.Publish file) placed)
not_publish m file place.Releasing placed h0 h1 = refl
not_publish m file (place.Answering i) placed h0 h1 = sym (answer_here m i (deed.Publish file) placed)
not_publish m file place.Securing placed h0 h1 = sym (own_here m (deed.Publish file) placed)
not_publish m file (place.Installing i) placed h0 h1 = absurd (h1 i refl)
not_publish m file place.Whole placed h0 h1 = refl

share_answer : (m : ModuleOutline) (goal : ℕ) (xs : List ℕ) → done (steps 2 (takes Shared) xs (choice_script m)) (deed.Answer goal) ≡ None
share_answer m goal [] = refl
share_answer m goal (x ∷ xs) = refl

own_past_answer : (goal : ℕ) (xs : List ℕ) → done (steps 6 may_publish xs (step 6 frees whole)) (deed.Answer goal) ≡ None
own_past_answer goal [] = refl
own_past_answer goal (x ∷ xs) = own_past_answer goal xs

own_answer : (goal : ℕ) (own : List ℕ) (i : ℕ) → done (own_from i own) (deed.Answer goal) ≡ None
own_answer goal [] zero = refl
own_answer goal (pom ∷ own) zero = own_pom
  where
    own_pom : done (own_script (pom ∷ own)) (deed.Answer goal) ≡ None
    own_pom = refl
own_answer goal own (suc i) = own_past_answer goal (drop (suc i) own)

pub not_answer : (m : ModuleOutline) (goal : ℕ) (s : ScriptPlace) → IsPlaced m s → ((k : ℕ) → s ≡ place.Answering k → ⊥) → None ≡ done (rest_of m s) (deed.Answer goal)
unfolding rest_of
not_answer m goal (place.Sharing i) placed h0 = sym (share_answer m goal (drop i m.batch))
not_answer m goal place.Unsharing placed h0 = refl
not_answer m goal (place.Locking i) placed h0 = sym (lock_here m i (deed.Answer goal) placed)
not_answer m goal (place.Fetching i) placed h0 = sym (fetch_here m i (deed.Answer goal) placed)
not_answer m goal (place.Reading i) placed h0 = sym (read_here m i (deed.Answer goal) placed)
not_answer m goal place.Releasing placed h0 = refl
not_answer m goal (place.Answering i) placed h0 = absurd (h0 i refl)
not_answer m goal place.Securing placed h0 = sym (own_here m (deed.Answer goal) placed)
not_answer m goal (place.Installing i) placed h0 = sym (own_answer goal m.own i)
not_answer m goal place.Whole placed h0 = refl

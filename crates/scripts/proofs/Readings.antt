-- What a place says.
use Rattle.std.proofs.Common.{◌≡◌, ◌≢◌, ℕ, zero, suc, ◌+◌, ◌-◌, ◌<◌, Bool, true, false, nat_eq, List, [], ◌∷◌, length, drop, get_or, slice_get, Option, Some, None, option_and_then, refl, arith, sym, ap, ◌∙◌, if◌then◌else◌}
use Rattle.std.proofs.lemmas.Bool.{eqb-true}
use Rattle.std.proofs.lemmas.Cmp.{nat_eq_equiv}
use Rattle.build_core.specs.Locks.{below}
use Rattle.build_core.specs.declared.mode.Mode.TheVariants.{Shared, Exclusive}
use Rattle.scripts.specs.declared.outline.ModuleOutline.{ModuleOutline}
use Rattle.scripts.specs.declared.script_place.ScriptPlace.{ScriptPlace}
use Rattle.scripts.specs.declared.script_place.ScriptPlace.TheVariants as place
use Rattle.scripts.specs.Scripts.{Script, Step, answer_script, answers, answers_left, choice_script, fetches, frees, head, install_script, is_to_install, may_end, may_publish, own_script, published_by, publishes, read_by, read_script, reads, release_script, stage_of, step, steps, takes, wanted, whole}
use Rattle.scripts.specs.ScriptPlaces.{IsPlaced, is_to_install_at, is_unanswered_at, may_end_at, own_from, published_at, read_at, rest_of, stage_at, wanted_at}
use Rattle.scripts.proofs.ScriptPlaces.{length_below, steps_at}

-- a reading of each place, from that of the first step
module _ {A : Type 0} (read : Script → A) where
  locking_reads : (m : ModuleOutline) (i : ℕ) → i < length m.batch → read (rest_of m (place.Locking i)) ≡ read (step 3 (takes Exclusive (get_or m.batch i 0)) (rest_of m (place.Locking (i + 1))))
  unfolding rest_of
  locking_reads m i low = ap read (steps_at 3 (takes Exclusive) m.batch i (steps 3 fetches m.fetch (read_script m)) low)

  fetching_reads : (m : ModuleOutline) (i : ℕ) → i < length m.fetch → read (rest_of m (place.Fetching i)) ≡ read (step 3 (fetches (get_or m.fetch i 0)) (rest_of m (place.Fetching (i + 1))))
  unfolding rest_of
  fetching_reads m i low = ap read (steps_at 3 fetches m.fetch i (read_script m) low)

  reading_reads : (m : ModuleOutline) (i : ℕ) → i < length m.reads → read (rest_of m (place.Reading i)) ≡ read (step 4 (reads (get_or m.reads i 0)) (rest_of m (place.Reading (i + 1))))
  unfolding rest_of
  reading_reads m i low = ap read (steps_at 4 reads m.reads i (release_script m) low)

  answering_reads : (m : ModuleOutline) (i : ℕ) → i < m.goals → read (rest_of m (place.Answering i)) ≡ read (step 5 (answers (get_or (below m.goals) i 0)) (rest_of m (place.Answering (i + 1))))
  unfolding rest_of
  answering_reads m i low = ap read (steps_at 5 answers (below m.goals) i (install_script m) (omega (arith, low, length_below m.goals)))

  securing_reads : (m : ModuleOutline) → m.installs ≡ true → read (rest_of m place.Securing) ≡ read (step 6 (takes Exclusive m.own_name) (rest_of m (place.Installing 0)))
  unfolding rest_of
  securing_reads m is = ap (λ b. read (if b then step 6 (takes Exclusive m.own_name) (own_script m.own) else whole)) is

  sharing_reads : (answer : A) (m : ModuleOutline) (xs : List ℕ) → ((x : ℕ) (rest : Script) → read (step 2 (takes Shared x) rest) ≡ answer) → read (choice_script m) ≡ answer → read (steps 2 (takes Shared) xs (choice_script m)) ≡ answer
  sharing_reads answer m [] one end = end
  sharing_reads answer m (x ∷ xs) one end = one x (steps 2 (takes Shared) xs (choice_script m))

  may_reads : (answer : A) (xs : List ℕ) → ((x : ℕ) (rest : Script) → read (step 6 (may_publish x) rest) ≡ answer) → read (step 6 frees whole) ≡ answer → read (steps 6 may_publish xs (step 6 frees whole)) ≡ answer
  may_reads answer [] one end = end
  may_reads answer (x ∷ xs) one end = one x (steps 6 may_publish xs (step 6 frees whole))

  own_reads : (answer : A) (own : List ℕ) (i : ℕ) → ((x : ℕ) (rest : Script) → read (step 6 (publishes x) rest) ≡ answer) → ((x : ℕ) (rest : Script) → read (step 6 (may_publish x) rest) ≡ answer) → read (step 6 frees whole) ≡ answer → read (own_from i own) ≡ answer
  own_reads answer [] zero first one end = end
  own_reads answer (pom ∷ own) zero first one end = first pom (steps 6 may_publish own (step 6 frees whole))
  own_reads answer own (suc i) first one end = may_reads answer (drop (suc i) own) one end

get_low : (xs : List ℕ) (i : ℕ) → i < length xs → slice_get xs i ≡ Some (get_or xs i 0)
get_low [] i low = absurd (omega (arith, low))
get_low (x ∷ xs) zero low = refl
get_low (x ∷ xs) (suc i) low = get_low xs i (omega (arith, low))

pub stage_is : (m : ModuleOutline) (s : ScriptPlace) → IsPlaced m s → stage_of (rest_of m s) ≡ stage_at s
unfolding rest_of
stage_is m (place.Sharing i) placed = sharing_reads stage_of 2 m (drop i m.batch) (λ x rest. refl) refl
stage_is m place.Unsharing placed = refl
stage_is m (place.Locking i) placed = locking_reads stage_of m i placed
stage_is m (place.Fetching i) placed = fetching_reads stage_of m i placed
stage_is m (place.Reading i) placed = reading_reads stage_of m i placed
stage_is m place.Releasing placed = refl
stage_is m (place.Answering i) placed = answering_reads stage_of m i placed
stage_is m place.Securing placed = securing_reads stage_of m placed
stage_is m (place.Installing i) placed = own_reads stage_of 6 m.own i (λ x rest. refl) (λ x rest. refl) refl
stage_is m place.Whole placed = refl

pub wanted_is : (m : ModuleOutline) (s : ScriptPlace) → IsPlaced m s → wanted (rest_of m s) ≡ wanted_at m s
unfolding rest_of
wanted_is m (place.Sharing i) placed = sharing_reads wanted None m (drop i m.batch) (λ x rest. refl) refl
wanted_is m place.Unsharing placed = refl
wanted_is m (place.Locking i) placed = locking_reads wanted m i placed
wanted_is m (place.Fetching i) placed = fetching_reads wanted m i placed ∙ sym (get_low m.fetch i placed)
wanted_is m (place.Reading i) placed = reading_reads wanted m i placed
wanted_is m place.Releasing placed = refl
wanted_is m (place.Answering i) placed = answering_reads wanted m i placed
wanted_is m place.Securing placed = securing_reads wanted m placed
wanted_is m (place.Installing i) placed = own_reads wanted None m.own i (λ x rest. refl) (λ x rest. refl) refl
wanted_is m place.Whole placed = refl

abbrev to_read : Script → Option ℕ
to_read script = option_and_then read_by (head script)

pub read_is : (m : ModuleOutline) (s : ScriptPlace) → IsPlaced m s → option_and_then read_by (head (rest_of m s)) ≡ read_at m s
unfolding rest_of
read_is m (place.Sharing i) placed = sharing_reads to_read None m (drop i m.batch) (λ x rest. refl) refl
read_is m place.Unsharing placed = refl
read_is m (place.Locking i) placed = locking_reads to_read m i placed
read_is m (place.Fetching i) placed = fetching_reads to_read m i placed
read_is m (place.Reading i) placed = reading_reads to_read m i placed ∙ sym (get_low m.reads i placed)
read_is m place.Releasing placed = refl
read_is m (place.Answering i) placed = answering_reads to_read m i placed
read_is m place.Securing placed = securing_reads to_read m placed
read_is m (place.Installing i) placed = own_reads to_read None m.own i (λ x rest. refl) (λ x rest. refl) refl
read_is m place.Whole placed = refl

abbrev to_publish : Script → Option ℕ
to_publish script = option_and_then published_by (head script)

first_may : (own : List ℕ) (i : ℕ) → to_publish (steps 6 may_publish (drop i own) (step 6 frees whole)) ≡ slice_get own i
first_may [] zero = refl
first_may [] (suc i) = refl
first_may (x ∷ own) zero = refl
first_may (x ∷ own) (suc i) = first_may own i

first_own : (own : List ℕ) (i : ℕ) → to_publish (own_from i own) ≡ slice_get own i
first_own [] zero = refl
first_own (x ∷ own) zero = refl
first_own own (suc i) = first_may own (suc i)

pub published_is : (m : ModuleOutline) (s : ScriptPlace) → IsPlaced m s → option_and_then published_by (head (rest_of m s)) ≡ published_at m s
unfolding rest_of
published_is m (place.Sharing i) placed = sharing_reads to_publish None m (drop i m.batch) (λ x rest. refl) refl
published_is m place.Unsharing placed = refl
published_is m (place.Locking i) placed = locking_reads to_publish m i placed
published_is m (place.Fetching i) placed = fetching_reads to_publish m i placed ∙ sym (get_low m.fetch i placed)
published_is m (place.Reading i) placed = reading_reads to_publish m i placed
published_is m place.Releasing placed = refl
published_is m (place.Answering i) placed = answering_reads to_publish m i placed
published_is m place.Securing placed = securing_reads to_publish m placed
published_is m (place.Installing i) placed = first_own m.own i
published_is m place.Whole placed = refl

pub to_install_is : (m : ModuleOutline) (s : ScriptPlace) → IsPlaced m s → is_to_install (rest_of m s) ≡ is_to_install_at s
unfolding rest_of
to_install_is m (place.Sharing i) placed = sharing_reads is_to_install false m (drop i m.batch) (λ x rest. refl) refl
to_install_is m place.Unsharing placed = refl
to_install_is m (place.Locking i) placed = locking_reads is_to_install m i placed
to_install_is m (place.Fetching i) placed = fetching_reads is_to_install m i placed
to_install_is m (place.Reading i) placed = reading_reads is_to_install m i placed
to_install_is m place.Releasing placed = refl
to_install_is m (place.Answering i) placed = answering_reads is_to_install m i placed
to_install_is m place.Securing placed = securing_reads is_to_install m placed
to_install_is m (place.Installing i) placed = own_reads is_to_install false m.own i (λ x rest. refl) (λ x rest. refl) refl
to_install_is m place.Whole placed = refl

pub may_end_is : (m : ModuleOutline) (s : ScriptPlace) → IsPlaced m s → may_end (rest_of m s) ≡ may_end_at s
unfolding rest_of
may_end_is m (place.Sharing i) placed = sharing_reads may_end false m (drop i m.batch) (λ x rest. refl) refl
may_end_is m place.Unsharing placed = refl
may_end_is m (place.Locking i) placed = locking_reads may_end m i placed
may_end_is m (place.Fetching i) placed = fetching_reads may_end m i placed
may_end_is m (place.Reading i) placed = reading_reads may_end m i placed
may_end_is m place.Releasing placed = refl
may_end_is m (place.Answering i) placed = answering_reads may_end m i placed
may_end_is m place.Securing placed = securing_reads may_end m placed
may_end_is m (place.Installing i) placed = own_reads may_end false m.own i (λ x rest. refl) (λ x rest. refl) refl
may_end_is m place.Whole placed = refl

-- ---- answers that are left

no_answers : (stage : ℕ) (f : ℕ → Step) → ((x : ℕ) (rest : Script) → answers_left (step stage (f x) rest) ≡ answers_left rest) → (xs : List ℕ) (rest : Script) → answers_left (steps stage f xs rest) ≡ answers_left rest
no_answers stage f none [] rest = refl
no_answers stage f none (x ∷ xs) rest = none x (steps stage f xs rest) ∙ no_answers stage f none xs rest

many_answers : (xs : List ℕ) (rest : Script) → answers_left (steps 5 answers xs rest) ≡ length xs + answers_left rest
many_answers [] rest = omega arith
many_answers (x ∷ xs) rest = let again = many_answers xs rest in omega (arith, again)

may_answers : (xs : List ℕ) → answers_left (steps 6 may_publish xs (step 6 frees whole)) ≡ 0
may_answers xs = no_answers 6 may_publish (λ x rest. refl) xs (step 6 frees whole)

own_answers : (own : List ℕ) (i : ℕ) → answers_left (own_from i own) ≡ 0
own_answers [] zero = refl
own_answers (pom ∷ own) zero = may_answers own
own_answers own (suc i) = may_answers (drop (suc i) own)

install_answers : (m : ModuleOutline) → answers_left (install_script m) ≡ 0
install_answers m = by m.installs
  where
    by : (b : Bool) → answers_left (if b then step 6 (takes Exclusive m.own_name) (own_script m.own) else whole) ≡ 0
    by true = own_answers m.own 0
    by false = refl

length_drop : (xs : List ℕ) (i : ℕ) → length (drop i xs) ≡ length xs - i
length_drop [] zero = refl
length_drop [] (suc i) = sym (omega arith)
length_drop (x ∷ xs) zero = sym (omega arith)
length_drop (x ∷ xs) (suc i) = length_drop xs i ∙ omega arith

answering_answers : (m : ModuleOutline) (i : ℕ) → answers_left (rest_of m (place.Answering i)) ≡ m.goals - i
unfolding rest_of
answering_answers m i =
    let many = many_answers (drop i (below m.goals)) (install_script m) in
    let none = install_answers m in
    let long = length_drop (below m.goals) i in
    omega (arith, many, none, long, length_below m.goals)

all_answers : (m : ModuleOutline) → answers_left (answer_script m) ≡ m.goals
unfolding rest_of
all_answers m = answering_answers m 0 ∙ omega arith

release_answers : (m : ModuleOutline) → answers_left (release_script m) ≡ m.goals
release_answers m = all_answers m

reading_answers : (m : ModuleOutline) (xs : List ℕ) → answers_left (steps 4 reads xs (release_script m)) ≡ m.goals
reading_answers m xs = no_answers 4 reads (λ x rest. refl) xs (release_script m) ∙ release_answers m

fetching_answers : (m : ModuleOutline) (xs : List ℕ) → answers_left (steps 3 fetches xs (read_script m)) ≡ m.goals
fetching_answers m xs = no_answers 3 fetches (λ x rest. refl) xs (read_script m) ∙ reading_answers m m.reads

locking_answers : (m : ModuleOutline) (xs : List ℕ) → answers_left (steps 3 (takes Exclusive) xs (steps 3 fetches m.fetch (read_script m))) ≡ m.goals
locking_answers m xs = no_answers 3 (takes Exclusive) (λ x rest. refl) xs (steps 3 fetches m.fetch (read_script m)) ∙ fetching_answers m m.fetch

sharing_answers : (m : ModuleOutline) (xs : List ℕ) → answers_left (steps 2 (takes Shared) xs (choice_script m)) ≡ m.goals
sharing_answers m xs = no_answers 2 (takes Shared) (λ x rest. refl) xs (choice_script m) ∙ reading_answers m m.reads

same : (n : ℕ) → nat_eq n n ≡ true
same n = nat_eq_equiv.refl n

differ : (a b : ℕ) → a ≢ b → nat_eq a b ≡ false
differ a b h = by (nat_eq a b) refl
  where
    by : (c : Bool) → nat_eq a b ≡ c → nat_eq a b ≡ false
    by true e = absurd (h (eqb-true a b e))
    by false e = e

left_of : (i goals : ℕ) → i < goals → nat_eq (goals - i) goals ≡ nat_eq i 0
left_of zero goals low = let all : goals - 0 ≡ goals = omega arith in ap (λ n. nat_eq n goals) all ∙ same goals
left_of (suc i) goals low = differ (goals - suc i) goals (omega (arith, low)) ∙ sym (differ (suc i) 0 (omega arith))

pub unanswered_is : (m : ModuleOutline) (s : ScriptPlace) → IsPlaced m s → nat_eq (answers_left (rest_of m s)) m.goals ≡ is_unanswered_at m s
unfolding rest_of
unanswered_is m (place.Sharing i) placed = ap (λ n. nat_eq n m.goals) (sharing_answers m (drop i m.batch)) ∙ same m.goals
unanswered_is m place.Unsharing placed = ap (λ n. nat_eq n m.goals) (locking_answers m m.batch) ∙ same m.goals
unanswered_is m (place.Locking i) placed = ap (λ n. nat_eq n m.goals) (locking_answers m (drop i m.batch)) ∙ same m.goals
unanswered_is m (place.Fetching i) placed = ap (λ n. nat_eq n m.goals) (fetching_answers m (drop i m.fetch)) ∙ same m.goals
unanswered_is m (place.Reading i) placed = ap (λ n. nat_eq n m.goals) (reading_answers m (drop i m.reads)) ∙ same m.goals
unanswered_is m place.Releasing placed = ap (λ n. nat_eq n m.goals) (release_answers m) ∙ same m.goals
unanswered_is m (place.Answering i) placed = ap (λ n. nat_eq n m.goals) (answering_answers m i) ∙ left_of i m.goals placed
unanswered_is m place.Securing placed = ap (λ n. nat_eq n m.goals) (install_answers m)
unanswered_is m (place.Installing i) placed = ap (λ n. nat_eq n m.goals) (own_answers m.own i)
unanswered_is m place.Whole placed = refl

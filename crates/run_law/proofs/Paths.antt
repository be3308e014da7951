-- Entries of classpaths, one after another.
use Rattle.std.proofs.Common.{◌≡◌, ℕ, zero, suc, ◌+◌, ◌≤◌, Bool, true, false, List, [], ◌∷◌, ◌++◌, filter, fold, length, map, slice_get, take, Option, Some, None, unwrap_or, refl, arith, sym, ap, subst, ◌∙◌, if◌then◌else◌}
use Rattle.std.specs.List.{list_all}
use Rattle.std.proofs.lemmas.Bool.{false≢true}
use Rattle.mvn_shared.specs.Files.{Files}
use Rattle.goal_types.specs.declared.goal.Need.{Need}
use Rattle.goal_types.specs.declared.goal.OwnBytes.{OwnBytes}
use Rattle.goal_types.specs.declared.goal.PathEntry.{PathEntry}
use Rattle.build_core.specs.OneThread.{bytes_len, classpath, entries_len, is_needed, path_entry}
use Rattle.build_core.specs.declared.event.Event.{Event}
use Rattle.build_core.specs.declared.event.Event.TheVariants as event
use Rattle.build_core.specs.declared.plan.Entry.{Entry}
use Rattle.build_core.specs.declared.plan.Plan.{Plan}
use Rattle.build_core.specs.declared.plan.PlanModule.{PlanModule}
use Rattle.event_core.specs.declared.entry.Carried.{Carried}
use Rattle.event_core.specs.declared.entry.Carried.TheVariants as carried
use Rattle.event_core.specs.declared.entry.RunEntry.{RunEntry}
use Rattle.scripts.specs.Outlines.{file_of, files_of, files_read, is_listed, once_more}
use Rattle.event_core.specs.Worlds.{is_told, worker_of}
use Rattle.scripts.proofs.Climbs.{both}
use Rattle.event_core.proofs.Weights.{nothing_is}
use Rattle.run_law.proofs.Fold.{at_middle}
use Rattle.run_law.specs.Hands.{AreBare}
use Rattle.run_law.specs.Gathered.{files_before, needed_of, with_file}

-- ---- files

-- the files with those of more entries
abbrev read_on : List ℕ → List Entry → List ℕ
read_on met entries = fold once_more met (files_of entries)

-- one entry in front
front_is : (met : List ℕ) (x : Entry) (entries : List Entry) → read_on met (x ∷ entries) ≡ read_on (with_file met (file_of x.origin)) entries
front_is met x entries = by (file_of x.origin) refl
  where
    by : (found : Option ℕ) → file_of x.origin ≡ found → read_on met (x ∷ entries) ≡ read_on (with_file met found) entries
    by None e = rw e refl
    by (Some f) e = rw e refl

-- one entry more
one_more : (met : List ℕ) (entries : List Entry) (at : ℕ) (e : Entry) → slice_get entries at ≡ Some e → read_on met (take (suc at) entries) ≡ with_file (read_on met (take at entries)) (file_of e.origin)
one_more met [] at e is = absurd (nothing_is e is)
one_more met (x ∷ entries) zero e is = front_is met x [] ∙ ap (λ (y : Entry). with_file met (file_of y.origin)) (ap (λ o. unwrap_or o x) is)
one_more met (x ∷ entries) (suc at) e is =
    front_is met x (take (suc at) entries)
    ∙ one_more (with_file met (file_of x.origin)) entries at e is
    ∙ ap (λ fs. with_file fs (file_of e.origin)) (sym (front_is met x (take at entries)))

-- what stands at a place stays there with more files
keeps_one : (met : List ℕ) (x i f : ℕ) → slice_get met i ≡ Some f → slice_get (once_more met x) i ≡ Some f
keeps_one met x i f is = by (is_listed x met)
  where
    longer : (xs : List ℕ) (i : ℕ) → slice_get xs i ≡ Some f → slice_get (xs ++ x ∷ []) i ≡ Some f
    longer [] i is = absurd (nothing_is f is)
    longer (y ∷ xs) zero is = is
    longer (y ∷ xs) (suc i) is = longer xs i is

    by : (b : Bool) → slice_get (if b then met else met ++ x ∷ []) i ≡ Some f
    by true = is
    by false = longer met i is

keeps_all : (xs met : List ℕ) (i f : ℕ) → slice_get met i ≡ Some f → slice_get (fold once_more met xs) i ≡ Some f
keeps_all [] met i f is = is
keeps_all (x ∷ xs) met i f is = keeps_all xs (once_more met x) i f (keeps_one met x i f is)

-- the file of an entry that is new stands behind those before it
new_next : (met : List ℕ) (entries : List Entry) (at file : ℕ) (e : Entry) → slice_get entries at ≡ Some e → file_of e.origin ≡ Some file → is_listed file (read_on met (take at entries)) ≡ false
    → slice_get (read_on met entries) (length (read_on met (take at entries))) ≡ Some file
new_next met [] at file e is its new = absurd (nothing_is e is)
new_next met (x ∷ entries) zero file e is its new =
    let same : file_of x.origin ≡ Some file = ap (λ (y : Entry). file_of y.origin) (ap (λ o. unwrap_or o x) is) ∙ its in
    ap (λ fs. slice_get fs (length met)) (front_is met x entries ∙ ap (λ o. read_on (with_file met o) entries) same)
    ∙ keeps_all (files_of entries) (once_more met file) (length met) file (ap (λ b. slice_get (if b then met else met ++ file ∷ []) (length met)) new ∙ at_middle met [] file)
new_next met (x ∷ entries) (suc at) file e is its new =
    let front = front_is met x (take at entries) in
    ap (λ fs. slice_get fs (length (read_on met (x ∷ take at entries)))) (front_is met x entries)
    ∙ ap (λ fs. slice_get (read_on (with_file met (file_of x.origin)) entries) (length fs)) front
    ∙ new_next (with_file met (file_of x.origin)) entries at file e is its (ap (is_listed file) (sym front) ∙ new)

-- all entries are all
take_whole : (entries : List Entry) → take (length entries) entries ≡ entries
take_whole [] = refl
take_whole (x ∷ entries) = ap (λ es. x ∷ es) (take_whole entries)

module _ (m : PlanModule) where
  pub more : (at : ℕ) (e : Entry) → slice_get m.entries at ≡ Some e → files_before m (at + 1) ≡ with_file (files_before m at) (file_of e.origin)
  more at e is = let next : suc at ≡ at + 1 = omega arith in subst (λ n. files_before m n ≡ with_file (files_before m at) (file_of e.origin)) next (one_more [] m.entries at e is)

  pub next : (at file : ℕ) (e : Entry) → slice_get m.entries at ≡ Some e → file_of e.origin ≡ Some file → is_listed file (files_before m at) ≡ false → slice_get (files_read m) (length (files_before m at)) ≡ Some file
  next at file e is its new = new_next [] m.entries at file e is its new

  pub last : files_before m (length m.entries) ≡ files_read m
  last = ap (read_on []) (take_whole m.entries)

-- ---- bytes

pub part : (paths : List PathEntry) (count : ℕ) → entries_len (take count paths) ≤ entries_len paths
part [] zero = omega arith
part [] (suc count) = omega arith
part (p ∷ paths) zero = omega arith
part (p ∷ paths) (suc count) = let again = part paths count in omega (arith, again)

pub summed : (paths : List PathEntry) (path : PathEntry) → entries_len (paths ++ path ∷ []) ≡ entries_len paths + bytes_len path.bytes
summed [] path = omega arith
summed (p ∷ paths) path = let again = summed paths path in omega (arith, again)

pub needed : (plan : Plan) (files : Files) (outputs : List (List OwnBytes)) (need : Need) (entries : List Entry) → needed_of need entries (map (path_entry plan files outputs) entries) ≡ classpath plan files outputs need entries
needed plan files outputs need [] = refl
needed plan files outputs need (e ∷ entries) = by (is_needed need e) (needed plan files outputs need entries)
  where
    by : (b : Bool) → needed_of need entries (map (path_entry plan files outputs) entries) ≡ classpath plan files outputs need entries
        → (if b then path_entry plan files outputs e ∷ needed_of need entries (map (path_entry plan files outputs) entries) else needed_of need entries (map (path_entry plan files outputs) entries))
        ≡ map (path_entry plan files outputs) (if b then e ∷ filter (is_needed need) entries else filter (is_needed need) entries)
    by true again = ap (λ ps. path_entry plan files outputs e ∷ ps) again
    by false again = again

-- ---- what skips carry

-- what may carry nothing carries nothing
bare_is : (what : Carried) → Rattle.event_core.specs.Worlds.is_bare what ≡ true → what ≡ carried.Nothing
bare_is carried.Nothing is = refl
bare_is (carried.Published bytes) is = absurd (false≢true is)
bare_is (carried.Answered answer) is = absurd (false≢true is)

skip_bare : (told : Bool) (e : Event) (what : Carried) → is_told told e what ≡ true → worker_of e ≡ None → what ≡ carried.Nothing
skip_bare true (event.Skip m) what is none = bare_is what is
skip_bare false (event.Skip m) what is none = bare_is what is
skip_bare told (event.Start v m) what is none = absurd (nothing_is v (sym none))
skip_bare told (event.Take v n mode) what is none = absurd (nothing_is v (sym none))
skip_bare told (event.Free v n) what is none = absurd (nothing_is v (sym none))
skip_bare told (event.Read v f) what is none = absurd (nothing_is v (sym none))
skip_bare told (event.Publish v f) what is none = absurd (nothing_is v (sym none))
skip_bare told (event.Answer v g) what is none = absurd (nothing_is v (sym none))
skip_bare told (event.End v x) what is none = absurd (nothing_is v (sym none))

pub all_bare : (told : Bool) (log : List RunEntry) → list_all (λ (e : RunEntry). is_told told e.event e.carried) log ≡ true → AreBare log
all_bare told [] is = tt
all_bare told (e ∷ log) is =
    let parts = both (is_told told e.event e.carried) (list_all (λ (x : RunEntry). is_told told x.event x.carried) log) is in
    (skip_bare told e.event e.carried parts.0, all_bare told log parts.1)

-- Reading the sources name by name, against all of them at once.
use Rattle.std.proofs.Common.{◌≡◌, ℕ, Bool, true, false, ◌||◌, nat_lt, if◌then◌else◌, ◌+◌, ◌<◌, ◌≤◌, List, [], ◌∷◌, ◌++◌, length, take, drop, get_or, Option, Some, None, Result, Ok, Err, IfSome, IfOk, ◌⊎◌, inl, inr, map as map_list, refl, sym, ap, subst, ◌∙◌, arith}
use Rattle.std.proofs.lemmas.List.{map-append, take_more, take-append-drop}
use Rattle.std.proofs.lemmas.List.Elements.{filter_map-append}
use Rattle.std.proofs.lemmas.Bool.{le-ltb, lt-ltb, ltb-true}
use Rattle.mvn_shared.specs.Files.{Files}
use Rattle.goal_types.specs.declared.goal.SourceFile.{SourceFile}
use Rattle.sources.specs.declared.sources.SourcesFault.{SourcesFault}
use Rattle.sources.specs.declared.sources.SourcesFault.TheVariants.{Failed, TooMany, Memory}
use Rattle.std.specs.FinMap as map
use Rattle.mvn_shared.specs.Files.{names_below}
use Rattle.mvn_outside.specs.Reading.{Lists}
use Rattle.mvn_outside.specs.declared.fault.ListFault.TheVariants as list
use Rattle.sources.specs.Sources.{all_sources, are_long, are_many, bytes_count, files_count, first_of, is_long, source_at, source_names, sources_at, sources_len, sources_of, sources_of_all, with_names, GivesAll, GivesSources, ListsIn, ListsNames, PutsBelow, PutsSources, ReadsOne, ReadsSources, SortsNames, TakesRoom}
use Rattle.std.specs.List.{list_any}
use Rattle.mvn_base.specs.Limits.{most_files, most_sources}

pub if_some_map : {A : Type 0} (P Q : A → Type 0) (o : Option A) → ((a : A) → P a → Q a) → IfSome o P → IfSome o Q
if_some_map P Q None h p = tt
if_some_map P Q (Some a) h p = h a p

pub if_some_both : {A : Type 0} (P R Q : A → Type 0) (o : Option A) → ((a : A) → P a → R a → Q a) → IfSome o P → IfSome o R → IfSome o Q
if_some_both P R Q None h p r = tt
if_some_both P R Q (Some a) h p r = h a p r

-- ---- bytes

pub len_append : (xs ys : List SourceFile) → sources_len (xs ++ ys) ≡ sources_len xs + sources_len ys
len_append [] ys = omega arith
len_append (x ∷ xs) ys = ap (λ n. length x.bytes + n) (len_append xs ys) ∙ omega arith

pub len_push : (sources : List SourceFile) (path bytes : List ℕ) → sources_len (sources ++ (record { path = path; bytes = bytes }) ∷ []) ≡ sources_len sources + length bytes
len_push sources path bytes = len_append sources ((record { path = path; bytes = bytes }) ∷ []) ∙ omega arith

pub sources_more : (files : Files) (names : List (List ℕ)) (i : ℕ) (name : List ℕ) → i < length names → name ≡ get_or names i name → sources_at files (take (i + 1) names) ≡ sources_at files (take i names) ++ sources_at files (name ∷ [])
sources_more files names i name lt here = ap (sources_at files) (take_more names i name lt ∙ ap (λ x. take i names ++ x ∷ []) (sym here)) ∙ filter_map-append (source_at files) (take i names) (name ∷ [])

-- one that has too many bytes for the room makes too many bytes of all
pub one_too_many : (files : Files) (names : List (List ℕ)) (i : ℕ) (name : List ℕ) (room : ℕ) (sources : List SourceFile) (now : List SourceFile) (e : SourcesFault) → i < length names → name ≡ get_or names i name
    → (all_room : ℕ) → sources ≡ sources_at files (take i names) → room + sources_len sources ≡ all_room → ReadsOne room sources (sources_at files (name ∷ [])) now (Err e) → ReadsSources all_room (sources_at files names) (Err e)
one_too_many files names i name room sources now Failed lt here all_room so_far left h = tt
one_too_many files names i name room sources now Memory lt here all_room so_far left h = tt
one_too_many files names i name room sources now TooMany lt here all_room so_far left h =
    let all = ap sources_len (ap (sources_at files) (sym (take-append-drop (i + 1) names)) ∙ filter_map-append (source_at files) (take (i + 1) names) (drop (i + 1) names)) ∙ len_append (sources_at files (take (i + 1) names)) (sources_at files (drop (i + 1) names)) in
    let front = ap sources_len (sources_more files names i name lt here) ∙ len_append (sources_at files (take i names)) (sources_at files (name ∷ [])) in
    omega (arith, all, front, ap sources_len so_far, left, h)

-- ---- both

tested : (b c : Bool) (all : List SourceFile) (b' c' : Bool) → b ≡ b' → c ≡ c' → (if b || c then None else Some all) ≡ (if b' || c' then None else Some all)
tested b c all b' c' p q = ap (λ x. if x || c then None else Some all) p ∙ ap (λ x. if b' || x then None else Some all) q

tested_second : (b : Bool) (all : List SourceFile) → (if b || true then None else Some all) ≡ None
tested_second true all = refl
tested_second false all = refl

-- too many names
pub names_give : (files : Files) (folders : List (List ℕ)) (e : SourcesFault) → ListsNames files folders (Err e) → GivesSources files folders (Err e)
unfolding sources_of
names_give files folders Failed h = tt
names_give files folders Memory h = tt
names_give files folders TooMany h = tested _ _ (all_sources files folders) true _ h refl

-- and what reading them gives
pub reads_give : (files : Files) (folders names : List (List ℕ)) (r : Result (List SourceFile) SourcesFault) → ListsNames files folders (Ok names) → ReadsSources most_sources (sources_at files names) r → GivesSources files folders r
unfolding sources_of
reads_give files folders names (Ok sources) n h =
    let all = h.0 ∙ ap (sources_at files) n.0 in
    tested _ _ (all_sources files folders) false false n.1 (ap (λ s. nat_lt most_sources (sources_len s)) (sym all) ∙ le-ltb most_sources (sources_len sources) h.1)
    ∙ ap Some (sym all)
reads_give files folders names (Err Failed) n h = tt
reads_give files folders names (Err Memory) n h = tt
reads_give files folders names (Err TooMany) n h =
    tested _ _ (all_sources files folders) _ true refl (lt-ltb most_sources (sources_len (all_sources files folders)) (subst (λ ns. most_sources < sources_len (sources_at files ns)) n.0 h))
    ∙ tested_second _ (all_sources files folders)

-- ---- names

long : (files : Files) (folder : List ℕ) → most_files < length (names_below files folder) → is_long files folder ≡ true
long files folder h = lt-ltb most_files (length (names_below files folder)) h

short : (files : Files) (folder : List ℕ) → length (names_below files folder) ≤ most_files → is_long files folder ≡ false
short files folder h = le-ltb most_files (length (names_below files folder)) h

-- a folder with too many files
pub too_long : (files : Files) (folder : List ℕ) (before now : Files) → Lists files folder (Err list.TooMany) → PutsBelow files folder before now (Err TooMany)
too_long files folder before now h = long files folder h

-- a folder whose names were put to others
pub all_put : (files : Files) (folder : List ℕ) (before now : Files) (below : List (List ℕ)) → Lists files folder (Ok below) → now ≡ with_names before below → PutsBelow files folder before now (Ok tt)
all_put files folder before now below h is = (is ∙ ap (with_names before) h.0, short files folder (subst (λ ns. length ns ≤ most_files) h.0 h.1))

or_false : (b c : Bool) → b ≡ false → c ≡ false → (b || c) ≡ false
or_false b c p q = ap (λ x. x || c) p ∙ q

or_true : (b c : Bool) → b ≡ false → c ≡ true → (b || c) ≡ true
or_true b c p q = ap (λ x. x || c) p ∙ q

or_first : (b c : Bool) → b ≡ true → (b || c) ≡ true
or_first b c p = ap (λ x. x || c) p

-- a set of names in order
pub ordered : (files : Files) (folders : List (List ℕ)) (names : Files) (r : Result (List (List ℕ)) SourcesFault) → ListsIn files folders (Ok names) → SortsNames names r → ListsNames files folders r
ordered files folders names (Ok sorted) n h =
    let e = n.0 in
    (h.0 ∙ ap map.keys e, or_false _ _ n.1 (ap (λ (m : Files). nat_lt most_files (length (map.keys m))) (sym e) ∙ h.1))
ordered files folders names (Err TooMany) n h = or_true _ _ n.1 (ap (λ (m : Files). nat_lt most_files (length (map.keys m))) (sym n.0) ∙ h)
ordered files folders names (Err Failed) n h = tt
ordered files folders names (Err Memory) n h = tt

-- a folder that has too many of them
pub unordered : (files : Files) (folders : List (List ℕ)) (e : SourcesFault) → ListsIn files folders (Err e) → ListsNames files folders (Err e)
unordered files folders TooMany h = or_first _ _ h
unordered files folders Failed h = tt
unordered files folders Memory h = tt

-- ---- several modules

files_append : (files : Files) (xs ys : List (List (List ℕ))) → files_count files (xs ++ ys) ≡ files_count files xs + files_count files ys
files_append files [] ys = omega arith
files_append files (x ∷ xs) ys = ap (λ n. length (source_names files x) + n) (files_append files xs ys) ∙ omega arith

bytes_append : (files : Files) (xs ys : List (List (List ℕ))) → bytes_count files (xs ++ ys) ≡ bytes_count files xs + bytes_count files ys
bytes_append files [] ys = omega arith
bytes_append files (x ∷ xs) ys = ap (λ n. sources_len (all_sources files x) + n) (bytes_append files xs ys) ∙ omega arith

any_append : (p : List (List ℕ) → Bool) (xs ys : List (List (List ℕ))) → list_any p (xs ++ ys) ≡ (list_any p xs || list_any p ys)
any_append p [] ys = refl
any_append p (x ∷ xs) ys = by (p x) (any_append p xs ys)
  where
    by : (b : Bool) → list_any p (xs ++ ys) ≡ (list_any p xs || list_any p ys) → (b || list_any p (xs ++ ys)) ≡ ((b || list_any p xs) || list_any p ys)
    by true h = refl
    by false h = h

-- the modules so far: their sources, and what they leave of the room
pub record IsSoFar (files : Files) (modules : List (List (List ℕ))) (so_far : List (List SourceFile)) (files_left bytes_left : ℕ) : Type 0 where
  pub list : so_far ≡ map_list (all_sources files) modules
  pub short : list_any (are_long files) modules ≡ false
  pub count : files_left + files_count files modules ≡ most_files
  pub room : bytes_left + bytes_count files modules ≡ most_sources

pub none_so_far : (files : Files) → IsSoFar files [] [] most_files most_sources
none_so_far files = record { list = refl; short = refl; count = omega arith; room = omega arith }

-- one module more
pub one_so_far : (files : Files) (modules : List (List (List ℕ))) (i : ℕ) (folders : List (List ℕ)) (before now : List (List SourceFile)) (count room left_count left_room : ℕ)
    → i < length modules → folders ≡ get_or modules i folders → IsSoFar files (take i modules) before count room
    → PutsSources files folders count room left_count left_room before now (Ok tt)
    → IsSoFar files (take (i + 1) modules) now left_count left_room
one_so_far files modules i folders before now count room left_count left_room lt here so puts =
    let more : take (i + 1) modules ≡ take i modules ++ folders ∷ [] = take_more modules i folders lt ∙ ap (λ x. take i modules ++ x ∷ []) (sym here) in
    let counts = ap (files_count files) more ∙ files_append files (take i modules) (folders ∷ []) in
    let rooms = ap (bytes_count files) more ∙ bytes_append files (take i modules) (folders ∷ []) in
    record {
      list = puts.0 ∙ ap (λ (l : List (List SourceFile)). l ++ all_sources files folders ∷ []) so.list
          ∙ sym (ap (map_list (all_sources files)) more ∙ map-append (all_sources files) (take i modules) (folders ∷ []));
      short = ap (list_any (are_long files)) more ∙ any_append (are_long files) (take i modules) (folders ∷ []) ∙ or_false _ _ so.short (or_false _ _ puts.1 refl);
      count = omega (arith, so.count, counts, puts.2);
      room = omega (arith, so.room, rooms, puts.3);
    }

-- all modules
pub all_so_far : (files : Files) (modules : List (List (List ℕ))) (list : List (List SourceFile)) (count room : ℕ) → IsSoFar files modules list count room → GivesAll files modules (Ok list)
unfolding sources_of_all
all_so_far files modules list count room so =
    let few : files_count files modules ≤ most_files = omega (arith, so.count) in
    let small : bytes_count files modules ≤ most_sources = omega (arith, so.room) in
    ap (λ b. if b then None else Some (map_list (all_sources files) modules))
    (or_false _ _ so.short (or_false _ _ (le-ltb most_files (files_count files modules) few) (le-ltb most_sources (bytes_count files modules) small)))
    ∙ ap Some (sym so.list)

or_third : (a b c : Bool) → c ≡ true → (a || (b || c)) ≡ true
or_third true b c p = refl
or_third false true c p = refl
or_third false false c p = p

or_second : (a b c : Bool) → b ≡ true → (a || (b || c)) ≡ true
or_second true b c p = refl
or_second false b c p = or_first b c p

which : (a b c : Bool) → (a || (b || c)) ≡ true → (a ≡ true) ⊎ ((b ≡ true) ⊎ (c ≡ true))
which true b c e = inl refl
which false true c e = inr (inl refl)
which false false c e = inr (inr e)

-- one that exceeds the room makes too many of all
pub one_exceeds : (files : Files) (modules : List (List (List ℕ))) (i : ℕ) (folders : List (List ℕ)) (before : List (List SourceFile)) (count room left_count left_room : ℕ) (e : SourcesFault)
    → i < length modules → folders ≡ get_or modules i folders → IsSoFar files (take i modules) before count room
    → (now : List (List SourceFile)) → PutsSources files folders count room left_count left_room before now (Err e)
    → GivesAll files modules (Err e)
unfolding sources_of_all
one_exceeds files modules i folders before count room left_count left_room Failed lt here so now puts = tt
one_exceeds files modules i folders before count room left_count left_room Memory lt here so now puts = tt
one_exceeds files modules i folders before count room left_count left_room TooMany lt here so now puts = are_too_many (by (which _ _ _ puts))
  where
    more : take (i + 1) modules ≡ take i modules ++ folders ∷ []
    more = take_more modules i folders lt ∙ ap (λ x. take i modules ++ x ∷ []) (sym here)

    whole : modules ≡ (take i modules ++ folders ∷ []) ++ drop (i + 1) modules
    whole = sym (take-append-drop (i + 1) modules) ∙ ap (λ l. l ++ drop (i + 1) modules) more

    counted : files_count files modules ≡ files_count files (take i modules) + (length (source_names files folders) + 0) + files_count files (drop (i + 1) modules)
    counted = ap (files_count files) whole ∙ files_append files (take i modules ++ folders ∷ []) (drop (i + 1) modules)
        ∙ ap (λ n. n + files_count files (drop (i + 1) modules)) (files_append files (take i modules) (folders ∷ []))

    weighed : bytes_count files modules ≡ bytes_count files (take i modules) + (sources_len (all_sources files folders) + 0) + bytes_count files (drop (i + 1) modules)
    weighed = ap (bytes_count files) whole ∙ bytes_append files (take i modules ++ folders ∷ []) (drop (i + 1) modules)
        ∙ ap (λ n. n + bytes_count files (drop (i + 1) modules)) (bytes_append files (take i modules) (folders ∷ []))

    long_there : are_long files folders ≡ true → list_any (are_long files) modules ≡ true
    long_there h =
        let parts = ap (list_any (are_long files)) whole ∙ any_append (are_long files) (take i modules ++ folders ∷ []) (drop (i + 1) modules) in
        let front = any_append (are_long files) (take i modules) (folders ∷ []) in
        parts ∙ or_first _ _ (front ∙ or_last (list_any (are_long files) (take i modules)) _ (or_first _ _ h))
      where
        or_last : (a b : Bool) → b ≡ true → (a || b) ≡ true
        or_last true b p = refl
        or_last false b p = p

    by : (are_long files folders ≡ true) ⊎ ((nat_lt count (length (source_names files folders)) ≡ true) ⊎ (nat_lt room (sources_len (all_sources files folders)) ≡ true)) → are_many files modules ≡ true
    by (inl long) = or_first _ _ (long_there long)
    by (inr (inl many)) =
        or_second _ _ _ (lt-ltb most_files (files_count files modules) (omega (arith, so.count, counted, ltb-true count (length (source_names files folders)) many)))
    by (inr (inr large)) =
        or_third _ _ _ (lt-ltb most_sources (bytes_count files modules) (omega (arith, so.room, weighed, ltb-true room (sources_len (all_sources files folders)) large)))

    are_too_many : are_many files modules ≡ true → GivesAll files modules (Err TooMany)
    are_too_many h = ap (λ b. if b then None else Some (map_list (all_sources files) modules)) h

-- ---- one module of several

-- too many files for the room
pub too_many_files : (files : Files) (folders names : List (List ℕ)) (count room left_count left_room : ℕ) → ListsNames files folders (Ok names) → count < length names
    → TakesRoom files folders count room left_count left_room (Err TooMany)
too_many_files files folders names count room left_count left_room n h =
    or_second _ _ _ (lt-ltb count (length (source_names files folders)) (subst (λ (l : List (List ℕ)). count < length l) n.0 h))

-- what reading them gives
pub takes : (files : Files) (folders names : List (List ℕ)) (count room left_count left_room : ℕ) (r : Result (List SourceFile × ℕ) SourcesFault) → ListsNames files folders (Ok names)
    → left_count + length names ≡ count → IfOk r (λ read. (read.1 + sources_len read.0 ≡ room) × (left_room ≡ read.1))
    → ReadsSources room (sources_at files names) (first_of r) → TakesRoom files folders count room left_count left_room (first_of r)
takes files folders names count room left_count left_room (Ok read) n counted left h =
    let all = h.0 ∙ ap (sources_at files) n.0 in
    (all, n.1, ap (λ (l : List (List ℕ)). left_count + length l) (sym n.0) ∙ counted, ap (λ k. k + sources_len read.0) left.1 ∙ left.0)
takes files folders names count room left_count left_room (Err Failed) n counted left h = tt
takes files folders names count room left_count left_room (Err Memory) n counted left h = tt
takes files folders names count room left_count left_room (Err TooMany) n counted left h =
    or_third _ _ _ (lt-ltb room (sources_len (all_sources files folders)) (subst (λ ns. room < sources_len (sources_at files ns)) n.0 h))

-- too many names
pub names_take : (files : Files) (folders : List (List ℕ)) (count room left_count left_room : ℕ) (e : SourcesFault) → ListsNames files folders (Err e) → TakesRoom files folders count room left_count left_room (Err e)
names_take files folders count room left_count left_room Failed h = tt
names_take files folders count room left_count left_room Memory h = tt
names_take files folders count room left_count left_room TooMany h = or_first _ _ h

-- the sources of one module, put to the list
pub puts_sources : (files : Files) (folders : List (List ℕ)) (count room left_count left_room : ℕ) (before now : List (List SourceFile)) (sources : List SourceFile)
    → TakesRoom files folders count room left_count left_room (Ok sources) → now ≡ before ++ sources ∷ [] → PutsSources files folders count room left_count left_room before now (Ok tt)
puts_sources files folders count room left_count left_room before now sources t is =
    (is ∙ ap (λ (s : List SourceFile). before ++ s ∷ []) t.0, t.1, t.2, ap (λ (s : List SourceFile). left_room + sources_len s) (sym t.0) ∙ t.3)

pub puts_none : (files : Files) (folders : List (List ℕ)) (count room left_count left_room : ℕ) (before now : List (List SourceFile)) (e : SourcesFault)
    → TakesRoom files folders count room left_count left_room (Err e) → PutsSources files folders count room left_count left_room before now (Err e)
puts_none files folders count room left_count left_room before now TooMany t = t
puts_none files folders count room left_count left_room before now Failed t = tt
puts_none files folders count room left_count left_room before now Memory t = tt

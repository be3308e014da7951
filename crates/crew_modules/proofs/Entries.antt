-- The entries of a classpath, one more with each turn.
use Rattle.std.proofs.Common.{◌≡◌, ℕ, zero, suc, ◌+◌, ◌<◌, ◌≤◌, inl, inr, Bool, true, false, nat_le, List, [], ◌∷◌, ◌++◌, fold, length, map, slice_get, take, Option, Some, None, unwrap_or, refl, arith, sym, ap, subst, ◌∙◌}
use Rattle.std.specs.List.{list_all}
use Rattle.std.specs.Prelude.{IfErr, IfOk, IfSome, IsSomeAnd, OnOk, Result, Ok, Err, option_and_then, option_map}
use Rattle.std.proofs.lemmas.Bool.Decides.{nat_tests}
use Rattle.std.proofs.lemmas.Option.{slice_get_within}
use Rattle.std.proofs.lemmas.List.{append-nil, append_assoc, length-append}
use Rattle.mvn_shared.specs.Files.{Files, file_at}
use Rattle.mvn_outside.specs.Shelf.{files_now}
use Rattle.mvn_outside.specs.declared.fault.ReadFault.{ReadFault}
use Rattle.mvn_outside.specs.declared.fault.ReadFault.TheVariants as fault
use Rattle.goal_types.specs.declared.goal.PathEntry.{PathEntry}
use Rattle.goal_types.specs.declared.goal.Slot.{Slot}
use Rattle.build_core.specs.OneThread.{bytes_len, entries_len, most_classpath, name_of, origin_bytes, output_of, path_entry}
use Rattle.build_core.specs.declared.ending.Device.TheVariants as device
use Rattle.build_core.specs.declared.ending.Ending.{Ending}
use Rattle.build_core.specs.declared.ending.Ending.TheVariants as ending
use Rattle.build_core.specs.declared.event.Event.TheVariants as event
use Rattle.build_core.specs.declared.plan.Entry.{Entry}
use Rattle.build_core.specs.declared.plan.Origin.{Origin}
use Rattle.build_core.specs.declared.plan.Origin.TheVariants as origin
use Rattle.scripts.specs.declared.deed.Deed.TheVariants as deed
use Rattle.event_core.specs.Enabled.{is_due}
use Rattle.scripts.specs.Outlines.{file_of, files_of, files_read, once_more}
use Rattle.event_core.specs.Runs.{IsRunOf, contents, outputs_in}
use Rattle.event_core.specs.SoundPlans.{IsSoundPlan, is_backed}
use Rattle.event_core.specs.Worlds.{FitsEnd, HandTold, IsBeyond, IsWithin}
use Rattle.scripts.proofs.Climbs.{both}
use Rattle.event_core.proofs.Weights.{nothing_is}
use Rattle.run_law.specs.Given.{outputs_after}
use Rattle.run_law.proofs.Sounds.{fetch_low}
use Rattle.run_law.proofs.Staying.{entries_stay}
use Rattle.run_law.specs.Gathered.{files_before}
use Rattle.run_law.proofs.Paths.{last, next}
use Rattle.crew_turns.specs.Parts.{IsAddEnd, IsPart, place_before}
use Rattle.crew_turns.proofs.Beginnings as parts
use Rattle.crew_turns.proofs.PathFirsts.{again, fresh}
use Rattle.atomic_table.specs.Seated.{TableId}
use Rattle.board.specs.declared.kept.Opened.{Opened}
use Rattle.crew_turns.specs.Seen.{IsOf, Sees, Steps, Told, course_by, seen_by, start_by}
use Rattle.crew_turns.specs.Tasks.{IsTask, ModuleTask, stood_by}
use Rattle.crew_turns.specs.Endings.{is_gather_end, read_end}
use Rattle.crew_turns.specs.Paths.{ArePaths, HasBytes, IsGathered}
use Rattle.crew_turns.specs.Stages.{IsReading}
use Rattle.crew_modules.specs.Had.{GoesOn, HasMore, IsHad, StopsReading, origin_at}
use Rattle.crew_modules.proofs.Repeats.{met, met_again, met_first, met_none}
use Rattle.crew_modules.proofs.Standings.{due_now, sees_reading, steps_reading, stops, whose}

-- ---- what is said of a value that may be there

if_some : {X : Type 0} (o : Option X) (P Q : X → Type 0) → ((x : X) → P x → Q x) → IfSome o P → IfSome o Q
if_some None P Q more holds = tt
if_some (Some x) P Q more holds = more x holds

if_both : {X : Type 0} (o : Option X) (P Q R : X → Type 0) → ((x : X) → P x → Q x → R x) → IfSome o P → IfSome o Q → IfSome o R
if_both None P Q R more p q = tt
if_both (Some x) P Q R more p q = more x p q

if_any : {X : Type 0} (o : Option X) (P : X → Type 0) → ((x : X) → P x) → IfSome o P
if_any None P all = tt
if_any (Some x) P all = all x

-- what is mapped to a value comes from one
mapped : {X Y : Type 0} (f : X → Y) (o : Option X) (y : Y) → option_map f o ≡ Some y → (x : X) × (o ≡ Some x) × (f x ≡ y)
mapped f None y is = absurd (nothing_is y is)
mapped f (Some x) y is = (x, refl, ap (λ o. unwrap_or o y) is)

-- bytes that are there and more than so many
more_bytes : (limit : ℕ) (o : Option (List ℕ)) → IsSomeAnd o (λ bytes. limit < length bytes) → limit < bytes_len o
more_bytes limit None is = absurd is
more_bytes limit (Some bytes) is = is

too_many : (a most : ℕ) → most < a → nat_le a most ≡ false
too_many a most more = grind (arith, nat_tests, more)

few : (a most : ℕ) → a ≤ most → nat_le a most ≡ true
few a most less = grind (arith, nat_tests, less)

map_take : {A B : Type 0} (f : A → B) (n : ℕ) (xs : List A) → map f (take n xs) ≡ take n (map f xs)
map_take f zero [] = refl
map_take f zero (x ∷ xs) = refl
map_take f (suc n) [] = refl
map_take f (suc n) (x ∷ xs) = ap (λ ys. f x ∷ ys) (map_take f n xs)

-- what holds of all holds at a place
all_at : {X : Type 0} (p : X → Bool) (xs : List X) (i : ℕ) (x : X) → list_all p xs ≡ true → slice_get xs i ≡ Some x → p x ≡ true
all_at p [] i x all is = absurd (nothing_is x is)
all_at p (y ∷ xs) zero x all is = ap p (sym (ap (λ o. unwrap_or o y) is)) ∙ (both (p y) (list_all p xs) all).0
all_at p (y ∷ xs) (suc i) x all is = all_at p xs i x (both (p y) (list_all p xs) all).1 is

-- ---- turns behind one another

module _ (t : ModuleTask) (lock : TableId) (before : Told) (of : IsOf t.plan lock t.worker before) where
  -- no turn leaves all as it was
  pub goes_nowhere : GoesOn t lock before before
  goes_nowhere = record {
    of = of;
    follows = record { lock = refl; quiet = of.quiet; number = refl; reach = refl; weight = refl; workers = refl; fixed = refl; log = ([], sym (append-nil (seen_by before))) };
    fits = λ told fits. fits;
  }

  -- turns behind others
  pub goes_further : (mid pass : Told) → GoesOn t lock before mid → GoesOn t lock mid pass → GoesOn t lock before pass
  goes_further mid pass first second = record {
    of = second.of;
    follows = record {
      lock = second.follows.lock ∙ first.follows.lock;
      quiet = second.follows.quiet;
      number = second.follows.number ∙ first.follows.number;
      reach = second.follows.reach ∙ first.follows.reach;
      weight = second.follows.weight ∙ first.follows.weight;
      workers = second.follows.workers ∙ first.follows.workers;
      fixed = second.follows.fixed ∙ first.follows.fixed;
      log = (first.follows.log.0 ++ second.follows.log.0, second.follows.log.1 ∙ ap (λ l. l ++ second.follows.log.0) first.follows.log.1 ∙ append_assoc (seen_by before) first.follows.log.0 second.follows.log.0);
    };
    fits = λ told fits. second.fits told (first.fits told fits);
  }

-- ---- entries stay

module _ (t : ModuleTask) (is : IsTask t) (lock : TableId) (before pass : Told) (goes : GoesOn t lock before pass) (count : ℕ) (reading : IsReading t count before) where
  longer : IsRunOf t.plan (seen_by before ++ goes.follows.log.0)
  longer = subst (IsRunOf t.plan) goes.follows.log.1 goes.of.run

  abbrev paths_in : Files → Told → List PathEntry
  paths_in start p = map (path_entry t.plan (contents t.plan start (seen_by p)) (outputs_in t.plan (seen_by p))) t.unit.entries

  same_entries : (start : Files) → paths_in start pass ≡ paths_in start before
  same_entries start =
      subst (λ log. map (path_entry t.plan (contents t.plan start log) (outputs_in t.plan log)) t.unit.entries ≡ paths_in start before) (sym goes.follows.log.1)
      (entries_stay t.plan start (seen_by before) goes.follows.log.0 t.worker t.number t.unit goes.of.sound longer (whose t is count before reading) is reading.all)

  abbrev Part : Files → Told → ℕ → List PathEntry → Type 0
  Part start p n paths = IsPart t.plan (contents t.plan start (seen_by p)) (outputs_in t.plan (seen_by p)) t.unit.entries n paths

  part_stays : (start : Files) (n : ℕ) (paths : List PathEntry) → Part start before n paths → Part start pass n paths
  part_stays start n paths are =
      are ∙ map_take (path_entry t.plan (contents t.plan start (seen_by before)) (outputs_in t.plan (seen_by before))) n t.unit.entries ∙ ap (take n) (sym (same_entries start))
      ∙ sym (map_take (path_entry t.plan (contents t.plan start (seen_by pass)) (outputs_in t.plan (seen_by pass))) n t.unit.entries)

  start_is : start_by pass ≡ start_by before
  start_is = ap (λ (o : Option Opened). option_and_then (λ (x : Opened). option_map files_now x.told) o) goes.follows.fixed

  abbrev Parts : Option Files → Told → ℕ → List PathEntry → Type 0
  Parts start p n paths = IfSome (option_map (λ files. contents t.plan files (seen_by p)) start) (λ files. IsPart t.plan files (outputs_in t.plan (seen_by p)) t.unit.entries n paths)

  -- what was gathered is right behind further turns
  pub paths_stay : (n : ℕ) (paths : List PathEntry) → ArePaths t n paths before → ArePaths t n paths pass
  paths_stay n paths are = subst (λ (start : Option Files). Parts start pass n paths) (sym start_is) (by (start_by before) are)
    where
      by : (start : Option Files) → Parts start before n paths → Parts start pass n paths
      by None are = tt
      by (Some start) are = part_stays start n paths are

-- ---- the bytes of an entry

abbrev no_bytes : Option (List ℕ)
no_bytes = None

-- bytes that are right by where the entry comes from
right_by : (t : ModuleTask) (at : ℕ) (from : Origin) (bytes : Option (List ℕ)) (pass : Told) → origin_at t at ≡ Some from
    → IfSome (stood_by t pass).files (λ files. bytes ≡ origin_bytes t.plan files (stood_by t pass).outputs from)
    → IfSome (stood_by t pass).files (λ files. IfSome (slice_get t.unit.entries at) (λ (e : Entry). bytes ≡ origin_bytes t.plan files (stood_by t pass).outputs e.origin))
right_by t at from bytes pass is holds =
    if_some (stood_by t pass).files (λ files. bytes ≡ origin_bytes t.plan files (stood_by t pass).outputs from)
    (λ files. IfSome (slice_get t.unit.entries at) (λ (e : Entry). bytes ≡ origin_bytes t.plan files (stood_by t pass).outputs e.origin))
    (λ files x. by (λ o. bytes ≡ origin_bytes t.plan files (stood_by t pass).outputs o) (slice_get t.unit.entries at) is x) holds
  where
    by : (P : Origin → Type 0) (o : Option Entry) → option_map (λ (e : Entry). e.origin) o ≡ Some from → P from → IfSome o (λ (e : Entry). P e.origin)
    by P None is x = tt
    by P (Some e) is x = subst P (sym (ap (λ o. unwrap_or o from) is)) x

module _ (t : ModuleTask) (is : IsTask t) (at : ℕ) (paths : List PathEntry) (pass : Told) (gathered : IsGathered t at paths pass) where
  -- an entry of nothing has none
  pub had_nothing : origin_at t at ≡ Some origin.Nothing → HasBytes t at None pass
  had_nothing from =
      let e = mapped (λ (x : Entry). x.origin) (slice_get t.unit.entries at) origin.Nothing from in
      record {
        stands = subst (λ fs. IsReading t (length fs) pass) (sym (met_none t.unit at e.0 e.1 (ap file_of e.2))) gathered.at;
        right = right_by t at origin.Nothing None pass from (if_any (stood_by t pass).files (λ files. no_bytes ≡ no_bytes) (λ files. refl));
      }

  -- a place that has an origin is in range
  pub at_low : (from : Origin) → origin_at t at ≡ Some from → at < length t.unit.entries
  at_low from its = let e = mapped (λ (x : Entry). x.origin) (slice_get t.unit.entries at) from its in slice_get_within t.unit.entries at e.0 e.1

  module _ (file before : ℕ) (from : origin_at t at ≡ Some (origin.File file)) (found : place_before t.unit.entries at file ≡ Some before) where
    -- an entry that comes from the same file was gathered
    pub is_before : before < length paths
    is_before = let low = (met t.unit file at before found).0 in let many = gathered.many in omega (arith, low, many)

    -- so it has that entry's bytes
    pub had_again : (bytes : Option (List ℕ)) → option_map (λ (p : PathEntry). p.bytes) (slice_get paths before) ≡ Some bytes → HasBytes t at bytes pass
    had_again bytes copy =
        let e = mapped (λ (x : Entry). x.origin) (slice_get t.unit.entries at) (origin.File file) from in
        let p = mapped (λ (x : PathEntry). x.bytes) (slice_get paths before) bytes copy in
        record {
          stands = subst (λ fs. IsReading t (length fs) pass) (sym (met_again t.unit file at e.0 e.1 before (ap file_of e.2) found)) gathered.at;
          right =
              right_by t at (origin.File file) bytes pass from
              (if_some (stood_by t pass).files (λ files. IsPart t.plan files (stood_by t pass).outputs t.unit.entries at paths) (λ files. bytes ≡ file_at files (name_of t.plan file))
              (λ files are. sym p.2 ∙ again t.plan files (stood_by t pass).outputs file t.unit.entries at before paths p.0 found are p.1) gathered.are);
        }

    -- or memory ran out
    pub had_copy : (r : Result (Option (List ℕ)) Ending) → IfOk r (λ bytes. option_map (λ (p : PathEntry). p.bytes) (slice_get paths before) ≡ Some bytes) → IfErr r (λ e. e ≡ ending.Memory) → IsHad t at r pass
    had_copy (Ok bytes) copy memory = had_again bytes copy
    had_copy (Err e) copy memory = subst (λ x. StopsReading t x pass) (sym memory) (stops t is (length (files_before t.unit at)) pass gathered.at ending.Memory refl (λ told. tt))

module _ (t : ModuleTask) (is : IsTask t) (lock : TableId) (at : ℕ) (before pass : Told) (reading : IsReading t (length (files_before t.unit at)) before) where
  -- an upstream's output
  pub had_output : (number : ℕ) (slot : Slot) → origin_at t at ≡ Some (origin.Module number slot) → Sees t.plan lock t.worker before pass
      → (bytes : Option (List ℕ)) → bytes ≡ output_of (outputs_after t.plan (seen_by pass) number) slot → HasBytes t at bytes pass
  had_output number slot from sees bytes copy =
      let e = mapped (λ (x : Entry). x.origin) (slice_get t.unit.entries at) (origin.Module number slot) from in
      record {
        stands = subst (λ fs. IsReading t (length fs) pass) (sym (met_none t.unit at e.0 e.1 (ap file_of e.2))) (sees_reading t lock before pass (length (files_before t.unit at)) reading sees);
        right = right_by t at (origin.Module number slot) bytes pass from (if_any (stood_by t pass).files (λ files. bytes ≡ output_of (outputs_after t.plan (seen_by pass) number) slot) (λ files. copy));
      }

  -- memory ran out
  pub stops_seeing : Sees t.plan lock t.worker before pass → StopsReading t ending.Memory pass
  stops_seeing sees = stops t is (length (files_before t.unit at)) pass (sees_reading t lock before pass (length (files_before t.unit at)) reading sees) ending.Memory refl (λ told. tt)

  module _ (file : ℕ) (from : origin_at t at ≡ Some (origin.File file)) where
    -- its file is one of the plan's
    pub file_low : IsSoundPlan t.plan → file < length t.plan.files
    file_low sound =
        let e = mapped (λ (x : Entry). x.origin) (slice_get t.unit.entries at) (origin.File file) from in
        let backed = all_at (λ (x : Entry). is_backed t.unit x.origin) t.unit.entries at e.0 (sound.modules t.number t.unit is).entries e.1 in
        fetch_low t.plan sound file (t.number, t.unit, is, subst (λ o. is_backed t.unit o ≡ true) e.2 backed)

    module _ (new : place_before t.unit.entries at file ≡ None) where
      next_file : slice_get (files_read t.unit) (length (files_before t.unit at)) ≡ Some file
      next_file =
          let e = mapped (λ (x : Entry). x.origin) (slice_get t.unit.entries at) (origin.File file) from in
          next t.unit at file e.0 e.1 (ap file_of e.2) (fresh t.unit file at new)

      -- it is the next to be read
      pub due_file : is_due (course_by t.plan t.worker before) (deed.Read file) ≡ true
      due_file = due_now t lock before pass (length (files_before t.unit at)) reading file next_file

      -- and was read
      pub had_read : Steps t.plan lock t.worker (event.Read t.worker file) before pass → (bytes : List ℕ) → IfSome (stood_by t pass).files (λ files. file_at files (name_of t.plan file) ≡ Some bytes) → HasBytes t at (Some bytes) pass
      had_read steps bytes read =
          let e = mapped (λ (x : Entry). x.origin) (slice_get t.unit.entries at) (origin.File file) from in
          let more : files_before t.unit (at + 1) ≡ files_before t.unit at ++ file ∷ [] = met_first t.unit file at e.0 e.1 (ap file_of e.2) new in
          let long : length (files_before t.unit at) + 1 ≡ length (files_before t.unit (at + 1)) = sym (ap length more ∙ length-append (files_before t.unit at) (file ∷ [])) in
          record {
            stands = subst (λ n. IsReading t n pass) long (steps_reading t lock before pass (length (files_before t.unit at)) reading file next_file steps);
            right =
                right_by t at (origin.File file) (Some bytes) pass from
                (if_some (stood_by t pass).files (λ files. file_at files (name_of t.plan file) ≡ Some bytes) (λ files. Some bytes ≡ file_at files (name_of t.plan file)) (λ files x. sym x) read);
          }

      module _ (paths : List PathEntry) (are : ArePaths t at paths pass) (limit : ℕ) (room : limit + entries_len paths ≡ most_classpath) (sees : Sees t.plan lock t.worker before pass) where
        abbrev Large : Type 0
        Large = IfSome (stood_by t pass).files (λ files. IsSomeAnd (file_at files (name_of t.plan file)) (λ bytes. limit < length bytes))

        -- a file without room for it is beyond the limit
        beyond : Large → IsBeyond (stood_by t pass)
        beyond large =
            let e = mapped (λ (x : Entry). x.origin) (slice_get t.unit.entries at) (origin.File file) from in
            if_both (stood_by t pass).files (λ files. IsPart t.plan files (stood_by t pass).outputs t.unit.entries at paths) (λ files. IsSomeAnd (file_at files (name_of t.plan file)) (λ bytes. limit < length bytes))
            (λ files. nat_le (entries_len (map (path_entry t.plan files (stood_by t pass).outputs) t.unit.entries)) most_classpath ≡ false)
            (λ files part some.
            let low = parts.within t.plan files (stood_by t pass).outputs t.unit.entries at e.0 paths e.1 part in
            let here : entries_len paths + bytes_len (file_at files (name_of t.plan file)) ≤ entries_len (map (path_entry t.plan files (stood_by t pass).outputs) t.unit.entries) =
            subst (λ o. entries_len paths + bytes_len (origin_bytes t.plan files (stood_by t pass).outputs o) ≤ entries_len (map (path_entry t.plan files (stood_by t pass).outputs) t.unit.entries)) e.2 low in
            let many = more_bytes limit (file_at files (name_of t.plan file)) some in
            too_many (entries_len (map (path_entry t.plan files (stood_by t pass).outputs) t.unit.entries)) most_classpath (omega (arith, here, many, room)))
            are large

        -- so the module may end by how its file isn't read
        pub stops_read : (f : ReadFault) → (f ≡ fault.TooLarge → Large) → StopsReading t (read_end f) pass
        stops_read f large =
            let stands = sees_reading t lock before pass (length (files_before t.unit at)) reading sees in
            by f large (stops t is (length (files_before t.unit at)) pass stands)
          where
            by : (f : ReadFault) → (f ≡ fault.TooLarge → Large)
                → ((e : Ending) → is_gather_end e ≡ true → ((told : HandTold) → FitsEnd (stood_by t pass) told e) → StopsReading t e pass)
                → StopsReading t (read_end f) pass
            by fault.Failed large may = may (ending.Fault device.Shelf) refl (λ told. tt)
            by fault.TooLarge large may = may ending.ClasspathTooLarge refl (λ told. beyond (large refl))
            by fault.Memory large may = may ending.Memory refl (λ told. tt)

-- ---- an entry more

module _ (t : ModuleTask) (is : IsTask t) (at : ℕ) (e : Entry) (its : slice_get t.unit.entries at ≡ Some e) (paths : List PathEntry) (pass : Told) (are : ArePaths t at paths pass)
    (bytes : Option (List ℕ)) (had : HasBytes t at bytes pass) where
  right_here : IfSome (stood_by t pass).files (λ files. bytes ≡ origin_bytes t.plan files (stood_by t pass).outputs e.origin)
  right_here =
      if_some (stood_by t pass).files (λ files. IfSome (slice_get t.unit.entries at) (λ (x : Entry). bytes ≡ origin_bytes t.plan files (stood_by t pass).outputs x.origin))
      (λ files. bytes ≡ origin_bytes t.plan files (stood_by t pass).outputs e.origin)
      (λ files x. subst (λ o. IfSome o (λ (y : Entry). bytes ≡ origin_bytes t.plan files (stood_by t pass).outputs y.origin)) its x) had.right

  -- it is gathered with its bytes
  pub added : length paths ≡ at → IsGathered t (at + 1) (paths ++ (record { name = e.name; bytes = bytes }) ∷ []) pass
  added many = record {
    at = had.stands;
    are =
        if_both (stood_by t pass).files (λ files. IsPart t.plan files (stood_by t pass).outputs t.unit.entries at paths) (λ files. bytes ≡ origin_bytes t.plan files (stood_by t pass).outputs e.origin)
        (λ files. IsPart t.plan files (stood_by t pass).outputs t.unit.entries (at + 1) (paths ++ (record { name = e.name; bytes = bytes }) ∷ []))
        (λ files part right. subst (λ b. IsPart t.plan files (stood_by t pass).outputs t.unit.entries (at + 1) (paths ++ (record { name = e.name; bytes = b }) ∷ [])) (sym right)
        (parts.more t.plan files (stood_by t pass).outputs t.unit.entries at e paths its part))
        are right_here;
    many = length-append paths ((record { name = e.name; bytes = bytes }) ∷ []) ∙ ap (λ n. n + 1) many;
  }

  -- or it isn't, and the module may end by that
  pub stops_adding : (x : Ending) → IsAddEnd (entries_len paths + bytes_len bytes) x → StopsReading t x pass
  stops_adding x (inl large) =
      subst (λ y. StopsReading t y pass) (sym large.0)
      (stops t is (length (files_before t.unit (at + 1))) pass had.stands ending.ClasspathTooLarge refl
      (λ told.
      if_both (stood_by t pass).files (λ files. IsPart t.plan files (stood_by t pass).outputs t.unit.entries at paths) (λ files. bytes ≡ origin_bytes t.plan files (stood_by t pass).outputs e.origin)
      (λ files. nat_le (entries_len (map (path_entry t.plan files (stood_by t pass).outputs) t.unit.entries)) most_classpath ≡ false)
      (λ files part right.
      let low = parts.within t.plan files (stood_by t pass).outputs t.unit.entries at e paths its part in
      let here : entries_len paths + bytes_len bytes ≤ entries_len (map (path_entry t.plan files (stood_by t pass).outputs) t.unit.entries) =
      subst (λ b. entries_len paths + bytes_len b ≤ entries_len (map (path_entry t.plan files (stood_by t pass).outputs) t.unit.entries)) (sym right) low in
      let many = large.1 in
      too_many (entries_len (map (path_entry t.plan files (stood_by t pass).outputs) t.unit.entries)) most_classpath (omega (arith, here, many)))
      are right_here))
  stops_adding x (inr memory) = subst (λ y. StopsReading t y pass) (sym memory) (stops t is (length (files_before t.unit (at + 1))) pass had.stands ending.Memory refl (λ told. tt))

  -- by what became of it
  pub more_by : length paths ≡ at → {T : Type 0} (r : Result T Ending) (now : List PathEntry) → OnOk r (now ≡ paths ++ (record { name = e.name; bytes = bytes }) ∷ [])
      → IfErr r (λ x. IsAddEnd (entries_len paths + bytes_len bytes) x) → HasMore t at now r pass
  more_by many (Ok done) now ok err = subst (λ ps. IsGathered t (at + 1) ps pass) (sym ok) (added many)
  more_by many (Err x) now ok err = stops_adding x err

-- ---- all entries

-- nothing is gathered at first
pub begun : (t : ModuleTask) (pass : Told) → IsReading t 0 pass → IsGathered t 0 [] pass
begun t pass reading = record {
  at = subst (λ n. IsReading t n pass) (by t.unit.entries) reading;
  are = if_any (stood_by t pass).files (λ files. IsPart t.plan files (stood_by t pass).outputs t.unit.entries 0 []) (λ files. parts.begun t.plan files (stood_by t pass).outputs t.unit.entries);
  many = refl;
}
  where
    by : (es : List Entry) → 0 ≡ length (fold once_more [] (files_of (take 0 es)))
    by [] = refl
    by (e ∷ es) = refl

module _ (t : ModuleTask) (paths : List PathEntry) (pass : Told) (gathered : IsGathered t (length t.unit.entries) paths pass) where
  -- at last all files are read
  pub read_all : IsReading t (length (files_read t.unit)) pass
  read_all = subst (λ fs. IsReading t (length fs) pass) (last t.unit) gathered.at

  -- and the classpath is within its limit
  pub within_all : entries_len paths ≤ most_classpath → IsWithin (stood_by t pass)
  within_all less =
      if_some (stood_by t pass).files (λ files. IsPart t.plan files (stood_by t pass).outputs t.unit.entries (length t.unit.entries) paths)
      (λ files. nat_le (entries_len (map (path_entry t.plan files (stood_by t pass).outputs) t.unit.entries)) most_classpath ≡ true)
      (λ files part. subst (λ ps. nat_le (entries_len ps) most_classpath ≡ true) (parts.all t.plan files (stood_by t pass).outputs t.unit.entries paths part) (few (entries_len paths) most_classpath less)) gathered.are

-- What was read for the modules before stands there.
use Rattle.std.proofs.Common.{◌≡◌, ℕ, zero, suc, Bool, true, false, if◌then◌else◌, List, [], ◌∷◌, Option, Some, None, Result, IfSome, map as map_list, refl, sym, subst}
use Rattle.std.specs.List.{cons_option, slice_get}
use Rattle.std.specs.Option.{option_and_then, option_map}
use Rattle.std.specs.Str.{bytes_eq}
use Rattle.std.proofs.lemmas.Option.{none-some, same_Some}
use Rattle.std.proofs.lemmas.Slice.Eq.{bytes_eq-Decides}
use Rattle.mvn_shared.specs.Files.{Files, file_at}
use Rattle.mvn_outside.specs.Reading.{Reads}
use Rattle.mvn_outside.specs.declared.fault.ReadFault.{ReadFault}
use Rattle.goal_types.specs.declared.goal.SourceFile.{SourceFile}
use Rattle.sources.specs.Earlier.{bytes_at, bytes_in, AreThere}
use Rattle.sources.specs.Sources.{all_sources, source_names, sources_at}
use Rattle.sources.proofs.SourcesRead.{IsSoFar, if_some_map}

-- of no modules
none_there : (files : Files) → AreThere files []
none_there files list number sources source in_list here = absurd (none-some sources in_list)

pub none_are_there : (told : Option Files) → IfSome told (λ files. AreThere files [])
none_are_there None = tt
none_are_there (Some files) = none_there files

-- of one module
one_there : (files : Files) (names : List (List ℕ)) (number : ℕ) (source : SourceFile) → slice_get (sources_at files names) number ≡ Some source → file_at files source.path ≡ Some source.bytes
one_there files [] number source here = absurd (none-some source here)
one_there files (name ∷ names) number source here = by (file_at files name) refl (one_there files names) number here
  where
    record_of : List ℕ → SourceFile
    record_of bytes = record { path = name; bytes = bytes }

    by : (o : Option (List ℕ)) → file_at files name ≡ o → ((n : ℕ) (s : SourceFile) → slice_get (sources_at files names) n ≡ Some s → file_at files s.path ≡ Some s.bytes)
        → (n : ℕ) → slice_get (cons_option (option_map record_of o) (sources_at files names)) n ≡ Some source → file_at files source.path ≡ Some source.bytes
    by None is rest n e = rest n source e
    by (Some bytes) is rest zero e = subst (λ (s : SourceFile). file_at files s.path ≡ Some s.bytes) (same_Some (record_of bytes) source e) is
    by (Some bytes) is rest (suc n) e = rest n source e

-- of all of them
all_there : (files : Files) (modules : List (List (List ℕ))) → AreThere files (map_list (all_sources files) modules)
all_there files [] list number sources source in_list here = absurd (none-some sources in_list)
all_there files (folders ∷ modules) zero number sources source in_list here =
    one_there files (source_names files folders) number source (subst (λ (l : List SourceFile). slice_get l number ≡ Some source) (sym (same_Some (all_sources files folders) sources in_list)) here)
all_there files (folders ∷ modules) (suc list) number sources source in_list here = all_there files modules list number sources source in_list here

pub so_far_there : (told : Option Files) (modules : List (List (List ℕ))) (so_far : List (List SourceFile)) (files_left bytes_left : ℕ)
    → IfSome told (λ files. IsSoFar files modules so_far files_left bytes_left) → IfSome told (λ files. AreThere files so_far)
so_far_there told modules so_far files_left bytes_left h =
    if_some_map (λ files. IsSoFar files modules so_far files_left bytes_left) (λ files. AreThere files so_far) told
    (λ files so. subst (λ (l : List (List SourceFile)). AreThere files l) (sym so.list) (all_there files modules)) h

-- so what is found at a place is what stands there
pub found_there : (files : Files) (lists : List (List SourceFile)) (list number : ℕ) (path : List ℕ) → AreThere files lists
    → IfSome (bytes_at lists list number path) (λ bytes. file_at files path ≡ Some bytes)
found_there files lists list number path there = by (slice_get lists list) refl
  where
    Is : List ℕ → Type 0
    Is bytes = file_at files path ≡ Some bytes

    last : (source : SourceFile) → file_at files source.path ≡ Some source.bytes → (b : Bool) → bytes_eq source.path path ≡ b → IfSome (if b then Some source.bytes else None) Is
    last source is false other = tt
    last source is true same = subst (λ (p : List ℕ). file_at files p ≡ Some source.bytes) ((bytes_eq-Decides source.path path).0 same) is

    within : (sources : List SourceFile) → slice_get lists list ≡ Some sources → (o : Option SourceFile) → slice_get sources number ≡ o
        → IfSome (option_and_then (λ s. if bytes_eq s.path path then Some s.bytes else None) o) Is
    within sources in_list None here = tt
    within sources in_list (Some source) here = last source (there list number sources source in_list here) (bytes_eq source.path path) refl

    by : (o : Option (List SourceFile)) → slice_get lists list ≡ o → IfSome (option_and_then (λ sources. bytes_in sources number path) o) Is
    by None in_list = tt
    by (Some sources) in_list = within sources in_list (slice_get sources number) refl

-- what was read once answers for the tree
pub reads_there : (told : Option Files) (lists : List (List SourceFile)) (path bytes : List ℕ) (limit : ℕ) (r : Result (Option (List ℕ)) ReadFault)
    → IfSome told (λ files. AreThere files lists) → ((files : Files) → AreThere files lists → file_at files path ≡ Some bytes) → Reads (Some bytes) limit r
    → IfSome told (λ files. Reads (file_at files path) limit r)
reads_there told lists path bytes limit r there found reads =
    if_some_map (λ files. AreThere files lists) (λ files. Reads (file_at files path) limit r) told
    (λ files h. subst (λ (o : Option (List ℕ)). Reads o limit r) (sym (found files h)) reads) there

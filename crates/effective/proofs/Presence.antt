-- No step but the first answers that a POM is absent.
use Rattle.std.specs.Str.{bytes_eq}
use Rattle.std.proofs.Common.{◌≡◌, ℕ, zero, suc, Bool, true, false, List, [], ◌∷◌, ◌++◌, codes, Option, None, Some, is_some, Result, Ok, Err, refl, ap, subst, if◌then◌else◌}
use Rattle.mvn_base.specs.declared.gav.Gav.{Gav}
use Rattle.mvn_base.specs.declared.refusal.PomId.{PomId}
use Rattle.mvn_base.specs.declared.refusal.PomId.TheVariants as ids
use Rattle.mvn_base.specs.declared.refusal.Refusal.{Refusal}
use Rattle.mvn_base.specs.Key.{key_text}
use Rattle.mvn_base.specs.declared.rule.Rule.{Rule}
use Rattle.mvn_base.specs.declared.rule.Rule.TheVariants.{ImportCycle, ImportNotPom, LineageTooLong, ParentCycle, ParentPackaging}
use Rattle.model_types.specs.declared.build.BuildBase.{BuildBase}
use Rattle.model_types.specs.declared.dependency.Dependency.{Dependency}
use Rattle.model_types.specs.declared.model.Model.{Model}
use Rattle.model_types.specs.declared.model.Parent.{Parent}
use Rattle.model_types.specs.declared.model.RawModel.{RawModel}
use Rattle.model_types.specs.declared.plugin.Plugin.{Plugin}
use Rattle.pom_text.specs.Answers.{Answer, answer}
use Rattle.pom_model.specs.Raw.{raw}
use Rattle.mvn_base.specs.Paths.{joined}
use Rattle.profiles.specs.Activation.{folder_of, is_of_project}
use Rattle.lifecycle.specs.Bindings.{bindings}
use Rattle.interpolation.specs.Filling.{fill}
use Rattle.managed_deps.specs.Managed.{is_import, key_of}
use Rattle.pom_source.specs.Answers.{Built, Says, refused, ◌>>=◌}
use Rattle.pom_source.specs.Refusals.{gav_refused, text_refused}
use Rattle.pom_source.specs.Worlds.{World}
use Rattle.pom_source.specs.declared.fault.BuildFault.{BuildFault}
use Rattle.pom_source.specs.declared.fault.BuildFault.TheVariants.{Refused, Absent, Source, Memory}
use Rattle.pom_source.specs.declared.found.Found.{Found}
use Rattle.pom_source.specs.declared.found.Given.{Given}
use Rattle.lineage.specs.Beside.{at_path, at_second, found_origin, of_gav, or_at, origin_from, read_at}
use Rattle.lineage.specs.Lineage.{above, candidate, entered, first_of, found_or, gav_of, is_in, joined_from, joined_up, known, known_at, known_of, line, lineage, next_poms, origin_of, packed, parent_from, pom_of, put_over, text_of, unless, unmet, unstated}
use Rattle.lineage.specs.Reading.{elements, read, read_file, with_profiles}
use Rattle.lineage.specs.declared.joined.Joined.{Joined}
use Rattle.lineage.specs.declared.origin.Origin.{Origin}
use Rattle.lineage.specs.declared.origin.Origin.TheVariants.{Beside, Elsewhere}
use Rattle.lineage.specs.declared.origin.Candidate.{Candidate}
use Rattle.lineage.specs.declared.origin.Candidate.TheVariants as candidates
use Rattle.model_steps.specs.Building.{built, built_by}
use Rattle.model_steps.specs.Assembly.{model_of}
use Rattle.model_steps.specs.Folders.{basedir_in, filled, placed_in}
use Rattle.model_steps.specs.Imports.{gav_by, import_gav}
use Rattle.model_steps.specs.Kinds.{kind_of}
use Rattle.model_steps.specs.Validation.{model_problem, unless as unless_refused}
use Rattle.model_steps.specs.declared.kind.VersionKind.{VersionKind}
use Rattle.model_steps.specs.declared.kind.VersionKind.TheVariants.{Missing, Soft, Range, Unreadable}
use Rattle.model_steps.specs.declared.problem.Problem.{Problem}
use Rattle.effective.specs.Absence.{IsAbsentExactly, has_pom}
use Rattle.effective.specs.Effective.{asked, effective, ended, entry, full, if_there, import_found, import_on, imported, imports_from, managed_of, met_import, read_found, wanted, whole}

-- anything but that a POM is absent
abbrev Present : {A : Type 0} → Built A → Type 0
Present (Ok x) = Unit {0}
Present (Err (Refused r)) = Unit {0}
Present (Err Absent) = ⊥
Present (Err Source) = Unit {0}
Present (Err Memory) = Unit {0}

on : {A B : Type 0} (said : Built A) (f : A → Built B) → Present said → ((x : A) → Present (f x)) → Present (said >>= f)
on (Ok x) f here rest = rest x
on (Err (Refused r)) f here rest = record {}
on (Err Absent) f here rest = here
on (Err Source) f here rest = record {}
on (Err Memory) f here rest = record {}

-- the last step refuses nothing
ends : {A B : Type 0} (said : Built A) (g : A → B) → Present said → Present (said >>= (λ x. Ok (g x)))
ends (Ok x) g here = record {}
ends (Err (Refused r)) g here = record {}
ends (Err Absent) g here = here
ends (Err Source) g here = record {}
ends (Err Memory) g here = record {}

either : {A : Type 0} (b : Bool) (x y : Built A) → Present x → Present y → Present (if b then x else y)
either true x y a b = a
either false x y a b = b

of_refused : {A : Type 0} (said : Result A Refusal) → Present (refused said)
of_refused (Ok x) = record {}
of_refused (Err refusal) = record {}

of_elements : (pom : PomId) (said : Answer) → Present (elements pom said)
of_elements pom (Ok nodes) = record {}
of_elements pom (Err e) = record {}

of_read : (pom : PomId) (bytes : List ℕ) → Present (read pom bytes)
unfolding read
of_read pom bytes = on (elements pom (answer bytes)) _ (of_elements pom (answer bytes)) (λ nodes. of_refused (raw nodes pom))

of_file : (pom : PomId) (found : Option (List ℕ)) → Present (read_file pom found)
of_file pom None = record {}
of_file pom (Some bytes) = ends (read pom bytes) (λ raw. Some raw) (of_read pom bytes)

of_unless : {A : Type 0} (child : PomId) (e : Option (Rule × List ℕ)) (further : Built A) → Present further → Present (unless child e further)
of_unless child (Some e) further rest = record {}
of_unless child None further rest = rest

of_known : (pom : PomId) (said : Built RawModel) → Present said → Present (known pom said)
of_known pom (Ok raw) here = record {}
of_known pom (Err (Refused r)) here = record {}
of_known pom (Err Absent) here = here
of_known pom (Err Source) here = record {}
of_known pom (Err Memory) here = record {}

of_known_found : (found : Option Found) → Present (known_of found)
of_known_found None = record {}
of_known_found (Some found) = ends (known found.pom (read found.pom found.bytes)) (λ candidate. Some candidate) (of_known found.pom (read found.pom found.bytes) (of_read found.pom found.bytes))

of_found : (child : PomId) (gav : Gav) (found : Option Candidate) → Present (found_or child gav found)
of_found child gav None = record {}
of_found child gav (Some found) = record {}

of_unmet : (child : PomId) (seen : List PomId) (gav : Gav) (found : Candidate) → Present (unmet child seen gav found)
of_unmet child seen gav found = either (is_in (pom_of found) seen) (Err (gav_refused child ParentCycle gav)) (Ok found) (record {}) (record {})

of_text : (found : Candidate) → Present (text_of found)
of_text (candidates.Read raw) = record {}
of_text (candidates.Refused pom refusal) = record {}

of_packed : (child : PomId) (gav : Gav) (raw : RawModel) → Present (packed child gav raw)
of_packed child gav raw = either (bytes_eq raw.coordinates.packaging (codes "pom")) (Ok raw) (Err (gav_refused child ParentPackaging gav)) (record {}) (record {})

of_above : (up : Parent → Built Joined) (parent : Option Parent) → ((p : Parent) → Present (up p)) → Present (above up parent)
of_above up None rest = record {}
of_above up (Some parent) rest = rest parent

of_bound : (pom : PomId) (packaging : List ℕ) (base : BuildBase) (bound : Option (List Plugin)) → Present (built_by pom packaging base bound)
of_bound pom packaging base None = record {}
of_bound pom packaging base (Some bound) = record {}

of_built : (full : RawModel) → Present (built full)
unfolding built
of_built full = either (is_of_project full.pom) (built_by full.pom full.coordinates.packaging full.build.base (bindings full.coordinates.packaging)) (Ok full.build.base) (of_bound full.pom full.coordinates.packaging full.build.base (bindings full.coordinates.packaging)) (record {})

of_filled : (given : Given) (model : RawModel) → Present (filled given model)
unfolding filled
of_filled given model = ends (refused (fill model (basedir_in given.machine model.pom) given.machine given.defines)) (placed_in (basedir_in given.machine model.pom)) (of_refused (fill model (basedir_in given.machine model.pom) given.machine given.defines))

of_kind : (pom : PomId) (d : Dependency) (kind : VersionKind) → Present (gav_by pom d kind)
of_kind pom d Missing = record {}
of_kind pom d Soft = record {}
of_kind pom d Range = record {}
of_kind pom d Unreadable = record {}

of_import : (pom : PomId) (d : Dependency) → Present (import_gav pom d)
unfolding import_gav
of_import pom d = either (bytes_eq d.kind (codes "pom")) (gav_by pom d (kind_of d.version)) (Err (text_refused pom ImportNotPom (key_text (key_of d)))) (of_kind pom d (kind_of d.version)) (record {})

of_checked : (problem : Option Problem) (model : Model) → Present (unless_refused problem model)
of_checked (Some problem) model = record {}
of_checked None model = record {}

of_met : (pom : PomId) (building : List PomId) (gav : Gav) (found : Option Found) → Present (met_import pom building gav found)
of_met pom building gav None = record {}
of_met pom building gav (Some found) = either (is_in found.pom building) (Err (gav_refused pom ImportCycle gav)) (Ok found) (record {}) (record {})

of_entry : (pom : PomId) (up : Gav → Built (List Dependency)) (d : Dependency) → ((gav : Gav) → Present (up gav)) → Present (entry pom up d)
of_entry pom up d rest = either (is_import d) (import_gav pom d >>= (λ gav. up gav >>= (λ entries. Ok (entries ∷ [])))) (Ok []) (on (import_gav pom d) (λ gav. up gav >>= (λ entries. Ok (entries ∷ []))) (of_import pom d) (λ gav. ends (up gav) (λ entries. entries ∷ []) (rest gav))) (record {})

of_imports : (pom : PomId) (up : Gav → Built (List Dependency)) (done : List (List Dependency)) (ds : List Dependency) → ((gav : Gav) → Present (up gav)) → Present (imports_from pom up done ds)
of_imports pom up done [] rest = record {}
of_imports pom up done (d ∷ ds) rest = on (entry pom up d) (λ lists. imports_from pom up (done ++ lists) ds) (of_entry pom up d rest) (λ lists. of_imports pom up (done ++ lists) ds rest)

of_managed : (said : Built Model) → Present said → Present (managed_of said)
of_managed said here = ends said (λ (model : Model). model.base.managed) here

-- a POM that was looked for, and read where it is there
there_asked : (said : Built RawModel) → Present said → Present ((said >>= (λ raw. Ok (Some raw))) >>= if_there)
there_asked (Ok raw) here = record {}
there_asked (Err (Refused r)) here = record {}
there_asked (Err Absent) here = here
there_asked (Err Source) here = record {}
there_asked (Err Memory) here = record {}

of_asked_file : (pom : PomId) (found : Option (List ℕ)) → is_some found ≡ true → Present (read_file pom found >>= if_there)
of_asked_file pom None e = cc
of_asked_file pom (Some bytes) e = there_asked (read pom bytes) (of_read pom bytes)

of_asked_gav : (found : Option Found) → is_some found ≡ true → Present (read_found found)
of_asked_gav None e = cc
of_asked_gav (Some found) e = of_read found.pom found.bytes

none_there : {A : Type 0} (o : Option A) → is_some o ≡ false → o ≡ None
none_there None e = refl
none_there (Some x) e = cc

module _ (world : World) where
  of_second : (gav : Gav) (path : List ℕ) → Present (at_second world gav path)
  of_second gav path = ends (read_at world path) (of_gav gav path) (of_file (ids.Path path) (world.by_path path))

  of_or : (gav : Gav) (first second : List ℕ) (found : Option RawModel) → Present (or_at world gav first second found)
  of_or gav first second (Some raw) = record {}
  of_or gav first second None = of_second gav second

  of_path : (gav : Gav) (path : List ℕ) → Present (at_path world gav path)
  of_path gav path = on (read_at world (joined path (codes "pom.xml"))) (or_at world gav (joined path (codes "pom.xml")) path) (of_file (ids.Path (joined path (codes "pom.xml"))) (world.by_path (joined path (codes "pom.xml")))) (of_or gav (joined path (codes "pom.xml")) path)

  of_origin_from : (child : List ℕ) (gav : Gav) (path : List ℕ) → Present (origin_from world child gav path)
  of_origin_from child gav [] = record {}
  of_origin_from child gav (b ∷ path) = of_path gav (joined (folder_of child) (b ∷ path))

  of_found_origin : (child : PomId) (parent : Parent) → Present (found_origin world child parent)
  unfolding found_origin
  of_found_origin (ids.Path child) parent = of_origin_from child parent.gav parent.relative_path
  of_found_origin (ids.Gav child) parent = record {}

  of_origin : (child : PomId) (parent : Parent) → Present (origin_of world child parent)
  of_origin child parent = of_unless child (unstated parent.gav) (found_origin world child parent) (of_found_origin child parent)

  of_candidate : (child : PomId) (origin : Origin) → Present (candidate world child origin)
  of_candidate child (Beside path raw) = record {}
  of_candidate child (Elsewhere gav) = on (known_at world gav) (found_or child gav) (of_known_found (world.by_gav gav)) (of_found child gav)

  of_parent : (child : PomId) (seen : List PomId) (origin : Origin) → Present (parent_from world child seen origin)
  of_parent child seen origin = on (candidate world child origin) (unmet child seen (gav_of origin)) (of_candidate child origin) (of_unmet child seen (gav_of origin))

  of_wanted : (pom : PomId) (building : List PomId) (gav : Gav) → Present (wanted world pom building gav)
  of_wanted pom building gav = of_met pom building gav (world.by_gav gav)

  of_asked : (pom : PomId) → has_pom world pom ≡ true → Present (asked world pom)
  of_asked (ids.Path path) e = of_asked_file (ids.Path path) (world.by_path path) e
  of_asked (ids.Gav gav) e = of_asked_gav (world.by_gav gav) e

  not_asked : (pom : PomId) → has_pom world pom ≡ false → asked world pom ≡ Err Absent
  not_asked (ids.Path path) e = ap (λ found. read_file (ids.Path path) found >>= if_there) (none_there (world.by_path path) e)
  not_asked (ids.Gav gav) e = ap read_found (none_there (world.by_gav gav) e)

  module _ (given : Given) where
    of_line : (up : PomId → List PomId → Parent → Built Joined) (seen : List PomId) (raw : RawModel) → ((pom : PomId) (poms : List PomId) (p : Parent) → Present (up pom poms p)) → Present (line world given up seen raw)
    of_line up seen raw rest = ends (above (up raw.pom (next_poms seen raw.pom)) raw.parent) (put_over raw.pom (with_profiles given world.there raw)) (of_above (up raw.pom (next_poms seen raw.pom)) raw.parent (rest raw.pom (next_poms seen raw.pom)))

    of_entered : (up : PomId → List PomId → Parent → Built Joined) (child : PomId) (seen : List PomId) (gav : Gav) (found : Candidate) → ((pom : PomId) (poms : List PomId) (p : Parent) → Present (up pom poms p)) → Present (entered world given up child seen gav found)
    of_entered up child seen gav found rest = on (text_of found) (λ raw. packed child gav raw >>= line world given up seen) (of_text found) (λ raw. on (packed child gav raw) (line world given up seen) (of_packed child gav raw) (λ raw. of_line up seen raw rest))

    of_joined : (left : ℕ) (child : PomId) (seen : List PomId) (origin : Origin) → Present (joined_from world given left child seen origin)
    unfolding joined_from
    of_joined zero child seen origin = on (parent_from world child seen origin) (λ found. Err (gav_refused (first_of seen child) LineageTooLong (gav_of origin))) (of_parent child seen origin) (λ found. record {})
    of_joined (suc left) child seen origin = on (parent_from world child seen origin) (entered world given (joined_up world given left) child seen (gav_of origin)) (of_parent child seen origin) (λ found. of_entered (joined_up world given left) child seen (gav_of origin) found (λ pom poms p. on (origin_of world pom p) (joined_from world given left pom poms) (of_origin pom p) (λ o. of_joined left pom poms o)))

    of_lineage : (raw : RawModel) → Present (lineage world given raw)
    of_lineage raw = of_line (joined_up world given 31) [] raw (λ pom poms p. on (origin_of world pom p) (joined_from world given 31 pom poms) (of_origin pom p) (λ o. of_joined 31 pom poms o))

    of_full : (raw : RawModel) → Present (full world given raw)
    of_full raw = on (lineage world given raw) (λ (joined : Joined). filled given joined.model) (of_lineage raw) (λ joined. of_filled given joined.model)

    of_whole : (up : Gav → Built (List Dependency)) (raw : RawModel) → ((gav : Gav) → Present (up gav)) → Present (whole world given up raw)
    of_whole up raw rest =
        on (full world given raw) (λ (model : RawModel). built model >>= (λ base. imports_from raw.pom up [] model.base.managed >>= (λ imports. ended model base imports))) (of_full raw)
        (λ (model : RawModel). on (built model) (λ base. imports_from raw.pom up [] model.base.managed >>= (λ imports. ended model base imports)) (of_built model)
        (λ base. on (imports_from raw.pom up [] model.base.managed) (λ imports. ended model base imports) (of_imports raw.pom up [] model.base.managed rest)
        (λ imports. of_checked (model_problem (model_of model base imports)) (model_of model base imports))))

    of_found_import : (up : PomId → List PomId → Gav → Built (List Dependency)) (pom : PomId) (building : List PomId) (gav : Gav) → ((pom : PomId) (poms : List PomId) (gav : Gav) → Present (up pom poms gav)) → Present (import_found world given up pom building gav)
    of_found_import up pom building gav rest =
        on (wanted world pom building gav) (import_on world given up building) (of_wanted pom building gav)
        (λ (found : Found). on (read found.pom found.bytes) (λ (raw : RawModel). managed_of (whole world given (up raw.pom (next_poms building raw.pom)) raw)) (of_read found.pom found.bytes)
        (λ (raw : RawModel). of_managed (whole world given (up raw.pom (next_poms building raw.pom)) raw) (of_whole (up raw.pom (next_poms building raw.pom)) raw (rest raw.pom (next_poms building raw.pom)))))

    of_imported : (left : ℕ) (pom : PomId) (building : List PomId) (gav : Gav) → Present (imported world given left pom building gav)
    unfolding imported
    of_imported zero pom building gav = record {}
    of_imported (suc left) pom building gav = of_found_import (imported world given left) pom building gav (of_imported left)

    of_effective : (pom : PomId) → has_pom world pom ≡ true → Present (effective world given pom)
    of_effective pom e = on (asked world pom) (λ (raw : RawModel). whole world given (imported world given 31 raw.pom (raw.pom ∷ [])) raw) (of_asked pom e) (λ (raw : RawModel). of_whole (imported world given 31 raw.pom (raw.pom ∷ [])) raw (of_imported 31 raw.pom (raw.pom ∷ [])))

    pub absent_exactly : (pom : PomId) (answer : Result Model BuildFault) → Says (effective world given pom) answer → IsAbsentExactly (has_pom world pom) answer
    absent_exactly pom answer so = record {
      only = λ e. by (has_pom world pom) refl (subst (λ a. Says (effective world given pom) a) e so);
      always = λ e. subst (λ s. Says s answer) (ap (λ r. r >>= (λ (raw : RawModel). whole world given (imported world given 31 raw.pom (raw.pom ∷ [])) raw)) (not_asked pom e)) so;
    }
      where
        by : (there : Bool) → has_pom world pom ≡ there → effective world given pom ≡ Err Absent → has_pom world pom ≡ false
        by true e fails = absurd (subst Present fails (of_effective pom e))
        by false e fails = e

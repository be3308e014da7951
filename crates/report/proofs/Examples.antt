-- Worked examples: what is told of a module, and which files a dependency has.
use Rattle.std.proofs.Common.{◌≡◌, ℕ, true, false, List, [], ◌∷◌, codes, Some, None, refl}
use Rattle.mvn_base.specs.FileName.{file_name}
use Rattle.mvn_base.specs.Names.{is_group, is_name, is_name_byte, is_version, is_version_byte}
use Rattle.mvn_base.specs.Types.{type_rule}
use Rattle.mvn_base.specs.declared.gav.Gav.{Gav}
use Rattle.model_types.specs.declared.model.Model.{Model}
use Rattle.report.specs.BuildDetails.{notes_of}
use Rattle.classpaths.specs.declared.resolution.Resolution.{Resolution}
use Rattle.classpaths.specs.declared.resolution.Resolved.{Resolved}
use Rattle.report.specs.FullDetails.{details_of}
use Rattle.report.specs.Full.{file_of}

abbrev gav : List ℕ → Gav
gav group = record { group = group; artifact = codes "a"; version = codes "1" }

-- the jar of `g.h:a:1`
of_jar : (w : Resolved) → file_of (Some (record w { gav = gav (codes "g.h"); kind = codes "jar"; classifier = [] })) ≡ codes "g/h/a/1/a-1.jar" ∷ []
unfolding file_name is_group is_name is_name_byte is_version is_version_byte type_rule
of_jar w = refl

-- without a group there is no file
without_group : (w : Resolved) → file_of (Some (record w { gav = gav []; kind = codes "jar"; classifier = [] })) ≡ []
unfolding is_group is_name
without_group w = refl

-- where not all is asked for, the notes alone are told
notes_alone : (m : Model) (r : Resolution) (unbound : List (List ℕ)) → details_of false (m ∷ []) (r ∷ []) (unbound ∷ []) ≡ record { notes = notes_of r.notes unbound; full = None } ∷ []
notes_alone m r unbound = refl

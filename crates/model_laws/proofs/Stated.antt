-- What a POM that was read builds on states a group and a version.
use Rattle.std.proofs.Common.{◌≡◌, ℕ, Bool, true, false, List, [], ◌∷◌, Option, None, Some, Ok, refl, sym, ap, subst, ◌∙◌, if◌then◌else◌}
use Rattle.std.specs.Prelude.{codes, is_some}
use Rattle.std.specs.Option.{option_or}
use Rattle.mvn_base.specs.declared.gav.Gav.{Gav}
use Rattle.mvn_base.specs.declared.refusal.PomId.{PomId}
use Rattle.mvn_base.specs.declared.refusal.PomId.TheVariants as ids
use Rattle.mvn_base.specs.declared.rule.Rule.{Rule}
use Rattle.model_types.specs.declared.model.Parent.{Parent}
use Rattle.model_types.specs.declared.model.RawModel.{RawModel}
use Rattle.inheritance.specs.Inherit.{inherit, inherit_coordinates}
use Rattle.mvn_base.specs.Paths.{joined}
use Rattle.profiles.specs.Activation.{folder_of}
use Rattle.profiles.specs.Injection.{inject}
use Rattle.pom_source.specs.Chains.{bound, ok_is}
use Rattle.pom_source.specs.Worlds.{World}
use Rattle.pom_source.specs.declared.found.Given.{Given}
use Rattle.mvn_base.specs.Gav.{gav_eq}
use Rattle.lineage.specs.Beside.{at_second, found_origin, of_gav, or_at, origin_from, raw_gav, read_at}
use Rattle.lineage.specs.Lineage.{lineage, origin_of, unless, unstated}
use Rattle.lineage.specs.Reading.{read, read_file, with_profiles}
use Rattle.lineage.specs.Stores.{IsAt}
use Rattle.lineage.specs.declared.joined.Joined.{Joined}
use Rattle.lineage.specs.declared.origin.Origin.{Origin}
use Rattle.lineage.specs.declared.origin.Origin.TheVariants.{Beside, Elsewhere}
use Rattle.model_laws.specs.Lines.{IsLine, LeadsTo, is_stated, model_of}
use Rattle.model_laws.proofs.LinesOnce.{and_left, and_right, both_true}
use Rattle.model_laws.proofs.Rooted.{alone_stated}
use Rattle.model_laws.proofs.WholeLines.{line_is}

-- a POM that was read somewhere
abbrev WasRead : RawModel → Type 0
WasRead raw = (pom : PomId) × (bytes : List ℕ) × (read pom bytes ≡ Ok raw)

module _ (world : World) where
  -- what is said of a POM at a path is so
  is_at : (gav : Gav) (path : List ℕ) (found : Option RawModel) (o : Origin) → read_at world path ≡ Ok found → of_gav gav path found ≡ o → IsAt world o
  is_at gav path None o is e = subst (λ o. IsAt world o) e (record {})
  is_at gav path (Some raw) o is e = subst (λ o. IsAt world o) e (by (gav_eq (raw_gav raw) gav))
    where
      by : (b : Bool) → IsAt world (if b then Beside path raw else Elsewhere gav)
      by true = is
      by false = record {}

  second_at : (gav : Gav) (path : List ℕ) (o : Origin) → at_second world gav path ≡ Ok o → IsAt world o
  second_at gav path o e =
      let found = bound (read_at world path) _ o e in
      is_at gav path found.0 o found.1 (ok_is (of_gav gav path found.0) o found.2)

  either_at : (gav : Gav) (first second : List ℕ) (found : Option RawModel) (o : Origin) → read_at world first ≡ Ok found → or_at world gav first second found ≡ Ok o → IsAt world o
  either_at gav first second (Some raw) o is e = is_at gav first (Some raw) o is (ok_is (of_gav gav first (Some raw)) o e)
  either_at gav first second None o is e = second_at gav second o e

  from_at : (child : List ℕ) (gav : Gav) (path : List ℕ) (o : Origin) → origin_from world child gav path ≡ Ok o → IsAt world o
  from_at child gav [] o e = subst (λ o. IsAt world o) (ok_is (Elsewhere gav) o e) (record {})
  from_at child gav (b ∷ path) o e =
      let folder = joined (folder_of child) (b ∷ path) in
      let found = bound (read_at world (joined folder (codes "pom.xml"))) _ o e in
      either_at gav (joined folder (codes "pom.xml")) folder found.0 o found.1 found.2

  found_at : (child : PomId) (parent : Parent) (o : Origin) → found_origin world child parent ≡ Ok o → IsAt world o
  unfolding found_origin
  found_at (ids.Path child) parent o e = from_at child parent.gav parent.relative_path o e
  found_at (ids.Gav child) parent o e = subst (λ o. IsAt world o) (ok_is (Elsewhere parent.gav) o e) (record {})

  origin_at : (child : PomId) (parent : Parent) (o : Origin) → origin_of world child parent ≡ Ok o → IsAt world o
  origin_at child parent o e = by (unstated parent.gav) e
    where
      by : (stop : Option (Rule × List ℕ)) → unless child stop (found_origin world child parent) ≡ Ok o → IsAt world o
      by (Some stop) e = cc
      by None e = found_at child parent o e

  -- a file that is there was read
  file_read : (path : List ℕ) (file : Option (List ℕ)) (raw : RawModel) → read_file (ids.Path path) file ≡ Ok (Some raw) → WasRead raw
  file_read path None raw e = cc
  file_read path (Some bytes) raw e =
      let one = bound (read (ids.Path path) bytes) _ (Some raw) e in
      (ids.Path path, bytes, one.1 ∙ ap (λ r. Ok r) (some_is one.0 raw (ok_is (Some one.0) (Some raw) one.2)))
    where
      some_is : (x y : RawModel) → ◌≡◌ {A = Option RawModel} (Some x) (Some y) → x ≡ y
      some_is x y e = cc

  parent_read : (origin : Origin) (parent : RawModel) → IsAt world origin → LeadsTo world origin parent → WasRead parent
  parent_read (Beside path raw) parent at same = subst (λ r. WasRead r) same (file_read path (world.by_path path) raw at)
  parent_read (Elsewhere gav) parent at leads = (leads.0.pom, leads.0.bytes, leads.2)

  stated_or : (own up : Option (List ℕ)) → is_some up ≡ true → is_some (option_or own up) ≡ true
  stated_or (Some x) up e = refl
  stated_or None up e = e

  stated_own : (own up : Option (List ℕ)) → is_some own ≡ true → is_some (option_or own up) ≡ true
  stated_own (Some x) up e = refl
  stated_own None up e = cc

  -- a model states what it states over any other
  own_stays : (given : Given) (raw above : RawModel) → is_stated raw ≡ true → is_stated (inherit (with_profiles given world.there raw) above) ≡ true
  unfolding inherit inherit_coordinates inject
  own_stays given raw above e =
      both_true (is_some (option_or raw.coordinates.group above.coordinates.group)) _
      (stated_own raw.coordinates.group above.coordinates.group (and_left (is_some raw.coordinates.group) _ e))
      (stated_own raw.coordinates.version above.coordinates.version (and_right (is_some raw.coordinates.group) _ e))

  -- and what the other one states
  above_stays : (given : Given) (raw above : RawModel) → is_stated above ≡ true → is_stated (inherit (with_profiles given world.there raw) above) ≡ true
  unfolding inherit inherit_coordinates inject
  above_stays given raw above e =
      both_true (is_some (option_or raw.coordinates.group above.coordinates.group)) _
      (stated_or raw.coordinates.group above.coordinates.group (and_left (is_some above.coordinates.group) _ e))
      (stated_or raw.coordinates.version above.coordinates.version (and_right (is_some above.coordinates.group) _ e))

  line_stated : (given : Given) (parents : List RawModel) (pom : RawModel) → WasRead pom → IsLine world pom parents → is_stated (model_of world given (pom ∷ parents)) ≡ true
  line_stated given [] pom read line = own_stays given pom (model_of world given []) (alone_stated read.0 read.1 pom read.2 line)
  line_stated given (p ∷ ps) pom read line =
      above_stays given pom (model_of world given (p ∷ ps))
      (line_stated given ps p (parent_read line.0.origin p (origin_at pom.pom line.0.named line.0.origin line.0.comes) line.0.leads) line.1)

  pub lineage_stated : (given : Given) (pom : PomId) (bytes : List ℕ) (raw : RawModel) (joined : Joined) → read pom bytes ≡ Ok raw → lineage world given raw ≡ Ok joined → is_stated joined.model ≡ true
  lineage_stated given pom bytes raw joined is e =
      let whole = line_is world given raw joined e in
      subst (λ (m : RawModel). is_stated m ≡ true) (sym whole.model) (line_stated given whole.parents raw (pom, bytes, is) whole.line)

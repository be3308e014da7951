-- A model that is filled states what it stated.
use Rattle.std.proofs.Common.{◌≡◌, ℕ, true, List, Option, None, Some, Ok, Err, refl, sym, ap, ◌∙◌}
use Rattle.std.specs.Prelude.{codes, is_some}
use Rattle.mvn_base.specs.declared.machine.Machine.{Machine}
use Rattle.mvn_base.specs.declared.machine.Pair.{Pair}
use Rattle.mvn_base.specs.declared.refusal.PomId.{PomId}
use Rattle.model_types.specs.declared.model.Coordinates.{Coordinates}
use Rattle.model_types.specs.declared.model.RawModel.{RawModel}
use Rattle.interpolation.specs.Filling.{each, fill, fill_base, fill_build, fill_coordinates, fill_groups, fill_model, fill_outputs, fill_property, fill_sources, if_there, refused_in, with_groups}
use Rattle.interpolation.specs.Named.{named}
use Rattle.interpolation.specs.Texts.{name_of, text_of}
use Rattle.interpolation.specs.KnownValues.{Filled, ◌>>=◌}
use Rattle.model_laws.specs.Lines.{is_stated}
use Rattle.model_laws.proofs.LinesOnce.{and_left, and_right, both_true}

ok_same : {A : Type 0} (x y : A) → ◌≡◌ {A = Filled A} (Ok x) (Ok y) → x ≡ y
ok_same x y e = cc

after : {A B : Type 0} (said : Filled A) (f : A → Filled B) (y : B) → (said >>= f) ≡ Ok y → (x : A) × (said ≡ Ok x) × (f x ≡ Ok y)
after (Ok x) f y e = (x, refl, e)
after (Err fault) f y e = cc

-- what is there stays there
there_stays : (f : List ℕ → Filled (List ℕ)) (own full : Option (List ℕ)) → if_there f own ≡ Ok full → is_some own ≡ is_some full
there_stays f None full e = ap is_some (ok_same None full e)
there_stays f (Some x) full e = let y = after (f x) _ full e in ap is_some (ok_same (Some y.0) full y.2)

coordinates_stay : (known : List Pair) (own full : Coordinates) → fill_coordinates known own ≡ Ok full → (is_some own.group ≡ is_some full.group) × (is_some own.version ≡ is_some full.version)
unfolding fill_coordinates
coordinates_stay known own full e =
    let group = after (if_there (name_of known (codes "groupId")) own.group) _ full e in
    let artifact = after (name_of known (codes "artifactId") own.artifact) _ full group.2 in
    let version = after (if_there (name_of known (codes "version")) own.version) _ full artifact.2 in
    let packaging = after (text_of known (codes "packaging") own.packaging) _ full version.2 in
    let same = ok_same _ full packaging.2 in (
      there_stays (name_of known (codes "groupId")) own.group group.0 group.1 ∙ ap (λ (c : Coordinates). is_some c.group) same,
      there_stays (name_of known (codes "version")) own.version version.0 version.1 ∙ ap (λ (c : Coordinates). is_some c.version) same,
    )

model_stays : (known : List Pair) (raw full : RawModel) → fill_model known raw ≡ Ok full → fill_coordinates known raw.coordinates ≡ Ok full.coordinates
unfolding fill_groups
model_stays known raw full e =
    let properties = after (each (fill_property known) raw.base.properties) _ full e in
    let coordinates = after (fill_coordinates known raw.coordinates) _ full properties.2 in
    let outputs = after (fill_outputs known raw.build.outputs) _ full coordinates.2 in
    let sources = after (fill_sources known raw.build.sources) _ full outputs.2 in
    let base = after (fill_base known raw.base properties.0) _ full sources.2 in
    let build = after (fill_build known raw.build outputs.0 sources.0) _ full base.2 in
    let same = ok_same (with_groups raw coordinates.0 base.0 build.0) full build.2 in
    coordinates.1 ∙ ap (λ (m : RawModel). Ok m.coordinates) same

unrefused : (pom : PomId) (said : Filled RawModel) (full : RawModel) → refused_in pom said ≡ Ok full → said ≡ Ok full
unrefused pom (Ok m) full e = cc
unrefused pom (Err e) full e2 = cc

pub filled_stated : (model full : RawModel) (basedir : Option (List ℕ)) (machine : Machine) (defines : List Pair) → fill model basedir machine defines ≡ Ok full → is_stated model ≡ true → is_stated full ≡ true
unfolding fill
filled_stated model full basedir machine defines e stated =
    let known = named model basedir machine defines in
    let same = coordinates_stay known model.coordinates full.coordinates (model_stays known model full (unrefused model.pom (fill_model known model) full e)) in
    both_true (is_some full.coordinates.group) _
    (sym same.0 ∙ and_left (is_some model.coordinates.group) _ stated)
    (sym same.1 ∙ and_right (is_some model.coordinates.group) _ stated)

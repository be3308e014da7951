-- What a store has kept stays kept.
use Rattle.std.proofs.Common.{◌≡◌, ℕ, Bool, true, false, ◌&&◌, List, Option, None, Some, IfSome, Result, Ok, Err, OnOk, OnErr, refl, sym, ap, subst, ◌∙◌, if◌then◌else◌}
use Rattle.std.specs.Prelude.{is_some, OnSome}
use Rattle.std.specs.HashMap.{get}
use Rattle.std.specs.Str.{bytes_eq}
use Rattle.std.proofs.lemmas.Slice.Eq.{bytes_eq-Decides}
use Rattle.mvn_base.specs.declared.gav.Gav.{Gav}
use Rattle.mvn_base.specs.declared.refusal.PomId.{PomId}
use Rattle.model_types.specs.declared.model.Parent.{Parent}
use Rattle.model_types.specs.declared.model.RawModel.{RawModel}
use Rattle.pom_source.specs.Chains.{ok_is}
use Rattle.pom_source.specs.Worlds.{World}
use Rattle.mvn_base.specs.Gav.{gav_eq}
use Rattle.lineage.specs.Lineage.{origin_of}
use Rattle.lineage.specs.Stores.{KeepsLines, KeepsParent, KeepsRead, if_serves, known_in, line_in, places_in, read_in, serves}
use Rattle.lineage.specs.declared.joined.Joined.{Joined}
use Rattle.lineage.specs.declared.origin.Candidate.{Candidate}
use Rattle.lineage.specs.declared.origin.Origin.{Origin}
use Rattle.lineage.specs.declared.origin.Origin.TheVariants.{Beside, Elsewhere}
use Rattle.lineage.specs.declared.store.Store.{Store}
use Rattle.lineage.proofs.Holding.{same_path}

some_is : {A : Type 0} (x y : A) → ◌≡◌ {A = Option A} (Some x) (Some y) → x ≡ y
some_is x y e = cc

none_some : {A B : Type 0} (x : A) → ◌≡◌ {A = Option A} None (Some x) → B
none_some x e = cc

path_itself : (path : List ℕ) → bytes_eq path path ≡ true
path_itself path = (bytes_eq-Decides path path).1 refl

pub gav_itself : (gav : Gav) → gav_eq gav gav ≡ true
gav_itself gav =
    ap (λ b. b && (bytes_eq gav.artifact gav.artifact && bytes_eq gav.version gav.version)) (path_itself gav.group)
    ∙ ap (λ b. b && bytes_eq gav.version gav.version) (path_itself gav.artifact) ∙ path_itself gav.version

-- what is so is so whatever was read
pub untouched : {A : Type 0} (o : Option (Option RawModel)) → A → OnSome o A
untouched None so = record {}
untouched (Some x) so = so

pub untouched_active : {A : Type 0} (o : Option (List ℕ)) → A → OnSome o A
untouched_active None so = record {}
untouched_active (Some x) so = so

pub untouched_known : {A : Type 0} (o : Option (Option Candidate)) → A → OnSome o A
untouched_known None so = record {}
untouched_known (Some x) so = so

pub untouched_line : {A : Type 0} (left : ℕ) (seen : List PomId) (o : Option Joined) → A → IfSome o (λ line. serves left seen line ≡ true → A)
untouched_line left seen None so = record {}
untouched_line left seen (Some kept) so = λ fitting. so

-- a lineage that serves is there
pub served_there : (left : ℕ) (seen : List PomId) (o : Option Joined) (line : Joined) → Some line ≡ if_serves left seen o → is_some o ≡ true
served_there left seen None line e = none_some line (sym e)
served_there left seen (Some kept) line e = refl

-- what a parent builds on is kept under its origin
pub no_parent_kept : (world : World) (store : Store) (pom : PomId) → KeepsParent world store pom None
no_parent_kept world store pom named origin none = none_some named none

pub parent_kept : (world : World) (store : Store) (pom : PomId) (parent : Parent) (origin : Origin) → origin_of world pom parent ≡ Ok origin → is_some (line_in store origin) ≡ true → KeepsParent world store pom (Some parent)
parent_kept world store pom parent origin led there named other says comes =
    subst (λ o. is_some (line_in store o) ≡ true) (ok_is origin other (sym led ∙ ap (origin_of world pom) (some_is parent named says) ∙ comes)) there

-- what was put under a path is there
pub read_kept : {T E : Type 0} (r : Result T E) (old new : Store) (path : List ℕ) (found : Option RawModel)
    → OnOk r ((other : List ℕ) → get bytes_eq new.read other ≡ (if bytes_eq path other then Some found else get bytes_eq old.read other)) → OnOk r (read_in new path ≡ Some found)
read_kept (Ok x) old new path found ok = ok path ∙ ap (λ b. if b then Some found else get bytes_eq old.read path) (path_itself path)
read_kept (Err x) old new path found ok = record {}

-- so are places
pub active_kept : {T E : Type 0} (r : Result T E) (old new : Store) (path places : List ℕ)
    → OnOk r ((other : List ℕ) → get bytes_eq new.active other ≡ (if bytes_eq path other then Some places else get bytes_eq old.active other)) → OnOk r (places_in new path ≡ Some places)
active_kept (Ok x) old new path places ok = ok path ∙ ap (λ b. if b then Some places else get bytes_eq old.active path) (path_itself path)
active_kept (Err x) old new path places ok = record {}

-- and so under coordinates
pub known_kept : {T E : Type 0} (r : Result T E) (old new : Store) (gav : Gav) (found : Option Candidate)
    → OnOk r ((other : Gav) → get gav_eq new.known other ≡ (if gav_eq gav other then Some found else get gav_eq old.known other)) → OnOk r (known_in new gav ≡ Some found)
known_kept (Ok x) old new gav found ok = ok gav ∙ ap (λ b. if b then Some found else get gav_eq old.known gav) (gav_itself gav)
known_kept (Err x) old new gav found ok = record {}

-- and what is known of others is as it was
pub known_apart : {T E : Type 0} (r : Result T E) (old new : Store) (gav : Gav) (found : Option Candidate)
    → OnOk r ((other : Gav) → get gav_eq new.known other ≡ (if gav_eq gav other then Some found else get gav_eq old.known other))
    → OnErr r ((other : Gav) → get gav_eq new.known other ≡ get gav_eq old.known other) → (other : Gav) → gav_eq gav other ≡ false → known_in new other ≡ known_in old other
known_apart (Ok x) old new gav found ok err other apart = ok other ∙ ap (λ b. if b then Some found else get gav_eq old.known other) apart
known_apart (Err x) old new gav found ok err other apart = err other

-- and nothing is forgotten, if nothing was there
pub read_keeps : {T E : Type 0} (r : Result T E) (old new : Store) (path : List ℕ) (found : Option RawModel)
    → OnOk r ((other : List ℕ) → get bytes_eq new.read other ≡ (if bytes_eq path other then Some found else get bytes_eq old.read other))
    → OnErr r ((other : List ℕ) → get bytes_eq new.read other ≡ get bytes_eq old.read other) → read_in old path ≡ None → KeepsRead old new
read_keeps (Err x) old new path found ok err none p f there = err p ∙ there
read_keeps (Ok x) old new path found ok err none p f there = by (bytes_eq path p) refl
  where
    by : (same : Bool) → bytes_eq path p ≡ same → read_in new p ≡ Some f
    by true is = let none2 : read_in old p ≡ None = subst (λ q. read_in old q ≡ None) (same_path path p is) none in none_some f (sym none2 ∙ there)
    by false is = ok p ∙ ap (λ b. if b then Some found else get bytes_eq old.read p) is ∙ there

more_there : (same : Bool) (line : Joined) (old : Option Joined) → is_some old ≡ true → is_some (if same then Some line else old) ≡ true
more_there true line old e = refl
more_there false line old e = e

-- lineages stay where their maps do
pub lines_keep : (old new : Store) → ((path : List ℕ) → get bytes_eq new.beside path ≡ get bytes_eq old.beside path) → ((gav : Gav) → get gav_eq new.elsewhere gav ≡ get gav_eq old.elsewhere gav) → KeepsLines old new
lines_keep old new b e (Beside p raw) there = ap is_some (b p) ∙ there
lines_keep old new b e (Elsewhere gav) there = ap is_some (e gav) ∙ there

-- a lineage that was put under a path is there, and none is forgotten
pub beside_kept : {T E : Type 0} (r : Result T E) (old new : Store) (origin : Origin) (path : List ℕ) (raw : RawModel) (line : Joined) → origin ≡ Beside path raw
    → OnOk r ((other : List ℕ) → get bytes_eq new.beside other ≡ (if bytes_eq path other then Some line else get bytes_eq old.beside other)) → OnOk r (is_some (line_in new origin) ≡ true)
beside_kept (Ok x) old new origin path raw line is ok = ap (λ o. is_some (line_in new o)) is ∙ ap is_some (ok path ∙ ap (λ b. if b then Some line else get bytes_eq old.beside path) (path_itself path))
beside_kept (Err x) old new origin path raw line is ok = record {}

pub beside_keeps : {T E : Type 0} (r : Result T E) (old new : Store) (path : List ℕ) (line : Joined)
    → OnOk r ((other : List ℕ) → get bytes_eq new.beside other ≡ (if bytes_eq path other then Some line else get bytes_eq old.beside other))
    → OnErr r ((other : List ℕ) → get bytes_eq new.beside other ≡ get bytes_eq old.beside other) → ((gav : Gav) → get gav_eq new.elsewhere gav ≡ get gav_eq old.elsewhere gav) → KeepsLines old new
beside_keeps (Ok x) old new path line ok err e (Beside p raw) there = ap is_some (ok p) ∙ more_there (bytes_eq path p) line (get bytes_eq old.beside p) there
beside_keeps (Err x) old new path line ok err e (Beside p raw) there = ap is_some (err p) ∙ there
beside_keeps r old new path line ok err e (Elsewhere gav) there = ap is_some (e gav) ∙ there

-- and so under coordinates
pub elsewhere_kept : {T E : Type 0} (r : Result T E) (old new : Store) (origin : Origin) (gav : Gav) (line : Joined) → origin ≡ Elsewhere gav
    → OnOk r ((other : Gav) → get gav_eq new.elsewhere other ≡ (if gav_eq gav other then Some line else get gav_eq old.elsewhere other)) → OnOk r (is_some (line_in new origin) ≡ true)
elsewhere_kept (Ok x) old new origin gav line is ok = ap (λ o. is_some (line_in new o)) is ∙ ap is_some (ok gav ∙ ap (λ b. if b then Some line else get gav_eq old.elsewhere gav) (gav_itself gav))
elsewhere_kept (Err x) old new origin gav line is ok = record {}

pub elsewhere_keeps : {T E : Type 0} (r : Result T E) (old new : Store) (gav : Gav) (line : Joined)
    → OnOk r ((other : Gav) → get gav_eq new.elsewhere other ≡ (if gav_eq gav other then Some line else get gav_eq old.elsewhere other))
    → OnErr r ((other : Gav) → get gav_eq new.elsewhere other ≡ get gav_eq old.elsewhere other) → ((path : List ℕ) → get bytes_eq new.beside path ≡ get bytes_eq old.beside path) → KeepsLines old new
elsewhere_keeps (Ok x) old new gav line ok err b (Elsewhere other) there = ap is_some (ok other) ∙ more_there (gav_eq gav other) line (get gav_eq old.elsewhere other) there
elsewhere_keeps (Err x) old new gav line ok err b (Elsewhere other) there = ap is_some (err other) ∙ there
elsewhere_keeps r old new gav line ok err b (Beside p raw) there = ap is_some (b p) ∙ there

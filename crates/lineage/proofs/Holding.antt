-- What a store holds.
use Rattle.std.proofs.Common.{◌≡◌, ℕ, ◌≤◌, Bool, true, false, ◌&&◌, List, length, Option, None, Some, IfSome, Result, Ok, Err, OnOk, OnErr, refl, sym, ap, subst, ◌∙◌, if◌then◌else◌}
use Rattle.std.specs.HashMap.{get}
use Rattle.std.specs.Str.{bytes_eq}
use Rattle.std.proofs.lemmas.Slice.Eq.{bytes_eq-Decides}
use Rattle.mvn_base.specs.declared.gav.Gav.{Gav}
use Rattle.mvn_base.specs.declared.refusal.PomId.{PomId}
use Rattle.mvn_base.specs.declared.refusal.PomId.TheVariants as ids
use Rattle.model_types.specs.declared.model.RawModel.{RawModel}
use Rattle.pom_source.specs.Chains.{ok_is}
use Rattle.pom_source.specs.Worlds.{World}
use Rattle.pom_source.specs.declared.found.Given.{Given}
use Rattle.mvn_base.specs.Gav.{gav_eq}
use Rattle.lineage.specs.Beside.{of_gav, raw_gav, read_at}
use Rattle.lineage.specs.Lineage.{joined_from, known_at}
use Rattle.lineage.specs.Reading.{active_places, read_file}
use Rattle.lineage.specs.Stores.{AgreesOnPaths, AreActive, Holds, HoldsActive, HoldsKnown, HoldsLines, HoldsRead, IsAt, IsKept, known_in, line_in, meets, places_in, read_in}
use Rattle.lineage.specs.declared.joined.Joined.{Joined}
use Rattle.lineage.specs.declared.origin.Candidate.{Candidate}
use Rattle.lineage.specs.declared.origin.Origin.{Origin}
use Rattle.lineage.specs.declared.origin.Origin.TheVariants.{Beside, Elsewhere}
use Rattle.lineage.specs.declared.store.Store.{Store}

and_left : (a b : Bool) → (a && b) ≡ true → a ≡ true
and_left true b e = refl
and_left false b e = cc

and_right : (a b : Bool) → (a && b) ≡ true → b ≡ true
and_right true b e = e
and_right false b e = cc

pub same_gav : (a b : Gav) → gav_eq a b ≡ true → a ≡ b
same_gav a b e =
    let group = (bytes_eq-Decides a.group b.group).0 (and_left _ (bytes_eq a.artifact b.artifact && bytes_eq a.version b.version) e) in
    let rest = and_right (bytes_eq a.group b.group) _ e in
    let artifact = (bytes_eq-Decides a.artifact b.artifact).0 (and_left _ (bytes_eq a.version b.version) rest) in
    let version = (bytes_eq-Decides a.version b.version).0 (and_right (bytes_eq a.artifact b.artifact) _ rest) in
    (λ i. record { group = group i; artifact = artifact i; version = version i })

pub same_path : (a b : List ℕ) → bytes_eq a b ≡ true → a ≡ b
same_path a b e = (bytes_eq-Decides a b).0 e

some_is : {A : Type 0} (x y : A) → ◌≡◌ {A = Option A} (Some x) (Some y) → x ≡ y
some_is x y e = cc

-- one entry more, or as it was
more_or_kept : {A K : Type 0} (P : K → A → Type 0) (key other : K) (same : Bool) (there : Option A) (new : Option A) (x : A) → (same ≡ true → key ≡ other)
    → there ≡ (if same then Some x else new) → P key x → IfSome new (λ y. P other y) → IfSome there (λ y. P other y)
more_or_kept P key other true there new x is e here rest = subst (λ o. IfSome o (λ y. P other y)) (sym e) (subst (λ k. P k x) (is refl) here)
more_or_kept P key other false there new x is e here rest = subst (λ o. IfSome o (λ y. P other y)) (sym e) rest

-- no lineage is kept
lines_none : (world : World) (given : Given) (store : Store) → ((path : List ℕ) → get bytes_eq store.beside path ≡ None) → ((gav : Gav) → get gav_eq store.elsewhere gav ≡ None) → HoldsLines world given store
unfolding HoldsLines
lines_none world given store b e (Beside path raw) at = subst (λ o. IfSome o (λ kept. IsKept world given (Beside path raw) kept)) (sym (b path)) (record {})
lines_none world given store b e (Elsewhere gav) at = subst (λ o. IfSome o (λ kept. IsKept world given (Elsewhere gav) kept)) (sym (e gav)) (record {})

-- no places are kept
active_none : (world : World) (given : Given) (store : Store) → ((path : List ℕ) → get bytes_eq store.active path ≡ None) → HoldsActive world given store
unfolding HoldsActive
active_none world given store a path = subst (λ o. IfSome o (λ places. AreActive world given path places)) (sym (a path)) (record {})

-- nothing is known of any coordinates
known_none : (world : World) (store : Store) → ((gav : Gav) → get gav_eq store.known gav ≡ None) → HoldsKnown world store
unfolding HoldsKnown
known_none world store k gav = subst (λ o. IfSome o (λ found. known_at world gav ≡ Ok found)) (sym (k gav)) (record {})

-- what was read in a world was read in each that has the same POMs at their paths
read_other : (world other : World) (store : Store) → AgreesOnPaths world other → HoldsRead world store → HoldsRead other store
unfolding HoldsRead
read_other world other store same holds path =
    subst (λ (bytes : Option (List ℕ)). IfSome (read_in store path) (λ found. read_file (ids.Path path) bytes ≡ Ok found)) (sym (same path)) (holds path)

-- what holds of what is there, if it is more
if_more : {A : Type 0} (P Q : A → Type 0) (o : Option A) → ((x : A) → P x → Q x) → IfSome o P → IfSome o Q
if_more P Q None more so = record {}
if_more P Q (Some x) more so = more x so

-- places are the same where the same POMs and the same files are
active_other : (world other : World) (given : Given) (store : Store) → AgreesOnPaths world other → other.there ≡ world.there → HoldsActive world given store → HoldsActive other given store
unfolding HoldsActive AreActive
active_other world other given store same there holds path =
    if_more (λ places. AreActive world given path places) (λ places. AreActive other given path places) (places_in store path)
    (λ places are raw at. are raw (sym (ap (read_file (ids.Path path)) (same path)) ∙ at) ∙ ap (λ t. active_places given t raw) (sym there)) (holds path)

-- what was read and judged by path, without the rest
pub read_alone : (world other : World) (given : Given) (old new : Store) → new.read ≡ old.read → new.active ≡ old.active → ((gav : Gav) → get gav_eq new.known gav ≡ None) → ((path : List ℕ) → get bytes_eq new.beside path ≡ None) → ((gav : Gav) → get gav_eq new.elsewhere gav ≡ None)
    → Holds world given old → AgreesOnPaths world other → other.there ≡ world.there → Holds other given new
unfolding HoldsRead HoldsActive
read_alone world other given old new r a k b e holds same there = record {
  read = λ path. subst (λ o. IfSome o (λ found. read_at other path ≡ Ok found)) (sym (ap (λ m. get bytes_eq m path) r)) (read_other world other old same holds.read path);
  known = known_none other new k;
  lines = lines_none other given new b e;
  active = λ path. subst (λ o. IfSome o (λ places. AreActive other given path places)) (sym (ap (λ m. get bytes_eq m path) a)) (active_other world other given old same there holds.active path);
}

module _ (world : World) (given : Given) where
  pub nothing_held : (store : Store) → ((path : List ℕ) → get bytes_eq store.read path ≡ None) → ((gav : Gav) → get gav_eq store.known gav ≡ None) → ((path : List ℕ) → get bytes_eq store.beside path ≡ None) → ((gav : Gav) → get gav_eq store.elsewhere gav ≡ None) → ((path : List ℕ) → get bytes_eq store.active path ≡ None) → Holds world given store
  unfolding HoldsRead
  nothing_held store r k b e a = record {
    read = λ path. subst (λ o. IfSome o (λ found. read_at world path ≡ Ok found)) (sym (r path)) (record {});
    known = known_none world store k;
    lines = lines_none world given store b e;
    active = active_none world given store a;
  }

  pub read_serves : (store : Store) (path : List ℕ) (kept : Option (Option RawModel)) → Holds world given store → kept ≡ read_in store path → IfSome kept (λ found. read_at world path ≡ Ok found)
  unfolding HoldsRead
  read_serves store path kept holds is = subst (λ o. IfSome o (λ found. read_at world path ≡ Ok found)) (sym is) (holds.read path)

  pub known_serves : (store : Store) (gav : Gav) (kept : Option (Option Candidate)) → Holds world given store → kept ≡ known_in store gav → IfSome kept (λ found. known_at world gav ≡ Ok found)
  unfolding HoldsKnown
  known_serves store gav kept holds is = subst (λ o. IfSome o (λ found. known_at world gav ≡ Ok found)) (sym is) (holds.known gav)

  pub line_serves : (store : Store) (origin : Origin) (kept : Joined) (left : ℕ) (child : PomId) (seen : List PomId) → Holds world given store → IsAt world origin → line_in store origin ≡ Some kept → length kept.poms ≤ left → meets kept.poms seen ≡ false → joined_from world given left child seen origin ≡ Ok kept
  unfolding HoldsLines IsKept
  line_serves store origin kept left child seen holds at is fits free = (subst (λ o. IfSome o (λ kept. IsKept world given origin kept)) is (holds.lines origin at)) left child seen fits free

  pub active_serves : (store : Store) (path : List ℕ) (kept : Option (List ℕ)) → Holds world given store → kept ≡ places_in store path → IfSome kept (λ places. AreActive world given path places)
  unfolding HoldsActive
  active_serves store path kept holds is = subst (λ o. IfSome o (λ places. AreActive world given path places)) (sym is) (holds.active path)

  -- lines stay where their maps do
  lines_same : (old new : Store) → ((origin : Origin) → line_in new origin ≡ line_in old origin) → HoldsLines world given old → HoldsLines world given new
  unfolding HoldsLines
  lines_same old new same holds origin at = subst (λ o. IfSome o (λ kept. IsKept world given origin kept)) (sym (same origin)) (holds origin at)

  line_maps : (old new : Store) → ((path : List ℕ) → get bytes_eq new.beside path ≡ get bytes_eq old.beside path) → ((gav : Gav) → get gav_eq new.elsewhere gav ≡ get gav_eq old.elsewhere gav) → (origin : Origin) → line_in new origin ≡ line_in old origin
  line_maps old new b e (Beside path raw) = b path
  line_maps old new b e (Elsewhere gav) = e gav

  read_maps : (old new : Store) → ((path : List ℕ) → get bytes_eq new.read path ≡ get bytes_eq old.read path) → HoldsRead world old → HoldsRead world new
  unfolding HoldsRead
  read_maps old new same holds path = subst (λ o. IfSome o (λ found. read_at world path ≡ Ok found)) (sym (same path)) (holds path)

  known_maps : (old new : Store) → ((gav : Gav) → get gav_eq new.known gav ≡ get gav_eq old.known gav) → HoldsKnown world old → HoldsKnown world new
  unfolding HoldsKnown
  known_maps old new same holds gav = subst (λ o. IfSome o (λ found. known_at world gav ≡ Ok found)) (sym (same gav)) (holds gav)

  active_maps : (old new : Store) → ((path : List ℕ) → get bytes_eq new.active path ≡ get bytes_eq old.active path) → HoldsActive world given old → HoldsActive world given new
  unfolding HoldsActive
  active_maps old new same holds path = subst (λ o. IfSome o (λ places. AreActive world given path places)) (sym (same path)) (holds path)

  -- the same of each map is kept
  pub holds_same : (old new : Store) → ((path : List ℕ) → get bytes_eq new.read path ≡ get bytes_eq old.read path) → ((gav : Gav) → get gav_eq new.known gav ≡ get gav_eq old.known gav) → ((path : List ℕ) → get bytes_eq new.beside path ≡ get bytes_eq old.beside path) → ((gav : Gav) → get gav_eq new.elsewhere gav ≡ get gav_eq old.elsewhere gav) → ((path : List ℕ) → get bytes_eq new.active path ≡ get bytes_eq old.active path) → Holds world given old → Holds world given new
  holds_same old new r k b e a holds = record {
    read = read_maps old new r holds.read;
    known = known_maps old new k holds.known;
    lines = lines_same old new (line_maps old new b e) holds.lines;
    active = active_maps old new a holds.active;
  }

  -- what was read at one path more
  pub read_more : (old new : Store) (path : List ℕ) (found : Option RawModel) → ((other : List ℕ) → get bytes_eq new.read other ≡ (if bytes_eq path other then Some found else get bytes_eq old.read other))
      → ((gav : Gav) → get gav_eq new.known gav ≡ get gav_eq old.known gav) → ((other : List ℕ) → get bytes_eq new.beside other ≡ get bytes_eq old.beside other) → ((gav : Gav) → get gav_eq new.elsewhere gav ≡ get gav_eq old.elsewhere gav)
      → ((path : List ℕ) → get bytes_eq new.active path ≡ get bytes_eq old.active path) → Holds world given old → read_at world path ≡ Ok found → Holds world given new
  unfolding HoldsRead
  read_more old new path found r k b e a holds is = record {
    read = λ other. more_or_kept (λ p f. read_at world p ≡ Ok f) path other (bytes_eq path other) (get bytes_eq new.read other) (get bytes_eq old.read other) found (same_path path other) (r other) is (holds.read other);
    known = known_maps old new k holds.known;
    lines = lines_same old new (line_maps old new b e) holds.lines;
    active = active_maps old new a holds.active;
  }

  -- the places of the active profiles of the POM at one path more
  pub active_more : (old new : Store) (path places : List ℕ) → ((other : List ℕ) → get bytes_eq new.active other ≡ (if bytes_eq path other then Some places else get bytes_eq old.active other))
      → ((other : List ℕ) → get bytes_eq new.read other ≡ get bytes_eq old.read other) → ((gav : Gav) → get gav_eq new.known gav ≡ get gav_eq old.known gav) → ((other : List ℕ) → get bytes_eq new.beside other ≡ get bytes_eq old.beside other) → ((gav : Gav) → get gav_eq new.elsewhere gav ≡ get gav_eq old.elsewhere gav)
      → Holds world given old → AreActive world given path places → Holds world given new
  unfolding HoldsActive
  active_more old new path places a r k b e holds are = record {
    read = read_maps old new r holds.read;
    known = known_maps old new k holds.known;
    lines = lines_same old new (line_maps old new b e) holds.lines;
    active = λ other. more_or_kept (λ p l. AreActive world given p l) path other (bytes_eq path other) (get bytes_eq new.active other) (get bytes_eq old.active other) places (same_path path other) (a other) are (holds.active other);
  }

  -- what is known of one POM by coordinates more
  pub known_more : (old new : Store) (gav : Gav) (found : Option Candidate) → ((other : Gav) → get gav_eq new.known other ≡ (if gav_eq gav other then Some found else get gav_eq old.known other))
      → ((path : List ℕ) → get bytes_eq new.read path ≡ get bytes_eq old.read path) → ((other : List ℕ) → get bytes_eq new.beside other ≡ get bytes_eq old.beside other) → ((other : Gav) → get gav_eq new.elsewhere other ≡ get gav_eq old.elsewhere other)
      → ((path : List ℕ) → get bytes_eq new.active path ≡ get bytes_eq old.active path) → Holds world given old → known_at world gav ≡ Ok found → Holds world given new
  unfolding HoldsKnown
  known_more old new gav found k r b e a holds is = record {
    read = read_maps old new r holds.read;
    known = λ other. more_or_kept (λ g f. known_at world g ≡ Ok f) gav other (gav_eq gav other) (get gav_eq new.known other) (get gav_eq old.known other) found (same_gav gav other) (k other) is (holds.known other);
    lines = lines_same old new (line_maps old new b e) holds.lines;
    active = active_maps old new a holds.active;
  }

  -- a lineage more under a path: it serves each origin at the path, since only one POM is there
  pub beside_more : (old new : Store) (path : List ℕ) (raw : RawModel) (line : Joined) → ((other : List ℕ) → get bytes_eq new.beside other ≡ (if bytes_eq path other then Some line else get bytes_eq old.beside other))
      → ((other : List ℕ) → get bytes_eq new.read other ≡ get bytes_eq old.read other) → ((gav : Gav) → get gav_eq new.known gav ≡ get gav_eq old.known gav) → ((gav : Gav) → get gav_eq new.elsewhere gav ≡ get gav_eq old.elsewhere gav)
      → ((path : List ℕ) → get bytes_eq new.active path ≡ get bytes_eq old.active path) → Holds world given old → read_at world path ≡ Ok (Some raw) → IsKept world given (Beside path raw) line → Holds world given new
  unfolding HoldsLines
  beside_more old new path raw line b r k e a holds is kept = record {
    read = read_maps old new r holds.read;
    known = known_maps old new k holds.known;
    lines = λ origin. at origin;
    active = active_maps old new a holds.active;
  }
    where
      of_path : (p : List ℕ) (other : RawModel) → path ≡ p → read_at world p ≡ Ok (Some other) → IsKept world given (Beside p other) line
      of_path p other same at =
          let one : raw ≡ other = some_is raw other (ok_is (Some raw) (Some other) (sym is ∙ ap (read_at world) same ∙ at)) in
          subst (λ q. IsKept world given (Beside q other) line) same (subst (λ r. IsKept world given (Beside path r) line) one kept)

      by : (p : List ℕ) (other : RawModel) (same : Bool) → bytes_eq path p ≡ same → read_at world p ≡ Ok (Some other) → IfSome (if same then Some line else get bytes_eq old.beside p) (λ k. IsKept world given (Beside p other) k)
      by p other true same at = of_path p other (same_path path p same) at
      by p other false same at = holds.lines (Beside p other) at

      at : (origin : Origin) → IsAt world origin → IfSome (line_in new origin) (λ k. IsKept world given origin k)
      at (Beside p other) there = subst (λ o. IfSome o (λ k. IsKept world given (Beside p other) k)) (sym (b p)) (by p other (bytes_eq path p) refl there)
      at (Elsewhere gav) there = subst (λ o. IfSome o (λ k. IsKept world given (Elsewhere gav) k)) (sym (e gav)) (holds.lines (Elsewhere gav) there)

  -- and under coordinates
  pub elsewhere_more : (old new : Store) (gav : Gav) (line : Joined) → ((other : Gav) → get gav_eq new.elsewhere other ≡ (if gav_eq gav other then Some line else get gav_eq old.elsewhere other))
      → ((other : List ℕ) → get bytes_eq new.read other ≡ get bytes_eq old.read other) → ((other : Gav) → get gav_eq new.known other ≡ get gav_eq old.known other) → ((other : List ℕ) → get bytes_eq new.beside other ≡ get bytes_eq old.beside other)
      → ((path : List ℕ) → get bytes_eq new.active path ≡ get bytes_eq old.active path) → Holds world given old → IsKept world given (Elsewhere gav) line → Holds world given new
  unfolding HoldsLines
  elsewhere_more old new gav line e r k b a holds kept = record {
    read = read_maps old new r holds.read;
    known = known_maps old new k holds.known;
    lines = λ origin. at origin;
    active = active_maps old new a holds.active;
  }
    where
      by : (other : Gav) (same : Bool) → gav_eq gav other ≡ same → IfSome (if same then Some line else get gav_eq old.elsewhere other) (λ k. IsKept world given (Elsewhere other) k)
      by other true same = subst (λ g. IsKept world given (Elsewhere g) line) (same_gav gav other same) kept
      by other false same = holds.lines (Elsewhere other) (record {})

      at : (origin : Origin) → IsAt world origin → IfSome (line_in new origin) (λ k. IsKept world given origin k)
      at (Beside p other) there = subst (λ o. IfSome o (λ k. IsKept world given (Beside p other) k)) (sym (b p)) (holds.lines (Beside p other) there)
      at (Elsewhere other) there = subst (λ o. IfSome o (λ k. IsKept world given (Elsewhere other) k)) (sym (e other)) (by other (gav_eq gav other) refl)

  -- so whatever came of the putting
  pub read_put : {T E : Type 0} (r : Result T E) (old new : Store) (path : List ℕ) (found : Option RawModel)
      → OnOk r ((other : List ℕ) → get bytes_eq new.read other ≡ (if bytes_eq path other then Some found else get bytes_eq old.read other))
      → OnErr r ((other : List ℕ) → get bytes_eq new.read other ≡ get bytes_eq old.read other)
      → ((gav : Gav) → get gav_eq new.known gav ≡ get gav_eq old.known gav) → ((other : List ℕ) → get bytes_eq new.beside other ≡ get bytes_eq old.beside other) → ((gav : Gav) → get gav_eq new.elsewhere gav ≡ get gav_eq old.elsewhere gav)
      → ((path : List ℕ) → get bytes_eq new.active path ≡ get bytes_eq old.active path) → Holds world given old → read_at world path ≡ Ok found → Holds world given new
  read_put (Ok x) old new path found ok err k b e a holds is = read_more old new path found ok k b e a holds is
  read_put (Err x) old new path found ok err k b e a holds is = holds_same old new err k b e a holds

  pub known_put : {T E : Type 0} (r : Result T E) (old new : Store) (gav : Gav) (found : Option Candidate)
      → OnOk r ((other : Gav) → get gav_eq new.known other ≡ (if gav_eq gav other then Some found else get gav_eq old.known other))
      → OnErr r ((other : Gav) → get gav_eq new.known other ≡ get gav_eq old.known other)
      → ((path : List ℕ) → get bytes_eq new.read path ≡ get bytes_eq old.read path) → ((other : List ℕ) → get bytes_eq new.beside other ≡ get bytes_eq old.beside other) → ((other : Gav) → get gav_eq new.elsewhere other ≡ get gav_eq old.elsewhere other)
      → ((path : List ℕ) → get bytes_eq new.active path ≡ get bytes_eq old.active path) → Holds world given old → known_at world gav ≡ Ok found → Holds world given new
  known_put (Ok x) old new gav found ok err r b e a holds is = known_more old new gav found ok r b e a holds is
  known_put (Err x) old new gav found ok err r b e a holds is = holds_same old new r err b e a holds

  pub beside_put : {T E : Type 0} (r : Result T E) (old new : Store) (path : List ℕ) (raw : RawModel) (line : Joined)
      → OnOk r ((other : List ℕ) → get bytes_eq new.beside other ≡ (if bytes_eq path other then Some line else get bytes_eq old.beside other))
      → OnErr r ((other : List ℕ) → get bytes_eq new.beside other ≡ get bytes_eq old.beside other)
      → ((other : List ℕ) → get bytes_eq new.read other ≡ get bytes_eq old.read other) → ((gav : Gav) → get gav_eq new.known gav ≡ get gav_eq old.known gav) → ((gav : Gav) → get gav_eq new.elsewhere gav ≡ get gav_eq old.elsewhere gav)
      → ((path : List ℕ) → get bytes_eq new.active path ≡ get bytes_eq old.active path) → Holds world given old → read_at world path ≡ Ok (Some raw) → IsKept world given (Beside path raw) line → Holds world given new
  beside_put (Ok x) old new path raw line ok err r k e a holds is kept = beside_more old new path raw line ok r k e a holds is kept
  beside_put (Err x) old new path raw line ok err r k e a holds is kept = holds_same old new r k err e a holds

  pub elsewhere_put : {T E : Type 0} (r : Result T E) (old new : Store) (gav : Gav) (line : Joined)
      → OnOk r ((other : Gav) → get gav_eq new.elsewhere other ≡ (if gav_eq gav other then Some line else get gav_eq old.elsewhere other))
      → OnErr r ((other : Gav) → get gav_eq new.elsewhere other ≡ get gav_eq old.elsewhere other)
      → ((other : List ℕ) → get bytes_eq new.read other ≡ get bytes_eq old.read other) → ((other : Gav) → get gav_eq new.known other ≡ get gav_eq old.known other) → ((other : List ℕ) → get bytes_eq new.beside other ≡ get bytes_eq old.beside other)
      → ((path : List ℕ) → get bytes_eq new.active path ≡ get bytes_eq old.active path) → Holds world given old → IsKept world given (Elsewhere gav) line → Holds world given new
  elsewhere_put (Ok x) old new gav line ok err r k b a holds kept = elsewhere_more old new gav line ok r k b a holds kept
  elsewhere_put (Err x) old new gav line ok err r k b a holds kept = holds_same old new r k b err a holds

  pub active_put : {T E : Type 0} (r : Result T E) (old new : Store) (path places : List ℕ)
      → OnOk r ((other : List ℕ) → get bytes_eq new.active other ≡ (if bytes_eq path other then Some places else get bytes_eq old.active other))
      → OnErr r ((other : List ℕ) → get bytes_eq new.active other ≡ get bytes_eq old.active other)
      → ((other : List ℕ) → get bytes_eq new.read other ≡ get bytes_eq old.read other) → ((gav : Gav) → get gav_eq new.known gav ≡ get gav_eq old.known gav) → ((other : List ℕ) → get bytes_eq new.beside other ≡ get bytes_eq old.beside other) → ((gav : Gav) → get gav_eq new.elsewhere gav ≡ get gav_eq old.elsewhere gav)
      → Holds world given old → AreActive world given path places → Holds world given new
  active_put (Ok x) old new path places ok err r k b e holds are = active_more old new path places ok r k b e holds are
  active_put (Err x) old new path places ok err r k b e holds are = holds_same old new r k b e err holds

  -- what was looked for at a path is there
  pub at_is : (gav : Gav) (path : List ℕ) (found : Option RawModel) (o : Origin) → read_at world path ≡ Ok found → o ≡ of_gav gav path found → IsAt world o
  at_is gav path None o is e = subst (λ o. IsAt world o) (sym e) (record {})
  at_is gav path (Some raw) o is e = subst (λ o. IsAt world o) (sym e) (by (gav_eq (raw_gav raw) gav))
    where
      by : (b : Bool) → IsAt world (if b then Beside path raw else Elsewhere gav)
      by true = is
      by false = record {}

-- Which profiles are active of a POM that was read.
use Rattle.std.proofs.Common.{◌≡◌, Bool, true, false, ℕ, List, Some, Option, Ok, Err, Result, refl, sym, ap, subst, ◌∙◌, if◌then◌else◌}
use Rattle.std.specs.Prelude.{codes}
use Rattle.std.specs.Str.{bytes_eq}
use Rattle.mvn_base.specs.declared.refusal.PomId.{PomId}
use Rattle.mvn_base.specs.declared.rule.Rule.TheVariants.{ParentCycle, ParentPackaging}
use Rattle.mvn_base.specs.declared.gav.Gav.{Gav}
use Rattle.model_types.specs.declared.model.Parent.{Parent}
use Rattle.model_types.specs.declared.model.RawModel.{RawModel}
use Rattle.profiles.specs.Injection.{inject}
use Rattle.pom_source.specs.Answers.{Built, Fails, Says, ◌>>=◌}
use Rattle.pom_source.specs.Chains.{goes_on, ok_is}
use Rattle.pom_source.specs.Refusals.{gav_refused}
use Rattle.pom_source.specs.Worlds.{World}
use Rattle.pom_source.specs.declared.fault.BuildFault.{BuildFault}
use Rattle.pom_source.specs.declared.fault.BuildFault.TheVariants.{Refused, Absent, Source, Memory}
use Rattle.pom_source.specs.declared.found.Given.{Given}
use Rattle.lineage.specs.Beside.{read_at}
use Rattle.lineage.specs.Lineage.{above, entered, gav_of, is_in, line, next_poms, packed, parent_from, pom_of, put_over, text_of, unmet}
use Rattle.lineage.specs.Reading.{active_places}
use Rattle.lineage.specs.Stores.{AreActive, IsAt, IsThere, LedThere}
use Rattle.lineage.specs.declared.joined.Joined.{Joined}
use Rattle.lineage.specs.declared.origin.Candidate.{Candidate}
use Rattle.lineage.specs.declared.origin.Candidate.TheVariants as candidates
use Rattle.lineage.specs.declared.origin.Origin.{Origin}
use Rattle.lineage.specs.declared.origin.Origin.TheVariants.{Beside, Elsewhere}

some_is : {A : Type 0} (x y : A) → ◌≡◌ {A = Option A} (Some x) (Some y) → x ≡ y
some_is x y e = cc

-- the places that were found are those of the one POM that is at the path
pub are_active : (world : World) (given : Given) (path : List ℕ) (raw : RawModel) (places : List ℕ) → read_at world path ≡ Ok (Some raw)
    → ◌≡◌ {A = Built (List ℕ)} (Ok (active_places given world.there raw)) (Ok places) → AreActive world given path places
unfolding AreActive
are_active world given path raw places at is other there =
    let one : raw ≡ other = some_is raw other (ok_is (Some raw) (Some other) (sym at ∙ there)) in
    sym (ok_is (active_places given world.there raw) places is) ∙ ap (active_places given world.there) one

-- and serve it
pub serves_raw : (world : World) (given : Given) (path : List ℕ) (raw : RawModel) (places : List ℕ) → AreActive world given path places → read_at world path ≡ Ok (Some raw)
    → ◌≡◌ {A = Built (List ℕ)} (Ok (active_places given world.there raw)) (Ok places)
unfolding AreActive
serves_raw world given path raw places are at = ap (λ l. Ok l) (sym (are raw at))

-- the POM at the path of an origin
pub at_beside : (world : World) (origin : Origin) (path : List ℕ) (other raw : RawModel) → origin ≡ Beside path other → IsThere world origin raw → read_at world path ≡ Ok (Some raw)
at_beside world origin path other raw is there = subst (λ o. IsThere world o raw) is there

-- a parent that wasn't met before is the POM that its origin leads to
unmet_is : (child : PomId) (seen : List PomId) (gav : Gav) (there found : Candidate) → unmet child seen gav there ≡ Ok found → there ≡ found
unmet_is child seen gav there found e = by (is_in (pom_of there) seen) e
  where
    by : (b : Bool) → (if b then Err (gav_refused child ParentCycle gav) else Ok there) ≡ Ok found → there ≡ found
    by true e = cc
    by false e = ok_is there found e

pub led_there : (world : World) (child : PomId) (seen : List PomId) (origin : Origin) (found : Candidate) → IsAt world origin → parent_from world child seen origin ≡ Ok found → LedThere world origin found
led_there world child seen (Elsewhere gav) found at is raw text = record {}
led_there world child seen (Beside path other) found at is raw text =
    let one = unmet_is child seen (gav_of (Beside path other)) (candidates.Read other) found is in
    let same : other ≡ raw = ok_is other raw (ap text_of one ∙ text) in
    subst (λ (r : RawModel). read_at world path ≡ Ok (Some r)) same at

-- and so is what it says, if its packaging is `pom`
packed_is : (child : PomId) (gav : Gav) (raw r : RawModel) → packed child gav raw ≡ Ok r → raw ≡ r
packed_is child gav raw r e = by (bytes_eq raw.coordinates.packaging (codes "pom")) e
  where
    by : (b : Bool) → (if b then Ok raw else Err (gav_refused child ParentPackaging gav)) ≡ Ok r → raw ≡ r
    by true e = ok_is raw r e
    by false e = cc

pub packed_there : (world : World) (child : PomId) (origin : Origin) (found : Candidate) (raw r : RawModel) → LedThere world origin found → text_of found ≡ Ok raw → packed child (gav_of origin) raw ≡ Ok r → IsThere world origin r
packed_there world child origin found raw r led text pack = subst (λ m. IsThere world origin m) (packed_is child (gav_of origin) raw r pack) (led raw text)

-- a fault of a step that is never refused
pub never_refused : {A B : Type 0} (x : A) (said : Built B) (fault : BuildFault) → Fails {A = A} (Ok x) fault → Fails said fault
never_refused x said (Refused r) e = cc
never_refused x said Absent e = cc
never_refused x said Source e = record {}
never_refused x said Memory e = record {}

-- a POM with its profiles, over what it builds on
pub line_gives : (world : World) (given : Given) (up : PomId → List PomId → Parent → Built Joined) (seen : List PomId) (raw own : RawModel) (places : List ℕ) (p joined : Joined)
    → above (up raw.pom (next_poms seen raw.pom)) raw.parent ≡ Ok p → own ≡ inject raw places → places ≡ active_places given world.there raw → joined ≡ put_over raw.pom own p
    → line world given up seen raw ≡ Ok joined
line_gives world given up seen raw own places p joined over is are put =
    ap (λ r. r >>= (λ q. Ok (put_over raw.pom (inject raw (active_places given world.there raw)) q))) over
    ∙ ap (λ l. Ok (put_over raw.pom (inject raw l) p)) (sym are) ∙ ap (λ m. Ok (put_over raw.pom m p)) (sym is) ∙ ap (λ j. Ok j) (sym put)

-- the places that a call gives
pub are_places : (x y : List ℕ) → ◌≡◌ {A = Built (List ℕ)} (Ok x) (Ok y) → y ≡ x
are_places x y e = sym (ok_is x y e)

-- a call of what is read of a parent, whose places it gives
pub placed : (world : World) (given : Given) (raw lent : RawModel) (places held : List ℕ) → lent ≡ raw → held ≡ places
    → ◌≡◌ {A = Built (List ℕ)} (Ok (active_places given world.there lent)) (Ok places) → held ≡ active_places given world.there raw
placed world given raw lent places held same there told =
    there ∙ are_places (active_places given world.there lent) places told ∙ ap (active_places given world.there) same

-- a parent that was found, and what it builds on
pub entered_says : (world : World) (given : Given) (up : PomId → List PomId → Parent → Built Joined) (child : PomId) (seen : List PomId) (gav : Gav) (found : Candidate) (raw r : RawModel) (result : Result Joined BuildFault)
    → text_of found ≡ Ok raw → packed child gav raw ≡ Ok r → Says (line world given up seen r) result → Says (entered world given up child seen gav found) result
entered_says world given up child seen gav found raw r result text pack says =
    goes_on (text_of found) (λ m. packed child gav m >>= line world given up seen) raw result text
    (goes_on (packed child gav raw) (line world given up seen) r result pack says)

-- What is built on, one POM at a time.
use Rattle.std.proofs.Common.{◌≡◌, ◌≢◌, ℕ, zero, suc, ◌-◌, true, List, [], codes, Some, IfSome, Result, Ok, Err, refl, arith, sym, ap, subst, ◌∙◌, if◌then◌else◌}
use Rattle.std.specs.Str.{bytes_eq}
use Rattle.mvn_base.specs.declared.refusal.PomId.{PomId}
use Rattle.mvn_base.specs.declared.rule.Rule.TheVariants.{LineageTooLong, ParentPackaging}
use Rattle.model_types.specs.declared.model.RawModel.{RawModel}
use Rattle.pom_source.specs.Answers.{Built, Fails, Says, ◌>>=◌}
use Rattle.pom_source.specs.Chains.{goes_on, stop_fails}
use Rattle.pom_source.specs.Refusals.{gav_refused}
use Rattle.pom_source.specs.Worlds.{World}
use Rattle.pom_source.specs.declared.fault.BuildFault.{BuildFault}
use Rattle.pom_source.specs.declared.found.Given.{Given}
use Rattle.lineage.specs.Beside.{raw_gav, read_at}
use Rattle.lineage.specs.Lineage.{entered, first_of, gav_of, joined_from, joined_up, line, lineage, parent_from}
use Rattle.lineage.specs.Stores.{IsAt, line_in, serves}
use Rattle.lineage.specs.declared.joined.Joined.{Joined}
use Rattle.lineage.specs.declared.origin.Candidate.{Candidate}
use Rattle.lineage.specs.declared.origin.Origin.{Origin}
use Rattle.lineage.specs.declared.origin.Origin.TheVariants.{Beside}
use Rattle.lineage.specs.declared.store.Store.{Store}

module _ (world : World) (given : Given) (left : ℕ) (child : PomId) (seen : List PomId) (origin : Origin) where
  pub joined_stops : (fault : BuildFault) → Fails (parent_from world child seen origin) fault → Fails (joined_from world given left child seen origin) fault
  unfolding joined_from
  joined_stops fault fails = by left
    where
      by : (n : ℕ) → Fails (joined_from world given n child seen origin) fault
      by zero = stop_fails (parent_from world child seen origin) _ fault fails
      by (suc n) = stop_fails (parent_from world child seen origin) _ fault fails

  pub joined_zero : (found : Candidate) (r : Result Joined BuildFault) → left ≡ 0 → parent_from world child seen origin ≡ Ok found → Says (Err (gav_refused (first_of seen child) LineageTooLong (gav_of origin))) r → Says (joined_from world given left child seen origin) r
  unfolding joined_from
  joined_zero found r is = by left is
    where
      by : (n : ℕ) → n ≡ 0 → parent_from world child seen origin ≡ Ok found → Says (Err (gav_refused (first_of seen child) LineageTooLong (gav_of origin))) r → Says (joined_from world given n child seen origin) r
      by zero few there so = goes_on (parent_from world child seen origin) _ found r there so
      by (suc n) few there so = absurd (omega arith)

  pub joined_more : (found : Candidate) (r : Result Joined BuildFault) → left ≢ 0 → parent_from world child seen origin ≡ Ok found → Says (entered world given (joined_up world given (left - 1)) child seen (gav_of origin) found) r → Says (joined_from world given left child seen origin) r
  unfolding joined_from
  joined_more found r is = by left is
    where
      by : (n : ℕ) → n ≢ 0 → parent_from world child seen origin ≡ Ok found → Says (entered world given (joined_up world given (n - 1)) child seen (gav_of origin) found) r → Says (joined_from world given n child seen origin) r
      by zero few there so = absurd (few refl)
      by (suc n) few there so =
          let same : suc n - 1 ≡ n = omega arith in
          goes_on (parent_from world child seen origin) _ found r there (subst (λ k. Says (entered world given (joined_up world given k) child seen (gav_of origin) found) r) same so)

-- what was read at a path is there
pub at_path : (world : World) (path : List ℕ) (raw : RawModel) (origin : Origin) → origin ≡ Beside path raw → read_at world path ≡ Ok (Some raw) → IsAt world origin
at_path world path raw origin is at = subst (λ o. IsAt world o) (sym is) at

-- a POM of packaging `pom` comes to the same as a parent and by itself
alike : (world : World) (given : Given) (child : PomId) (path : List ℕ) (raw : RawModel) → bytes_eq raw.coordinates.packaging (codes "pom") ≡ true
    → joined_from world given 32 child [] (Beside path raw) ≡ lineage world given raw
unfolding joined_from
alike world given child path raw is =
    ap (λ b. (if b then Ok raw else Err (gav_refused child ParentPackaging (raw_gav raw))) >>= line world given (joined_up world given 31) []) is

pub as_parent : (world : World) (given : Given) (child : PomId) (path : List ℕ) (raw : RawModel) (seen : List PomId) (origin : Origin) (r : Result Joined BuildFault)
    → bytes_eq raw.coordinates.packaging (codes "pom") ≡ true → seen ≡ [] → origin ≡ Beside path raw
    → Says (joined_from world given 32 child seen origin) r → Says (lineage world given raw) r
as_parent world given child path raw seen origin r is none at says =
    subst (λ s. Says s r) (ap (λ l. joined_from world given 32 child l origin) none ∙ ap (joined_from world given 32 child []) at ∙ alike world given child path raw is) says

-- what was kept of it as a parent serves it
pub unasked_as : (A : Type 0) (store : Store) (path : List ℕ) (raw : RawModel) (seen : List PomId) (origin : Origin) → seen ≡ [] → origin ≡ Beside path raw
    → IfSome (line_in store origin) (λ line. serves 32 seen line ≡ true → A) → IfSome (line_in store (Beside path raw)) (λ line. serves 32 [] line ≡ true → A)
unasked_as A store path raw seen origin none at so =
    subst (λ l. IfSome (line_in store (Beside path raw)) (λ line. serves 32 l line ≡ true → A)) none
    (subst (λ o. IfSome (line_in store o) (λ line. serves 32 seen line ≡ true → A)) at so)

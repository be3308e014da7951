-- What is kept of a lineage serves whoever asks.
use Rattle.std.proofs.Common.{◌≡◌, ◌≢◌, ℕ, zero, suc, ◌+◌, ◌-◌, ◌<◌, ◌≤◌, Bool, true, false, ◌||◌, ◌&&◌, List, [], ◌∷◌, ◌++◌, length, length-append, Option, None, Some, Result, Ok, Err, refl, arith, sym, ap, subst, ◌∙◌, if◌then◌else◌}
use Rattle.std.specs.Prelude.{codes}
use Rattle.std.specs.Str.{bytes_eq}
use Rattle.std.specs.List.{list_any}
use Rattle.std.proofs.lemmas.List.Folds.{list_any-append}
use Rattle.mvn_base.specs.declared.gav.Gav.{Gav}
use Rattle.mvn_base.specs.declared.refusal.PomId.{PomId}
use Rattle.mvn_base.specs.declared.rule.Rule.{Rule}
use Rattle.mvn_base.specs.declared.rule.Rule.TheVariants.{LineageTooLong, ParentCycle, ParentPackaging}
use Rattle.model_types.specs.declared.model.Parent.{Parent}
use Rattle.model_types.specs.declared.model.RawModel.{RawModel}
use Rattle.pom_source.specs.Answers.{Built, ◌>>=◌}
use Rattle.pom_source.specs.Chains.{bound, ok_is}
use Rattle.pom_source.specs.Refusals.{gav_refused}
use Rattle.pom_source.specs.Worlds.{World}
use Rattle.pom_source.specs.declared.found.Given.{Given}
use Rattle.lineage.specs.Lineage.{above, candidate, entered, found_or, gav_of, is_in, joined_from, joined_up, known_at, line, next_poms, origin_of, packed, parent_from, pom_eq, pom_of, put_over, text_of, unmet}
use Rattle.lineage.specs.Reading.{with_profiles}
use Rattle.lineage.specs.Stores.{IsKept, meets}
use Rattle.lineage.proofs.Naming.{text_pom}
use Rattle.lineage.specs.declared.joined.Joined.{Joined}
use Rattle.lineage.specs.declared.origin.Candidate.{Candidate}
use Rattle.lineage.specs.declared.origin.Origin.{Origin}
use Rattle.lineage.specs.declared.origin.Origin.TheVariants.{Beside, Elsewhere}

pub or_left : (a b : Bool) → (a || b) ≡ false → a ≡ false
or_left true b e = e
or_left false b e = refl

pub or_right : (a b : Bool) → (a || b) ≡ false → b ≡ false
or_right true b e = cc
or_right false b e = e

pub both_false : (a b : Bool) → a ≡ false → b ≡ false → (a || b) ≡ false
both_false a b p q = ap (λ x. x || b) p ∙ q

pub in_more : (pom more : PomId) (seen : List PomId) → is_in pom (next_poms seen more) ≡ (is_in pom seen || is_in pom (more ∷ []))
in_more pom more seen = list_any-append (λ other. pom_eq other pom) seen (more ∷ [])

pub meets_more : (poms seen : List PomId) (pom : PomId) → meets (next_poms poms pom) seen ≡ (meets poms seen || meets (pom ∷ []) seen)
meets_more poms seen pom = list_any-append (λ p. is_in p seen) poms (pom ∷ [])

-- POMs apart from some and from one more are apart from all of them, and the other way round
pub apart_both : (poms seen : List PomId) (more : PomId) → meets poms seen ≡ false → meets poms (more ∷ []) ≡ false → meets poms (next_poms seen more) ≡ false
apart_both [] seen more a b = refl
apart_both (p ∷ ps) seen more a b =
    both_false (is_in p (next_poms seen more)) (meets ps (next_poms seen more))
    (in_more p more seen ∙ both_false (is_in p seen) (is_in p (more ∷ [])) (or_left (is_in p seen) (meets ps seen) a) (or_left (is_in p (more ∷ [])) (meets ps (more ∷ [])) b))
    (apart_both ps seen more (or_right (is_in p seen) (meets ps seen) a) (or_right (is_in p (more ∷ [])) (meets ps (more ∷ [])) b))

pub apart_first : (poms seen : List PomId) (more : PomId) → meets poms (next_poms seen more) ≡ false → meets poms seen ≡ false
apart_first [] seen more a = refl
apart_first (p ∷ ps) seen more a =
    both_false (is_in p seen) (meets ps seen)
    (or_left (is_in p seen) (is_in p (more ∷ [])) (sym (in_more p more seen) ∙ or_left (is_in p (next_poms seen more)) (meets ps (next_poms seen more)) a))
    (apart_first ps seen more (or_right (is_in p (next_poms seen more)) (meets ps (next_poms seen more)) a))

pub apart_last : (poms seen : List PomId) (more : PomId) → meets poms (next_poms seen more) ≡ false → meets poms (more ∷ []) ≡ false
apart_last [] seen more a = refl
apart_last (p ∷ ps) seen more a =
    both_false (is_in p (more ∷ [])) (meets ps (more ∷ []))
    (or_right (is_in p seen) (is_in p (more ∷ [])) (sym (in_more p more seen) ∙ or_left (is_in p (next_poms seen more)) (meets ps (next_poms seen more)) a))
    (apart_last ps seen more (or_right (is_in p (next_poms seen more)) (meets ps (next_poms seen more)) a))

pub alone : (a : Bool) → (a || false) ≡ false → a ≡ false
alone true e = e
alone false e = refl

-- a parent that wasn't met before
unmet_there : (child : PomId) (seen : List PomId) (gav : Gav) (there found : Candidate) → unmet child seen gav there ≡ Ok found → (there ≡ found) × (is_in (pom_of found) seen ≡ false)
unmet_there child seen gav there found e = by (is_in (pom_of there) seen) refl e
  where
    by : (b : Bool) → is_in (pom_of there) seen ≡ b → (if b then Err (gav_refused child ParentCycle gav) else Ok there) ≡ Ok found → (there ≡ found) × (is_in (pom_of found) seen ≡ false)
    by true is e = cc
    by false is e = let same : there ≡ found = ok_is there found e in (same, subst (λ f. is_in (pom_of f) seen ≡ false) same is)

there_unmet : (child : PomId) (seen : List PomId) (gav : Gav) (found : Candidate) → is_in (pom_of found) seen ≡ false → unmet child seen gav found ≡ Ok found
there_unmet child seen gav found apart = ap (λ b. if b then Err (gav_refused child ParentCycle gav) else Ok found) apart

-- whoever asks finds the same
found_same : (child other : PomId) (gav : Gav) (there : Built (Option Candidate)) (found : Candidate) → (there >>= found_or child gav) ≡ Ok found → (there >>= found_or other gav) ≡ Ok found
found_same child other gav (Ok None) found e = cc
found_same child other gav (Ok (Some f)) found e = e
found_same child other gav (Err fault) found e = e

candidate_same : (world : World) (child other : PomId) (origin : Origin) (found : Candidate) → candidate world child origin ≡ Ok found → candidate world other origin ≡ Ok found
candidate_same world child other (Beside path raw) found e = e
candidate_same world child other (Elsewhere gav) found e = found_same child other gav (known_at world gav) found e

packed_there : (child other : PomId) (gav : Gav) (raw r : RawModel) → packed child gav raw ≡ Ok r → (raw ≡ r) × (packed other gav raw ≡ Ok raw)
packed_there child other gav raw r e = by (bytes_eq raw.coordinates.packaging (codes "pom")) e
  where
    by : (b : Bool) → (if b then Ok raw else Err (gav_refused child ParentPackaging gav)) ≡ Ok r → (raw ≡ r) × ((if b then Ok raw else Err (gav_refused other ParentPackaging gav)) ≡ Ok raw)
    by true e = (ok_is raw r e, refl)
    by false e = cc

module _ (world : World) (given : Given) where
  -- the steps that a lineage was built by
  pub record Step (left : ℕ) (child : PomId) (seen : List PomId) (origin : Origin) (kept : Joined) : Type 0 where
    pub s_found : Candidate
    pub s_raw : RawModel
    pub s_higher : Joined
    pub s_there : candidate world child origin ≡ Ok s_found
    pub s_off : is_in (pom_of s_found) seen ≡ false
    pub s_text : text_of s_found ≡ Ok s_raw
    pub s_pack : (other : PomId) → packed other (gav_of origin) s_raw ≡ Ok s_raw
    pub s_over : above (joined_up world given left s_raw.pom (next_poms seen s_raw.pom)) s_raw.parent ≡ Ok s_higher
    pub s_same : put_over s_raw.pom (with_profiles given world.there s_raw) s_higher ≡ kept

  pub step : (left : ℕ) (child : PomId) (seen : List PomId) (origin : Origin) (kept : Joined) → joined_from world given (suc left) child seen origin ≡ Ok kept → Step left child seen origin kept
  unfolding joined_from
  step left child seen origin kept e =
      let one = bound (parent_from world child seen origin) _ kept e in
      let cand = bound (candidate world child origin) _ one.0 one.1 in
      let met = unmet_there child seen (gav_of origin) cand.0 one.0 cand.2 in
      let two = bound (text_of one.0) _ kept one.2 in
      let three = bound (packed child (gav_of origin) two.0) _ kept two.2 in
      let same = (packed_there child child (gav_of origin) two.0 three.0 three.1).0 in
      let on : line world given (joined_up world given left) seen two.0 ≡ Ok kept = subst (λ r. line world given (joined_up world given left) seen r ≡ Ok kept) (sym same) three.2 in
      let four = bound (above (joined_up world given left two.0.pom (next_poms seen two.0.pom)) two.0.parent) _ kept on in
      record {
        s_found = one.0;
        s_raw = two.0;
        s_higher = four.0;
        s_there = cand.1 ∙ ap (λ f. Ok f) met.0;
        s_off = met.1;
        s_text = two.1;
        s_pack = λ other. (packed_there child other (gav_of origin) two.0 three.0 three.1).1;
        s_over = four.1;
        s_same = ok_is (put_over two.0.pom (with_profiles given world.there two.0) four.0) kept four.2;
      }

  -- and by which it is built again
  pub built : (n : ℕ) (other : PomId) (before : List PomId) (origin : Origin) (kept : Joined) (found : Candidate) (raw : RawModel) (p : Joined)
      → candidate world other origin ≡ Ok found → is_in (pom_of found) before ≡ false → text_of found ≡ Ok raw → packed other (gav_of origin) raw ≡ Ok raw
      → above (joined_up world given n raw.pom (next_poms before raw.pom)) raw.parent ≡ Ok p → put_over raw.pom (with_profiles given world.there raw) p ≡ kept
      → joined_from world given (suc n) other before origin ≡ Ok kept
  unfolding joined_from
  built n other before origin kept found raw p there off text pack over same =
      ap (λ c. (c >>= unmet other before (gav_of origin)) >>= entered world given (joined_up world given n) other before (gav_of origin)) there
      ∙ ap (λ u. u >>= entered world given (joined_up world given n) other before (gav_of origin)) (there_unmet other before (gav_of origin) found off)
      ∙ ap (λ r. r >>= (λ raw. packed other (gav_of origin) raw >>= line world given (joined_up world given n) before)) text
      ∙ ap (λ r. r >>= line world given (joined_up world given n) before) pack
      ∙ ap (λ r. r >>= (λ p. Ok (put_over raw.pom (with_profiles given world.there raw) p))) over
      ∙ ap (λ k. Ok k) same

  -- where no POM may come, none does
  pub nothing_more : {A : Type 0} (child : PomId) (seen : List PomId) (origin : Origin) (kept : Joined) → joined_from world given zero child seen origin ≡ Ok kept → A
  unfolding joined_from
  nothing_more child seen origin kept e = let one = bound (parent_from world child seen origin) _ kept e in cc

  -- the POMs of a lineage aren't among those met before
  pub apart : (left : ℕ) (child : PomId) (seen : List PomId) (origin : Origin) (kept : Joined) → joined_from world given left child seen origin ≡ Ok kept → meets kept.poms seen ≡ false
  apart zero child seen origin kept e = nothing_more child seen origin kept e
  apart (suc left) child seen origin kept e =
      let s = step left child seen origin kept e in
      let off : is_in s.s_raw.pom seen ≡ false = ap (λ p. is_in p seen) (text_pom s.s_found s.s_raw s.s_text) ∙ s.s_off in
      let higher = over (λ pom o p q. apart left pom (next_poms seen pom) o p q) s.s_raw.pom s.s_raw.parent s.s_higher s.s_over in
      subst (λ (k : Joined). meets k.poms seen ≡ false) s.s_same
      (meets_more s.s_higher.poms seen s.s_raw.pom ∙ both_false (meets s.s_higher.poms seen) (meets (s.s_raw.pom ∷ []) seen) higher (ap (λ b. b || false) off))
    where
      over : (rest : (pom : PomId) (o : Origin) (p : Joined) → joined_from world given left pom (next_poms seen pom) o ≡ Ok p → meets p.poms (next_poms seen pom) ≡ false) (pom : PomId) (up : Option Parent) (p : Joined) → above (joined_up world given left pom (next_poms seen pom)) up ≡ Ok p → meets p.poms seen ≡ false
      over rest pom None p e = subst (λ (k : Joined). meets k.poms seen ≡ false) (ok_is _ p e) refl
      over rest pom (Some up) p e = let o = bound (origin_of world pom up) _ p e in apart_first p.poms seen pom (rest pom o.0 p o.2)

  -- what one lineage gives another gives too, where its POMs are apart from those met before and there may be as many
  stays : (left : ℕ) (child : PomId) (seen : List PomId) (origin : Origin) (kept : Joined) → joined_from world given left child seen origin ≡ Ok kept → (more : ℕ) (other : PomId) (before : List PomId) → length kept.poms ≤ more → meets kept.poms before ≡ false → joined_from world given more other before origin ≡ Ok kept
  stays zero child seen origin kept e more other before fits free = nothing_more child seen origin kept e
  stays (suc left) child seen origin kept e more other before fits free =
      let s = step left child seen origin kept e in
      let fits2 : length (next_poms s.s_higher.poms s.s_raw.pom) ≤ more = subst (λ (k : Joined). length k.poms ≤ more) (sym s.s_same) fits in
      let free2 : (meets s.s_higher.poms before || meets (s.s_raw.pom ∷ []) before) ≡ false = sym (meets_more s.s_higher.poms before s.s_raw.pom) ∙ subst (λ (k : Joined). meets k.poms before ≡ false) (sym s.s_same) free in
      let named = text_pom s.s_found s.s_raw s.s_text in
      let off : is_in (pom_of s.s_found) before ≡ false = ap (λ p. is_in p before) (sym named) ∙ alone (is_in s.s_raw.pom before) (or_right (meets s.s_higher.poms before) _ free2) in
      again (λ n pom o p q low free. stays left pom (next_poms seen pom) o p q n pom (next_poms before pom) low free) more s
      (subst (λ n. n ≤ more) (length-append s.s_higher.poms (s.s_raw.pom ∷ [])) fits2) (or_left (meets s.s_higher.poms before) _ free2) off
    where
      higher : (rest : (n : ℕ) (pom : PomId) (o : Origin) (p : Joined) → joined_from world given left pom (next_poms seen pom) o ≡ Ok p → length p.poms ≤ n → meets p.poms (next_poms before pom) ≡ false → joined_from world given n pom (next_poms before pom) o ≡ Ok p)
          (n : ℕ) (pom : PomId) (up : Option Parent) (p : Joined) → above (joined_up world given left pom (next_poms seen pom)) up ≡ Ok p → length p.poms ≤ n → meets p.poms before ≡ false → above (joined_up world given n pom (next_poms before pom)) up ≡ Ok p
      higher rest n pom None p e fits free = e
      higher rest n pom (Some up) p e fits free =
          let o = bound (origin_of world pom up) _ p e in
          ap (λ r. r >>= joined_from world given n pom (next_poms before pom)) o.1
          ∙ rest n pom o.0 p o.2 fits (apart_both p.poms before pom free (apart_last p.poms seen pom (apart left pom (next_poms seen pom) o.0 p o.2)))

      again : (rest : (n : ℕ) (pom : PomId) (o : Origin) (p : Joined) → joined_from world given left pom (next_poms seen pom) o ≡ Ok p → length p.poms ≤ n → meets p.poms (next_poms before pom) ≡ false → joined_from world given n pom (next_poms before pom) o ≡ Ok p)
          (n : ℕ) (s : Step left child seen origin kept) → length s.s_higher.poms + 1 ≤ n → meets s.s_higher.poms before ≡ false → is_in (pom_of s.s_found) before ≡ false → joined_from world given n other before origin ≡ Ok kept
      again rest zero s fits free off = absurd (omega arith)
      again rest (suc n) s fits free off =
          let low : length s.s_higher.poms ≤ n = omega arith in
          built n other before origin kept s.s_found s.s_raw s.s_higher (candidate_same world child other origin s.s_found s.s_there) off s.s_text (s.s_pack other)
          (higher rest n s.s_raw.pom s.s_raw.parent s.s_higher s.s_over low free) s.s_same

  pub is_kept : (left : ℕ) (child : PomId) (seen : List PomId) (origin : Origin) (kept : Joined) → joined_from world given left child seen origin ≡ Ok kept → IsKept world given origin kept
  unfolding IsKept
  is_kept left child seen origin kept e = λ more other before fits free. stays left child seen origin kept e more other before fits free

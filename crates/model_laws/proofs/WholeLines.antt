-- A lineage is a line of POMs, and a line of POMs is a lineage.
use Rattle.std.proofs.Common.{◌≡◌, ℕ, zero, suc, ◌≤◌, Bool, true, false, not, ◌&&◌, ◌||◌, List, [], ◌∷◌, ◌++◌, length, Option, None, Some, Ok, refl, arith, sym, ap, subst, ◌∙◌}
use Rattle.mvn_base.specs.declared.refusal.PomId.{PomId}
use Rattle.model_types.specs.declared.model.Parent.{Parent}
use Rattle.model_types.specs.declared.model.RawModel.{RawModel}
use Rattle.inheritance.specs.Inherit.{inherit}
use Rattle.inheritance.specs.SuperPom.{super_pom}
use Rattle.pom_source.specs.Answers.{◌>>=◌}
use Rattle.pom_source.specs.Chains.{bound, ok_is}
use Rattle.pom_source.specs.Worlds.{World}
use Rattle.pom_source.specs.declared.found.Given.{Given}
use Rattle.lineage.specs.Lineage.{above, gav_of, is_in, joined_from, joined_up, lineage, next_poms, origin_of, pom_of, put_over, top}
use Rattle.lineage.specs.Reading.{with_profiles}
use Rattle.lineage.specs.Stores.{meets}
use Rattle.lineage.specs.declared.joined.Joined.{Joined}
use Rattle.lineage.specs.declared.origin.Origin.{Origin}
use Rattle.lineage.proofs.Keeping.{Step, alone, apart, apart_both, apart_last, built, meets_more, nothing_more, or_left, or_right, step}
use Rattle.lineage.proofs.Naming.{text_pom}
use Rattle.model_laws.specs.Lines.{IsLine, IsLineage, IsParent, each_once, model_of, names}
use Rattle.model_laws.proofs.Found.{found_at, is_packed, leads, packed_is}
use Rattle.model_laws.proofs.LinesOnce.{and_left, and_right, both_true, not_true, once_more}

module _ (world : World) (given : Given) where
  -- the parents of a POM, and what they come to
  record Above (left : ℕ) (pom : RawModel) (seen : List PomId) (higher : Joined) : Type 0 where
    parents : List RawModel
    line : IsLine world pom parents
    few : length parents ≤ left
    once : each_once higher.poms ≡ true
    off : meets higher.poms seen ≡ false
    poms : higher.poms ≡ names parents
    model : higher.model ≡ model_of world given parents

  no_parent : (left : ℕ) (pom : RawModel) (seen : List PomId) (higher : Joined) → pom.parent ≡ None → top ≡ higher → Above left pom seen higher
  no_parent left pom seen higher none same = subst (λ (j : Joined). Above left pom seen j) same (record { parents = []; line = none; few = omega arith; once = refl; off = refl; poms = refl; model = refl })

  -- one parent more below what stands above it
  one_parent : (left : ℕ) (pom : RawModel) (named : Parent) (seen : List PomId) (origin : Origin) (higher : Joined) → pom.parent ≡ Some named → origin_of world pom.pom named ≡ Ok origin
      → (s : Step world given left pom.pom seen origin higher) → meets higher.poms seen ≡ false → Above left s.s_raw (next_poms seen s.s_raw.pom) s.s_higher → Above (suc left) pom seen higher
  one_parent left pom named seen origin higher says comes s free up = record {
    parents = s.s_raw ∷ up.parents;
    line = (
      record {
        named = named;
        origin = origin;
        says = says;
        comes = comes;
        leads = leads world pom.pom origin s.s_found s.s_raw s.s_there s.s_text;
        packed = packed_is pom.pom (gav_of origin) s.s_raw (s.s_pack pom.pom);
      },
      up.line,
    );
    few = omega (arith, up.few);
    once = subst (λ (j : Joined). each_once j.poms ≡ true) s.s_same
        (once_more s.s_higher.poms s.s_raw.pom ∙ both_true (each_once s.s_higher.poms) _ up.once (ap (λ b. not b) (apart_last s.s_higher.poms seen s.s_raw.pom up.off)));
    off = free;
    poms = ap (λ (j : Joined). j.poms) (sym s.s_same) ∙ ap (λ ps. ps ++ s.s_raw.pom ∷ []) up.poms;
    model = ap (λ (j : Joined). j.model) (sym s.s_same) ∙ ap (λ m. inherit (with_profiles given world.there s.s_raw) m) up.model;
  }

  above_is : (left : ℕ) (pom : RawModel) (up : Option Parent) (seen : List PomId) (higher : Joined) → pom.parent ≡ up → above (joined_up world given left pom.pom seen) up ≡ Ok higher → Above left pom seen higher
  above_is left pom None seen higher says e = no_parent left pom seen higher says (ok_is top higher e)
  above_is zero pom (Some named) seen higher says e = let o = bound (origin_of world pom.pom named) _ higher e in nothing_more world given pom.pom seen o.0 higher o.2
  above_is (suc left) pom (Some named) seen higher says e =
      let o = bound (origin_of world pom.pom named) _ higher e in
      let s = step world given left pom.pom seen o.0 higher o.2 in
      one_parent left pom named seen o.0 higher says o.1 s (apart world given (suc left) pom.pom seen o.0 higher o.2)
      (above_is left s.s_raw s.s_raw.parent (next_poms seen s.s_raw.pom) s.s_higher refl s.s_over)

  -- a POM over what stands above it
  whole : (pom : RawModel) (higher joined : Joined) → Above 31 pom (pom.pom ∷ []) higher → put_over pom.pom (with_profiles given world.there pom) higher ≡ joined → IsLineage world given pom joined
  whole pom higher joined a same = record {
    parents = a.parents;
    line = a.line;
    few = a.few;
    once = subst (λ ps. each_once (next_poms ps pom.pom) ≡ true) a.poms (once_more higher.poms pom.pom ∙ both_true (each_once higher.poms) _ a.once (ap (λ b. not b) a.off));
    poms = ap (λ (j : Joined). j.poms) (sym same) ∙ ap (λ ps. ps ++ pom.pom ∷ []) a.poms;
    model = ap (λ (j : Joined). j.model) (sym same) ∙ ap (λ m. inherit (with_profiles given world.there pom) m) a.model;
  }

  pub line_is : (pom : RawModel) (joined : Joined) → lineage world given pom ≡ Ok joined → IsLineage world given pom joined
  line_is pom joined e =
      let up = bound (above (joined_up world given 31 pom.pom (next_poms [] pom.pom)) pom.parent) _ joined e in
      whole pom up.0 joined (above_is 31 pom pom.parent (next_poms [] pom.pom) up.0 refl up.1) (ok_is (put_over pom.pom (with_profiles given world.there pom) up.0) joined up.2)

  -- what parents come to
  abbrev sum_of : List RawModel → Joined
  sum_of parents = record { poms = names parents; model = model_of world given parents }

  -- a line of parents is found again
  above_of : (parents : List RawModel) (pom : RawModel) (left : ℕ) (seen : List PomId) → IsLine world pom parents → length parents ≤ left → meets (names parents) seen ≡ false → each_once (names parents) ≡ true
      → above (joined_up world given left pom.pom seen) pom.parent ≡ Ok (sum_of parents)
  above_of [] pom left seen line few off once = ap (above (joined_up world given left pom.pom seen)) line
  above_of (p ∷ ps) pom zero seen line few off once = absurd (omega (arith, few))
  above_of (p ∷ ps) pom (suc left) seen line few off once =
      let is = line.0 in
      let found = found_at world pom.pom is.origin p is.leads in
      let apart : (meets (names ps) seen || meets (p.pom ∷ []) seen) ≡ false = sym (meets_more (names ps) seen p.pom) ∙ off in
      let alone_once : (each_once (names ps) && not (meets (names ps) (p.pom ∷ []))) ≡ true = sym (once_more (names ps) p.pom) ∙ once in
      let higher : meets (names ps) (next_poms seen p.pom) ≡ false =
      apart_both (names ps) seen p.pom (or_left (meets (names ps) seen) _ apart) (not_true (meets (names ps) (p.pom ∷ [])) (and_right (each_once (names ps)) _ alone_once)) in
      let here : is_in (pom_of found.0) seen ≡ false = ap (λ x. is_in x seen) (sym (text_pom found.0 p found.2)) ∙ alone (is_in p.pom seen) (or_right (meets (names ps) seen) _ apart) in
      let few2 : length ps ≤ left = omega (arith, few) in
      ap (above (joined_up world given (suc left) pom.pom seen)) is.says
      ∙ ap (λ o. o >>= joined_from world given (suc left) pom.pom seen) is.comes
      ∙ built world given left pom.pom seen is.origin (sum_of (p ∷ ps)) found.0 p (sum_of ps) found.1 here found.2 (is_packed pom.pom (gav_of is.origin) p is.packed)
      (above_of ps p left (next_poms seen p.pom) line.1 few2 higher (and_left (each_once (names ps)) _ alone_once)) refl

  pub line_of : (pom : RawModel) (joined : Joined) → IsLineage world given pom joined → lineage world given pom ≡ Ok joined
  line_of pom joined is =
      let once : (each_once (names is.parents) && not (meets (names is.parents) (pom.pom ∷ []))) ≡ true = sym (once_more (names is.parents) pom.pom) ∙ is.once in
      let same : sum_of (pom ∷ is.parents) ≡ joined = (λ i. record { poms = sym is.poms i; model = sym is.model i }) in
      ap (λ r. r >>= (λ p. Ok (put_over pom.pom (with_profiles given world.there pom) p)))
      (above_of is.parents pom 31 (pom.pom ∷ []) is.line is.few (not_true (meets (names is.parents) (pom.pom ∷ [])) (and_right (each_once (names is.parents)) _ once)) (and_left (each_once (names is.parents)) _ once))
      ∙ ap (λ j. Ok j) same

-- What imports stand for stands whoever asks.
use Rattle.std.proofs.Common.{◌≡◌, ◌≢◌, ℕ, zero, suc, ◌+◌, ◌-◌, ◌<◌, ◌≤◌, ◌^◌, Bool, true, false, not, ◌&&◌, ◌||◌, nat_le, List, [], ◌∷◌, ◌++◌, length, drop, get_or, Option, None, Some, Result, Ok, Err, refl, arith, sym, ap, subst, ◌∙◌, if◌then◌else◌}
use Rattle.std.proofs.Math.Seq.{drop-cons}
use Rattle.std.specs.List.{list_any}
use Rattle.std.proofs.lemmas.Bool.{le-leb, leb-true}
use Rattle.std.proofs.lemmas.List.{drop_all}
use Rattle.mvn_base.specs.declared.gav.Gav.{Gav}
use Rattle.mvn_base.specs.declared.refusal.PomId.{PomId}
use Rattle.model_types.specs.declared.build.BuildBase.{BuildBase}
use Rattle.model_types.specs.declared.dependency.Dependency.{Dependency}
use Rattle.model_types.specs.declared.model.Model.{Model}
use Rattle.model_types.specs.declared.model.RawModel.{RawModel}
use Rattle.managed_deps.specs.Managed.{is_import}
use Rattle.pom_source.specs.Answers.{Built, Fails, ◌>>=◌}
use Rattle.pom_source.specs.Chains.{ok_is, stop_fails}
use Rattle.pom_source.specs.Worlds.{World}
use Rattle.pom_source.specs.declared.fault.BuildFault.{BuildFault}
use Rattle.pom_source.specs.declared.found.Given.{Given}
use Rattle.lineage.specs.Lineage.{is_in, known_at, next_poms}
use Rattle.lineage.specs.Stores.{meets}
use Rattle.lineage.proofs.Keeping.{apart_both, apart_first, apart_last, or_left, or_right}
use Rattle.model_steps.specs.Building.{built}
use Rattle.model_steps.specs.Imports.{import_gav}
use Rattle.effective.specs.Effective.{ended, entry, full, imported, imports_from, managed_of, whole}
use Rattle.effective.specs.Kept.{AreKept, IsBuilt, IsEntry, IsFound, IsImport, IsRead}
use Rattle.effective.specs.Knowing.{import_of, raw_of}
use Rattle.effective.specs.Serving.{serves}
use Rattle.effective.specs.declared.below.Below.{Below}
use Rattle.effective.specs.declared.kept.BuiltModel.{BuiltModel}
use Rattle.effective.specs.declared.kept.Import.{Import}
use Rattle.effective.specs.declared.kept.ImportLists.{ImportLists}
use Rattle.effective.proofs.Knowing.{import_known, raw_again}

and_left : (a b : Bool) → (a && b) ≡ true → a ≡ true
and_left true b e = refl
and_left false b e = cc

and_right : (a b : Bool) → (a && b) ≡ true → b ≡ true
and_right true b e = e
and_right false b e = cc

and_both : (a b : Bool) → a ≡ true → b ≡ true → (a && b) ≡ true
and_both a b e f = ap (λ x. x && b) e ∙ f

not_true : (a : Bool) → not a ≡ true → a ≡ false
not_true true e = cc
not_true false e = refl

-- what serves is low enough and apart
pub low : (left : ℕ) (building : List PomId) (below : Below) → serves left building below ≡ true → below.depth ≤ left
low left building below e = leb-true below.depth left (and_left (nat_le below.depth left) _ e)

apart_from : (left : ℕ) (building : List PomId) (below : Below) → serves left building below ≡ true → meets below.poms building ≡ false
apart_from left building below e = not_true (meets below.poms building) (and_right (nat_le below.depth left) _ e)

so_serves : (left : ℕ) (building : List PomId) (below : Below) → below.depth ≤ left → meets below.poms building ≡ false → serves left building below ≡ true
so_serves left building below fits free = and_both (nat_le below.depth left) (not (meets below.poms building)) (le-leb below.depth left fits) (ap not free)

-- what is below two serves
pub both_served : (left : ℕ) (building : List PomId) (one other both : Below) → serves left building both ≡ (serves left building one && serves left building other)
    → serves left building one ≡ true → serves left building other ≡ true → serves left building both ≡ true
both_served left building one other both is e f = is ∙ and_both (serves left building one) (serves left building other) e f

-- an import, one level deeper, serves
pub import_serves : (left : ℕ) (building : List PomId) (below deeper : Below) → left ≢ 0 → serves (left - 1) building below ≡ true
    → deeper.depth ≡ below.depth + 1 → deeper.poms ≡ below.poms → serves left building deeper ≡ true
import_serves zero building below deeper some e depth poms = absurd (some refl)
import_serves (suc n) building below deeper some e depth poms =
    let fits = low (suc n - 1) building below e in
    so_serves (suc n) building deeper (omega (arith, fits, depth)) (ap (λ l. meets l building) poms ∙ apart_from (suc n - 1) building below e)

shallower : (n : ℕ) (building : List PomId) (below deeper : Below) → serves (suc n) building deeper ≡ true → deeper.depth ≡ below.depth + 1 → deeper.poms ≡ below.poms → serves n building below ≡ true
shallower n building below deeper e depth poms =
    let fits = low (suc n) building deeper e in
    so_serves n building below (omega (arith, fits, depth)) (ap (λ l. meets l building) (sym poms) ∙ apart_from (suc n) building deeper e)

-- a POM that isn't being built, and what is below it, serve
pub read_serves : (left : ℕ) (building : List PomId) (pom : PomId) (inner : Below) (below : Below) → serves left (next_poms building pom) inner ≡ true → below.depth ≡ inner.depth
    → ((seen : List PomId) → meets below.poms seen ≡ (meets inner.poms seen || is_in pom seen)) → is_in pom building ≡ false → serves left building below ≡ true
read_serves left building pom inner below e depth poms free =
    let fits = low left (next_poms building pom) inner e in
    so_serves left building below (subst (λ n. n ≤ left) (sym depth) fits)
    (poms building ∙ ap (λ b. b || is_in pom building) (apart_first inner.poms building pom (apart_from left (next_poms building pom) inner e)) ∙ free)

module _ (world : World) (given : Given) where
  pub no_import : (pom : PomId) (item : Dependency) (imports : ImportLists) → is_import item ≡ false → imports.lists ≡ [] → IsEntry world given pom item imports
  unfolding IsEntry
  no_import pom item imports is none left building serving =
      ap (λ b. if b then import_gav pom item >>= (λ gav. imported world given left pom building gav >>= (λ entries. Ok (entries ∷ []))) else Ok []) is ∙ ap (λ l. Ok l) (sym none)

  none_from : (pom : PomId) (up : Gav → Built (List Dependency)) (items : List Dependency) → list_any is_import items ≡ false → imports_from pom up [] items ≡ Ok []
  none_from pom up [] none = refl
  none_from pom up (d ∷ items) none =
      ap (λ b. (if b then import_gav pom d >>= (λ gav. up gav >>= (λ entries. Ok (entries ∷ []))) else Ok []) >>= (λ lists. imports_from pom up lists items)) (or_left (is_import d) (list_any is_import items) none)
      ∙ none_from pom up items (or_right (is_import d) (list_any is_import items) none)

  -- entries without an import
  pub none_kept : (pom : PomId) (items all : List Dependency) (imports : ImportLists) → items ≡ all → list_any is_import items ≡ false → imports.lists ≡ [] → AreKept world given pom all imports
  unfolding AreKept
  none_kept pom items all imports same none lists left building serving =
      let up = imported world given left pom building in
      ap (imports_from pom up []) (sym same) ∙ none_from pom up items none ∙ ap (λ l. Ok l) (sym lists)

  pub one_import : (pom : PomId) (item : Dependency) (gav : Gav) (import : Import) (imports : ImportLists) → is_import item ≡ true → import_gav pom item ≡ Ok gav → IsImport world given gav import
      → imports.lists ≡ import.managed ∷ [] → imports.below ≡ import.below → IsEntry world given pom item imports
  unfolding IsEntry IsImport
  one_import pom item gav import imports is at stands lists below left building serving =
      ap (λ b. if b then import_gav pom item >>= (λ gav. imported world given left pom building gav >>= (λ entries. Ok (entries ∷ []))) else Ok []) is
      ∙ ap (λ s. s >>= (λ gav. imported world given left pom building gav >>= (λ entries. Ok (entries ∷ [])))) at
      ∙ ap (λ s. s >>= (λ entries. Ok (entries ∷ []))) (stands left pom building (subst (λ b. serves left building b ≡ true) below serving))
      ∙ ap (λ l. Ok l) (sym lists)

  -- the imports of the entries that are done, and those of the rest, are those of all
  unfoldable pub OnTheWay : PomId → ImportLists → List Dependency → List Dependency → Type 0
  OnTheWay pom done rest items = (left : ℕ) (building : List PomId) → serves left building done.below ≡ true
      → imports_from pom (imported world given left pom building) done.lists rest ≡ imports_from pom (imported world given left pom building) [] items

  pub none_yet : (pom : PomId) (done : ImportLists) (items : List Dependency) → done.lists ≡ [] → OnTheWay pom done (drop 0 items) items
  unfolding OnTheWay
  none_yet pom done items none left building serving = ap (λ l. imports_from pom (imported world given left pom building) l items) none

  rest_at : (i : ℕ) (items : List Dependency) (x : Dependency) → i < length items → x ≡ get_or items i x → drop i items ≡ x ∷ drop (i + 1) items
  rest_at i items x short is =
      let one : suc i ≡ i + 1 = omega arith in
      drop-cons items i x short ∙ ap (λ y. y ∷ drop (suc i) items) (sym is) ∙ ap (λ k. x ∷ drop k items) one

  pub one_more : (pom : PomId) (done more next : ImportLists) (items : List Dependency) (i : ℕ) (x : Dependency) → i < length items → x ≡ get_or items i x → IsEntry world given pom x more
      → next.lists ≡ done.lists ++ more.lists → ((left : ℕ) (building : List PomId) → serves left building next.below ≡ (serves left building done.below && serves left building more.below))
      → OnTheWay pom done (drop i items) items → OnTheWay pom next (drop (i + 1) items) items
  unfolding OnTheWay IsEntry
  one_more pom done more next items i x short is entry_is lists both way left building serving =
      let up = imported world given left pom building in
      let two : (serves left building done.below && serves left building more.below) ≡ true = sym (both left building) ∙ serving in
      let first = and_left (serves left building done.below) (serves left building more.below) two in
      let second = and_right (serves left building done.below) (serves left building more.below) two in
      ap (λ l. imports_from pom up l (drop (i + 1) items)) lists
      ∙ ap (λ s. s >>= (λ lists. imports_from pom up (done.lists ++ lists) (drop (i + 1) items))) (sym (entry_is left building second))
      ∙ ap (imports_from pom up done.lists) (sym (rest_at i items x short is)) ∙ way left building first

  pub way_fails : (left : ℕ) (building : List PomId) (pom : PomId) (done : ImportLists) (items : List Dependency) (i : ℕ) (x : Dependency) (fault : BuildFault) → i < length items → x ≡ get_or items i x
      → OnTheWay pom done (drop i items) items → serves left building done.below ≡ true → Fails (entry pom (imported world given left pom building) x) fault
      → Fails (imports_from pom (imported world given left pom building) [] items) fault
  unfolding OnTheWay
  way_fails left building pom done items i x fault short is way serving fails =
      let up = imported world given left pom building in
      subst (λ w. Fails w fault) (ap (imports_from pom up done.lists) (sym (rest_at i items x short is)) ∙ way left building serving) (stop_fails (entry pom up x) _ fault fails)

  pub all_done : (pom : PomId) (done : ImportLists) (items all : List Dependency) (i : ℕ) → items ≡ all → length items ≤ i → OnTheWay pom done (drop i items) items → AreKept world given pom all done
  unfolding OnTheWay AreKept
  all_done pom done items all i same short way left building serving =
      ap (imports_from pom (imported world given left pom building) []) (sym same)
      ∙ sym (way left building serving) ∙ ap (imports_from pom (imported world given left pom building) done.lists) (drop_all i items short)

  pub is_built : (raw filled : RawModel) (base : BuildBase) (imports : ImportLists) (model : Model) (result : BuiltModel) → full world given raw ≡ Ok filled → built filled ≡ Ok base
      → AreKept world given raw.pom filled.base.managed imports → ended filled base imports.lists ≡ Ok model → result.below ≡ imports.below → result.model ≡ model → IsBuilt world given raw result
  unfolding IsBuilt AreKept
  is_built raw filled base imports model result first next kept last below same left building serving =
      let up = imported world given left raw.pom building in
      ap (λ s. s >>= (λ (m : RawModel). built m >>= (λ base. imports_from raw.pom up [] m.base.managed >>= (λ imports. ended m base imports)))) first
      ∙ ap (λ s. s >>= (λ base. imports_from raw.pom up [] filled.base.managed >>= (λ imports. ended filled base imports))) next
      ∙ ap (λ s. s >>= (λ imports. ended filled base imports)) (kept left building (subst (λ b. serves left building b ≡ true) below serving))
      ∙ last ∙ ap (λ m. Ok m) (sym same)

  -- and fails where it is refused in the end
  pub built_fails : (left : ℕ) (building : List PomId) (raw filled : RawModel) (base : BuildBase) (imports : ImportLists) (fault : BuildFault) → full world given raw ≡ Ok filled → built filled ≡ Ok base
      → AreKept world given raw.pom filled.base.managed imports → serves left building imports.below ≡ true → Fails (ended filled base imports.lists) fault
      → Fails (whole world given (imported world given left raw.pom building) raw) fault
  unfolding AreKept
  built_fails left building raw filled base imports fault first next kept serving fails =
      let up = imported world given left raw.pom building in
      subst (λ w. Fails w fault) (sym (ap (λ s. s >>= (λ (m : RawModel). built m >>= (λ base. imports_from raw.pom up [] m.base.managed >>= (λ imports. ended m base imports)))) first
      ∙ ap (λ s. s >>= (λ base. imports_from raw.pom up [] filled.base.managed >>= (λ imports. ended filled base imports))) next
      ∙ ap (λ s. s >>= (λ imports. ended filled base imports)) (kept left building serving))) fails

  pub built_gives : (left : ℕ) (building : List PomId) (raw : RawModel) (result : BuiltModel) → IsBuilt world given raw result → serves left building result.below ≡ true
      → whole world given (imported world given left raw.pom building) raw ≡ Ok result.model
  unfolding IsBuilt
  built_gives left building raw result is serving = is left building serving

  pub is_read : (first : ℕ) (seen : List PomId) (raw : RawModel) (inner : BuiltModel) (import : Import) → IsBuilt world given raw inner → serves first (next_poms seen raw.pom) inner.below ≡ true
      → import.managed ≡ inner.model.base.managed → import.below.depth ≡ inner.below.depth
      → ((others : List PomId) → meets import.below.poms others ≡ (meets inner.below.poms others || is_in raw.pom others)) → IsRead world given raw import
  unfolding IsRead IsBuilt
  is_read first seen raw inner import is e managed depth poms left building serving =
      let free : (meets inner.below.poms building || is_in raw.pom building) ≡ false = sym (poms building) ∙ apart_from left building import.below serving in
      let off = or_left (meets inner.below.poms building) (is_in raw.pom building) free in
      let own = apart_last inner.below.poms seen raw.pom (apart_from first (next_poms seen raw.pom) inner.below e) in
      let fits : inner.below.depth ≤ left = subst (λ n. n ≤ left) depth (low left building import.below serving) in
      let there = so_serves left (next_poms building raw.pom) inner.below fits (apart_both inner.below.poms building raw.pom off own) in
      (or_right (meets inner.below.poms building) (is_in raw.pom building) free, ap managed_of (is left (next_poms building raw.pom) there) ∙ ap (λ l. Ok l) (sym managed))

  pub is_found : (pom : PomId) (building : List PomId) (gav : Gav) (raw : RawModel) (import : Import) → (known_at world gav >>= raw_of pom building gav) ≡ Ok raw
      → IsRead world given raw import → IsFound world given gav import
  unfolding IsFound IsRead
  is_found pom building gav raw import first is left other seen serving =
      let read_is = is left seen serving in
      import_known world given (imported world given left) other seen gav
      ∙ ap (λ s. s >>= import_of world given (imported world given left) seen) (raw_again pom other building seen gav (known_at world gav) raw first read_is.0)
      ∙ read_is.1

  pub is_import_of : (gav : Gav) (import deeper : Import) → IsFound world given gav import → deeper.managed ≡ import.managed → deeper.below.depth ≡ import.below.depth + 1
      → deeper.below.poms ≡ import.below.poms → IsImport world given gav deeper
  unfolding IsImport IsFound imported
  is_import_of gav import deeper is managed depth poms = λ left pom building serving. by left pom building serving
    where
      by : (left : ℕ) (pom : PomId) (building : List PomId) → serves left building deeper.below ≡ true → imported world given left pom building gav ≡ Ok deeper.managed
      by zero pom building serving = let fits = low zero building deeper.below serving in absurd (omega (arith, fits, depth))
      by (suc n) pom building serving = is n pom building (shallower n building import.below deeper.below serving depth poms) ∙ ap (λ l. Ok l) (sym managed)

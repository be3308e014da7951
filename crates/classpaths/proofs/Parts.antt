-- The compile and the runtime classpath are parts of the test classpath.
use Rattle.std.proofs.Common.{◌≡◌, ◌⊎◌, inl, inr, ℕ, ◌+◌, Bool, true, false, ◌&&◌, List, [], ◌∷◌, Contains, refl, sym, ap, ◌∙◌, if◌then◌else◌}
use Rattle.std.proofs.lemmas.Bool.{false≢true}
use Rattle.collector.specs.declared.scope.Scope.{Scope}
use Rattle.mvn_base.specs.Types.{type_rule}
use Rattle.classpaths.specs.Classpaths.{classpath, has_scope, is_on, places_from}
use Rattle.classpaths.specs.declared.classpath.Kind.{Kind}
use Rattle.classpaths.specs.declared.classpath.Kind.TheVariants.{Test}
use Rattle.classpaths.specs.declared.resolution.Resolved.{Resolved}
use Rattle.classpaths.proofs.Joining.{IsIn, in_from, in_to}

second : (a b : Bool) → (a && b) ≡ true → b ≡ true
second true b e = e
second false b e = absurd (false≢true e)

test_has : (kind : Kind) (w : Resolved) → is_on kind w ≡ true → is_on Test w ≡ true
test_has kind w is = second (has_scope kind w.scope) (type_rule w.kind).on_classpath is

part : (kind : Kind) (at : ℕ) (winners : List Resolved) (place : ℕ) → IsIn (places_from (is_on kind) at winners) place → IsIn (places_from (is_on Test) at winners) place
part kind at [] place there = absurd there
part kind at (w ∷ winners) place there = by (is_on kind w) refl there (part kind (at + 1) winners place)
  where
    skip : (b : Bool) → IsIn (places_from (is_on Test) (at + 1) winners) place → IsIn (if b then at ∷ places_from (is_on Test) (at + 1) winners else places_from (is_on Test) (at + 1) winners) place
    skip true there = inr there
    skip false there = there

    take_it : (b : Bool) → b ≡ true → at ≡ place → IsIn (if b then at ∷ places_from (is_on Test) (at + 1) winners else places_from (is_on Test) (at + 1) winners) place
    take_it true is same = inl same
    take_it false is same = absurd (false≢true is)

    by : (b : Bool) → is_on kind w ≡ b → IsIn (if b then at ∷ places_from (is_on kind) (at + 1) winners else places_from (is_on kind) (at + 1) winners) place
        → (IsIn (places_from (is_on kind) (at + 1) winners) place → IsIn (places_from (is_on Test) (at + 1) winners) place)
        → IsIn (places_from (is_on Test) at (w ∷ winners)) place
    by true is (inl same) rest = take_it (is_on Test w) (test_has kind w is) same
    by true is (inr there) rest = skip (is_on Test w) (rest there)
    by false is there rest = skip (is_on Test w) (rest there)

pub is_part : (kind : Kind) (winners : List Resolved) (place : ℕ) → Contains (classpath kind winners) place → Contains (classpath Test winners) place
is_part kind winners place there = in_to (classpath Test winners) place (part kind 0 winners place (in_from (classpath kind winners) place there))

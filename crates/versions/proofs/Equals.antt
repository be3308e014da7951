-- Versions are one in the order exactly where their tokens are the same.
use Rattle.std.proofs.Common.{◌≡◌, ◌↔◌, ℕ, List, [], ◌∷◌, ◌++◌, get_or, Ordering, Less, Equal, Greater, refl, sym, ap, ◌∙◌}
use Rattle.std.specs.Ordering.{nat_cmp, ordering_then}
use Rattle.std.specs.FinMap.{nat_cmp-IsAntisymmetric, slice_cmp-IsAntisymmetric}
use Rattle.std.specs.Cmp.Lexicographic.{slice_cmp}
use Rattle.std.proofs.lemmas.Cmp.{tied_itself, lists_total}
use Rattle.versions.specs.declared.kind.Kind.{Kind}
use Rattle.versions.specs.declared.kind.Kind.TheVariants.{Alpha, Beta, Milestone, ReleaseCandidate, Snapshot, End, Release, ServicePack, Qualifier, HyphenNumber, DotNumber}
use Rattle.versions.specs.Tokens.{Token, normal}
use Rattle.versions.specs.Order.{rank, digit_count, token_cmp, the_end, ended, version_cmp}
use Rattle.versions.specs.Laws.{token_cmp_total}

kinds : List Kind
kinds = Alpha ∷ Beta ∷ Milestone ∷ ReleaseCandidate ∷ Snapshot ∷ End ∷ Release ∷ ServicePack ∷ Qualifier ∷ HyphenNumber ∷ DotNumber ∷ []

kind_of : ℕ → Kind
kind_of n = get_or kinds n End

kind_back : (k : Kind) → kind_of (rank k) ≡ k
unfolding rank kind_of kinds
kind_back Alpha = refl
kind_back Beta = refl
kind_back Milestone = refl
kind_back ReleaseCandidate = refl
kind_back Snapshot = refl
kind_back End = refl
kind_back Release = refl
kind_back ServicePack = refl
kind_back Qualifier = refl
kind_back HyphenNumber = refl
kind_back DotNumber = refl

first_equal : (a b : Ordering) → ordering_then a b ≡ Equal → a ≡ Equal
first_equal Less b e = cc
first_equal Equal b e = refl
first_equal Greater b e = cc

second_equal : (a b : Ordering) → ordering_then a b ≡ Equal → b ≡ Equal
second_equal Less b e = cc
second_equal Equal b e = e
second_equal Greater b e = cc

token_equal : (a b : Token) → token_cmp a b ≡ Equal → a ≡ b
unfolding token_cmp
token_equal a b e =
    let by_kind = nat_cmp-IsAntisymmetric (rank a.kind) (rank b.kind) (first_equal (nat_cmp (rank a.kind) (rank b.kind)) _ e) in
    let same : a.kind ≡ b.kind = sym (kind_back a.kind) ∙ ap kind_of by_kind ∙ kind_back b.kind in
    let contents : a.content ≡ b.content = slice_cmp-IsAntisymmetric nat_cmp-IsAntisymmetric a.content b.content (second_equal (nat_cmp (digit_count a) (digit_count b)) _ (second_equal (nat_cmp (rank a.kind) (rank b.kind)) _ e)) in
    λ i. record { kind = same i; content = contents i }

front : List Token → List Token
front [] = []
front (t ∷ ts) = by t ts (front ts)
  where
    by : Token → List Token → List Token → List Token
    by t [] rest = []
    by t (u ∷ us) rest = t ∷ rest

front_back : (ts : List Token) (t : Token) → front (ts ++ t ∷ []) ≡ ts
unfolding front
front_back [] t = refl
front_back (u ∷ []) t = refl
front_back (u ∷ v ∷ ts) t = ap (λ rest. u ∷ rest) (front_back (v ∷ ts) t)

pub equal_exactly : (a b : List ℕ) → (version_cmp a b ≡ Equal) ↔ (normal a ≡ normal b)
unfolding version_cmp
equal_exactly a b = (
  λ e. sym (front_back (normal a) the_end) ∙ ap front (slice_cmp-IsAntisymmetric token_equal (ended a) (ended b) e) ∙ front_back (normal b) the_end,
  λ e. ap (λ n. slice_cmp token_cmp (ended a) (n ++ the_end ∷ [])) (sym e) ∙ tied_itself (lists_total token_cmp_total) (ended a),
)

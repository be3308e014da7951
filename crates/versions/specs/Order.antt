-- The order of versions. POM Reference, "Version Order Specification"; that numbers of any length compare is an own rule.
use Rattle.std.specs.Prelude.{ℕ, List, [], ◌∷◌, ◌++◌, length}
use Rattle.std.specs.declared.cmp.Ordering.{Ordering}
use Rattle.std.specs.Ordering.{nat_cmp, on, then_cmp}
use Rattle.std.specs.Cmp.Lexicographic.{slice_cmp}
use Rattle.versions.specs.declared.kind.Kind.{Kind}
use Rattle.versions.specs.declared.kind.Kind.TheVariants.{Alpha, Beta, Milestone, ReleaseCandidate, Snapshot, End, Release, ServicePack, Qualifier, HyphenNumber, DotNumber}
use Rattle.versions.specs.Tokens.{Token, normal}

-- the ranks of the tokens, and of the end of a version
unfoldable pub rank : Kind → ℕ
rank Alpha = 0
rank Beta = 1
rank Milestone = 2
rank ReleaseCandidate = 3
rank Snapshot = 4
rank End = 5
rank Release = 6
rank ServicePack = 7
rank Qualifier = 8
rank HyphenNumber = 9
rank DotNumber = 10

-- how many digits a number has
abbrev pub digit_count : Token → ℕ
digit_count t = by t.kind
  where
    by : Kind → ℕ
    by HyphenNumber = length t.content
    by DotNumber = length t.content
    by kind = 0

-- by rank; numbers of one rank by the count of their digits, and then by these; other qualifiers by their bytes
unfoldable pub token_cmp : Token → Token → Ordering
token_cmp = then_cmp (on (λ t. rank t.kind) nat_cmp) (then_cmp (on digit_count nat_cmp) (on (λ t. t.content) (slice_cmp nat_cmp)))

abbrev pub the_end : Token
the_end = record { kind = End; content = [] }

-- the tokens of a version, and its end
abbrev pub ended : List ℕ → List Token
ended text = normal text ++ the_end ∷ []

-- versions compare by their first tokens that differ
unfoldable pub version_cmp : List ℕ → List ℕ → Ordering
version_cmp = on ended (slice_cmp token_cmp)

-- Coordinates that a test tells apart.
use Rattle.std.proofs.Common.{◌≡◌, ℕ, Bool, true, false, ◌&&◌, List, refl, subst, Decides}
use Rattle.std.specs.Str.{bytes_eq}
use Rattle.std.proofs.lemmas.Bool.{false≢true, and_from}
use Rattle.std.proofs.lemmas.Slice.Eq.{bytes_eq-Decides}
use Rattle.mvn_base.specs.declared.gav.Gav.{Gav}
use Rattle.mvn_base.specs.Gav.{gav_eq}

-- both sides of a test that holds
pub left_of : (a b : Bool) → (a && b) ≡ true → a ≡ true
left_of true b e = refl
left_of false b e = absurd (false≢true e)

pub right_of : (a b : Bool) → (a && b) ≡ true → b ≡ true
right_of true b e = e
right_of false b e = absurd (false≢true e)

same_text : (a b : List ℕ) → bytes_eq a b ≡ true → a ≡ b
same_text a b e = (bytes_eq-Decides a b).0 e

itself : (a : List ℕ) → bytes_eq a a ≡ true
itself a = (bytes_eq-Decides a a).1 refl

three : (a b : Gav) → a.group ≡ b.group → a.artifact ≡ b.artifact → a.version ≡ b.version → a ≡ b
three a b g r v = λ i. record { group = g i; artifact = r i; version = v i }

same_gav : (a b : Gav) → gav_eq a b ≡ true → a ≡ b
same_gav a b e =
    let group = bytes_eq a.group b.group in
    let artifact = bytes_eq a.artifact b.artifact in
    let version = bytes_eq a.version b.version in
    let rest = right_of group (artifact && version) e in
    three a b (same_text a.group b.group (left_of group (artifact && version) e)) (same_text a.artifact b.artifact (left_of artifact version rest)) (same_text a.version b.version (right_of artifact version rest))

gav_itself : (a : Gav) → gav_eq a a ≡ true
gav_itself a = and_from (bytes_eq a.group a.group) (bytes_eq a.artifact a.artifact && bytes_eq a.version a.version) (itself a.group)
    (and_from (bytes_eq a.artifact a.artifact) (bytes_eq a.version a.version) (itself a.artifact) (itself a.version))

pub gav_decides : (a b : Gav) → Decides (gav_eq a b) (a ≡ b)
gav_decides a b = (same_gav a b, λ e. subst (λ (c : Gav). gav_eq a c ≡ true) e (gav_itself a))

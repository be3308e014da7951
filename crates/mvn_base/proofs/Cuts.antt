-- Texts that are cut at a byte which one of the two parts lacks.
use Rattle.std.proofs.Common.{◌≡◌, ◌≢◌, ℕ, Bool, true, false, ◌&&◌, List, [], ◌∷◌, ◌++◌, refl, sym, ap, subst, ◌∙◌}
use Rattle.std.specs.List.{list_all}
use Rattle.std.proofs.lemmas.Bool.{false≢true}

-- a text has no such byte
abbrev pub Lacks : ℕ → List ℕ → Type 0
Lacks b [] = Unit {0}
Lacks b (x ∷ text) = (x ≢ b) × Lacks b text

abbrev pub head_of : List ℕ → ℕ
head_of [] = 0
head_of (x ∷ text) = x

abbrev pub tail_of : List ℕ → List ℕ
tail_of [] = []
tail_of (x ∷ text) = text

-- lists with equal heads and equal tails are equal
pub longer : (x y : ℕ) (one other : List ℕ) → x ≡ y → one ≡ other → x ∷ one ≡ y ∷ other
longer x y one other heads tails = ap (λ n. n ∷ one) heads ∙ ap (λ t. y ∷ t) tails

-- both sides of a test that holds
pub and_left : (a b : Bool) → (a && b) ≡ true → a ≡ true
and_left true b e = refl
and_left false b e = absurd (false≢true e)

pub and_right : (a b : Bool) → (a && b) ≡ true → b ≡ true
and_right true b e = e
and_right false b e = absurd (false≢true e)

-- a text all of whose bytes pass a test lacks each byte that doesn't
pub lacks_failing : (b : ℕ) (test : ℕ → Bool) → test b ≡ false → (text : List ℕ) → list_all test text ≡ true → Lacks b text
lacks_failing b test fails [] all = record {}
lacks_failing b test fails (x ∷ text) all = (
  (λ same. false≢true (sym fails ∙ ap test (sym same) ∙ and_left (test x) (list_all test text) all)),
  lacks_failing b test fails text (and_right (test x) (list_all test text) all),
)

-- two texts that lack a byte lack it together
pub lacks_both : (b : ℕ) (one other : List ℕ) → Lacks b one → Lacks b other → Lacks b (one ++ other)
lacks_both b [] other p q = q
lacks_both b (x ∷ one) other p q = (p.0, lacks_both b one other p.1 q)

-- a text with the byte in its middle doesn't lack it
has_middle : (b : ℕ) (one other : List ℕ) → Lacks b (one ++ b ∷ other) → ⊥
has_middle b [] other p = p.0 refl
has_middle b (x ∷ one) other p = has_middle b one other p.1

-- cut at the last such byte, equal texts have equal parts
pub cut_last : (b : ℕ) (one other after rest : List ℕ) → Lacks b after → Lacks b rest → one ++ b ∷ after ≡ other ++ b ∷ rest → (one ≡ other) × (after ≡ rest)
cut_last b [] [] after rest p q e = (refl, ap tail_of e)
cut_last b [] (y ∷ other) after rest p q e = absurd (has_middle b other rest (lacking (ap tail_of e)))
  where
    lacking : after ≡ other ++ b ∷ rest → Lacks b (other ++ b ∷ rest)
    lacking same = subst (Lacks b) same p
cut_last b (x ∷ one) [] after rest p q e = absurd (has_middle b one after (lacking (ap tail_of e)))
  where
    lacking : one ++ b ∷ after ≡ rest → Lacks b (one ++ b ∷ after)
    lacking same = subst (Lacks b) (sym same) q
cut_last b (x ∷ one) (y ∷ other) after rest p q e =
    let more = cut_last b one other after rest p q (ap tail_of e) in
    (longer x y one other (ap head_of e) more.0, more.1)

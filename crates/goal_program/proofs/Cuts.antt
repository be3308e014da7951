-- Cutting a text at one such byte after another.
use Rattle.std.proofs.Common.{◌≡◌, ℕ, suc, ◌+◌, ◌<◌, ◌==◌, Bool, true, false, not, ◌&&◌, cond, nat_lt, List, [], ◌∷◌, ◌++◌, length, take, drop, Option, Some, None, option_map, if◌then◌else◌, refl, sym, ap, ◌∙◌, append_assoc, append-nil, arith}
use Rattle.std.specs.Option.{option_or}
use Rattle.std.specs.List.{list_all, position_or_len}
use Rattle.std.proofs.lemmas.Bool.Decides.{nat_tests}
use Rattle.goal_program.specs.Texts.{cut, cuts, first_some}

abbrev Cut : Type 0
Cut = List ℕ × List ℕ

-- the place of the first such byte, all where there is none
abbrev at_byte : ℕ → List ℕ → ℕ
at_byte c text = position_or_len (λ b. b == c) text

-- a text, cut at the byte of this place
abbrev cut_at : ℕ → List ℕ → Option Cut
cut_at n text = if nat_lt n (length text) then Some (take n text, drop (n + 1) text) else None

-- a cut with one byte more at its front
abbrev onto : ℕ → Cut → Cut
onto b p = (b ∷ p.0, p.1)

some_same : (p q : Cut) → Some p ≡ Some q → p ≡ q
some_same p q e = cc

some_none : {P : Type 0} (p : Cut) → Some p ≡ None → P
some_none p e = cc

-- a text that begins with the byte
cut_here : (c b : ℕ) (text : List ℕ) → (b == c) ≡ true → cut c (b ∷ text) ≡ Some ([], text)
cut_here c b text e =
    let some : nat_lt 0 (length (b ∷ text)) ≡ true = grind (arith, nat_tests) in
    ap (λ z. cut_at (cond (not z) (1 + at_byte c text) 0) (b ∷ text)) e ∙ ap (λ z. if z then Some ([], text) else None) some

-- one place further in a text with one byte more
cut_later : (n b : ℕ) (text : List ℕ) → cut_at (suc n) (b ∷ text) ≡ option_map (onto b) (cut_at n text)
cut_later n b text = by (nat_lt n (length text)) refl
  where
    place : suc n + 1 ≡ suc (n + 1)
    place = omega arith

    by : (t : Bool) → nat_lt n (length text) ≡ t → cut_at (suc n) (b ∷ text) ≡ option_map (onto b) (cut_at n text)
    by true h =
        let test : nat_lt (suc n) (length (b ∷ text)) ≡ true = grind (arith, nat_tests, h) in
        ap (λ z. if z then Some (take (suc n) (b ∷ text), drop (suc n + 1) (b ∷ text)) else None) test ∙ ap (λ k. Some (b ∷ take n text, drop k (b ∷ text))) place
        ∙ sym (ap (λ z. option_map (onto b) (if z then Some (take n text, drop (n + 1) text) else None)) h)
    by false h =
        let test : nat_lt (suc n) (length (b ∷ text)) ≡ false = grind (arith, nat_tests, h) in
        ap (λ z. if z then Some (take (suc n) (b ∷ text), drop (suc n + 1) (b ∷ text)) else None) test ∙ sym (ap (λ z. option_map (onto b) (if z then Some (take n text, drop (n + 1) text) else None)) h)

-- a text that begins with another
cut_there : (c b : ℕ) (text : List ℕ) → (b == c) ≡ false → cut c (b ∷ text) ≡ option_map (onto b) (cut c text)
cut_there c b text e =
    let place : 1 + at_byte c text ≡ suc (at_byte c text) = omega arith in
    ap (λ z. cut_at (cond (not z) (1 + at_byte c text) 0) (b ∷ text)) e ∙ ap (λ n. cut_at n (b ∷ text)) place ∙ cut_later (at_byte c text) b text

-- a text is cut at the first such byte
pub cut_front : (c : ℕ) (front text : List ℕ) → list_all (λ b. not (b == c)) front ≡ true → cut c (front ++ c ∷ text) ≡ Some (front, text)
cut_front c [] text none = cut_here c c text same
  where
    same : (c == c) ≡ true
    same = grind (arith, nat_tests)
cut_front c (b ∷ front) text none = by (b == c) refl (cut_front c front text)
  where
    by : (t : Bool) → (b == c) ≡ t → (list_all (λ b. not (b == c)) front ≡ true → cut c (front ++ c ∷ text) ≡ Some (front, text)) → cut c (b ∷ (front ++ c ∷ text)) ≡ Some (b ∷ front, text)
    by true t again = absurd (clash (sym (ap (λ z. not z && list_all (λ b. not (b == c)) front) t) ∙ none))
      where
        clash : false ≡ true → ⊥
        clash e = cc
    by false t again =
        cut_there c b (front ++ c ∷ text) t ∙ ap (option_map (onto b)) (again (sym (ap (λ z. not z && list_all (λ b. not (b == c)) front) t) ∙ none))

-- what a text is cut into is shorter than it
pub cut_shorter : (c : ℕ) (text part behind : List ℕ) → Some (part, behind) ≡ cut c text → length behind < length text
cut_shorter c [] part behind e = cc
cut_shorter c (b ∷ text) part behind e = by (b == c) refl (cut c text) refl (cut_shorter c text)
  where
    by : (t : Bool) → (b == c) ≡ t → (o : Option Cut) → cut c text ≡ o → ((part behind : List ℕ) → Some (part, behind) ≡ cut c text → length behind < length text) → length behind < length (b ∷ text)
    by true t o is again =
        let same : behind ≡ text = ap (λ p. p.1) (some_same (part, behind) ([], text) (e ∙ cut_here c b text t)) in
        omega (arith, ap length same)
    by false t None is again = some_none (part, behind) (e ∙ cut_there c b text t ∙ ap (option_map (onto b)) is)
    by false t (Some q) is again =
        let same : behind ≡ q.1 = ap (λ p. p.1) (some_same (part, behind) (onto b q) (e ∙ cut_there c b text t ∙ ap (option_map (onto b)) is)) in
        let less : length q.1 < length text = again q.0 q.1 (sym is) in
        omega (arith, less, ap length same)

-- the first cut, and those behind it
abbrev cuts_from : ℕ → List ℕ → Cut → List Cut
cuts_from c front p = (front ++ p.0, p.1) ∷ cuts c ((front ++ p.0) ++ c ∷ []) p.1

-- the cuts of a text that is cut
cuts_more : (c : ℕ) (front text part behind : List ℕ) → Some (part, behind) ≡ cut c text → cuts c front text ≡ cuts_from c front (part, behind)
cuts_more c front [] part behind e = cc
cuts_more c front (b ∷ text) part behind e = by (b == c) refl (cut c text) refl (cuts_more c (front ++ b ∷ []) text)
  where
    by : (t : Bool) → (b == c) ≡ t → (o : Option Cut) → cut c text ≡ o → ((part behind : List ℕ) → Some (part, behind) ≡ cut c text → cuts c (front ++ b ∷ []) text ≡ cuts_from c (front ++ b ∷ []) (part, behind))
        → cuts c front (b ∷ text) ≡ cuts_from c front (part, behind)
    by true t o is again =
        let same : b ≡ c = grind (arith, nat_tests, t) in
        ap (λ z. if z then (front, text) ∷ cuts c (front ++ b ∷ []) text else cuts c (front ++ b ∷ []) text) t
        ∙ ap (λ x. (front, text) ∷ cuts c (front ++ x ∷ []) text) same
        ∙ ap (λ f. (f, text) ∷ cuts c (f ++ c ∷ []) text) (sym (append-nil front))
        ∙ ap (cuts_from c front) (sym (some_same (part, behind) ([], text) (e ∙ cut_here c b text t)))
    by false t None is again = some_none (part, behind) (e ∙ cut_there c b text t ∙ ap (option_map (onto b)) is)
    by false t (Some q) is again =
        ap (λ z. if z then (front, text) ∷ cuts c (front ++ b ∷ []) text else cuts c (front ++ b ∷ []) text) t
        ∙ again q.0 q.1 (sym is)
        ∙ ap (λ f. (f, q.1) ∷ cuts c (f ++ c ∷ []) q.1) (append_assoc front (b ∷ []) q.0)
        ∙ ap (cuts_from c front) (sym (some_same (part, behind) (onto b q) (e ∙ cut_there c b text t ∙ ap (option_map (onto b)) is)))

-- a text that can't be cut has no cuts
cuts_none : (c : ℕ) (front text : List ℕ) → None ≡ cut c text → cuts c front text ≡ []
cuts_none c front [] e = refl
cuts_none c front (b ∷ text) e = by (b == c) refl (cut c text) refl (cuts_none c (front ++ b ∷ []) text)
  where
    by : (t : Bool) → (b == c) ≡ t → (o : Option Cut) → cut c text ≡ o → (None ≡ cut c text → cuts c (front ++ b ∷ []) text ≡ []) → cuts c front (b ∷ text) ≡ []
    by true t o is again = some_none ([], text) (sym (cut_here c b text t) ∙ sym e)
    by false t None is again = ap (λ z. if z then (front, text) ∷ cuts c (front ++ b ∷ []) text else cuts c (front ++ b ∷ []) text) t ∙ again (sym is)
    by false t (Some q) is again = some_none (onto b q) (sym (cut_there c b text t ∙ ap (option_map (onto b)) is) ∙ sym e)

-- the first cut gives something
pub first_found : {B : Type 0} (f : Cut → Option B) (c : ℕ) (front text part behind : List ℕ) (x : B) → Some (part, behind) ≡ cut c text → Some x ≡ f (front ++ part, behind) → Some x ≡ first_some f (cuts c front text)
first_found f c front text part behind x e found = ap (λ o. option_or o (first_some f (cuts c ((front ++ part) ++ c ∷ []) behind))) found ∙ sym (ap (first_some f) (cuts_more c front text part behind e))

-- the first cut gives nothing, so those behind it count
pub first_more : {B : Type 0} (f : Cut → Option B) (c : ℕ) (front text part behind : List ℕ) → Some (part, behind) ≡ cut c text → None ≡ f (front ++ part, behind)
    → first_some f (cuts c ((front ++ part) ++ c ∷ []) behind) ≡ first_some f (cuts c front text)
first_more f c front text part behind e none = ap (λ o. option_or o (first_some f (cuts c ((front ++ part) ++ c ∷ []) behind))) none ∙ sym (ap (first_some f) (cuts_more c front text part behind e))

-- there is no cut
pub first_none : {B : Type 0} (f : Cut → Option B) (c : ℕ) (front text : List ℕ) → None ≡ cut c text → None ≡ first_some f (cuts c front text)
first_none f c front text e = sym (ap (first_some f) (cuts_none c front text e))

-- Where a text is cut at a byte.
use Rattle.std.proofs.Common.{◌≡◌, ◌≢◌, ℕ, zero, suc, ◌<◌, Bool, true, false, nat_eq, List, [], ◌∷◌, ◌++◌, length, get_or, flat_map, Option, Some, None, MatchOption, option_map, refl, arith, sym, ap, ◌∙◌, if◌then◌else◌}
use Rattle.std.proofs.lemmas.Bool.{eq-eqb, eqb-true}
use Rattle.interpolation.specs.declared.part.Part.{Part}
use Rattle.interpolation.specs.Parts.{closed, cut, found, inside_of, next_of, opened, parts, parts_within, spelled, split}
use denote.Ref.{Bor}

same_byte : (a b : ℕ) → nat_eq a b ≡ true → a ≡ b
same_byte a b e = eqb-true a b e

other_byte : (a b : ℕ) → a ≢ b → nat_eq a b ≡ false
other_byte a b h = by (nat_eq a b) refl
  where
    by : (c : Bool) → nat_eq a b ≡ c → nat_eq a b ≡ false
    by true e = absurd (h (same_byte a b e))
    by false e = e

next_differs : (c b : ℕ) (text : List ℕ) → ((i : ℕ) → i < length (b ∷ text) → get_or (b ∷ text) i 0 ≢ c) → (i : ℕ) → i < length text → get_or text i 0 ≢ c
next_differs c b text h i low = h (suc i) (omega (arith, low))

cut_none : (c : ℕ) (text : List ℕ) → ((i : ℕ) → i < length text → get_or text i 0 ≢ c) → cut c text ≡ None
cut_none c [] h = refl
cut_none c (b ∷ text) h =
    ap (λ t. if t then Some ([], text) else option_map (λ e. (b ∷ e.0, e.1)) (cut c text)) (other_byte b c (h 0 (omega arith)))
    ∙ ap (option_map (λ e. (b ∷ e.0, e.1))) (cut_none c text (next_differs c b text h))

cut_some : (c : ℕ) (front rest : List ℕ) → ((i : ℕ) → i < length front → get_or front i 0 ≢ c) → cut c (front ++ c ∷ rest) ≡ Some (front, rest)
cut_some c [] rest h = ap (λ t. if t then Some ([], rest) else option_map (λ e. (c ∷ e.0, e.1)) (cut c rest)) (same c)
  where
    same : (n : ℕ) → nat_eq n n ≡ true
    same n = eq-eqb n n refl
cut_some c (b ∷ front) rest h =
    ap (λ t. if t then Some ([], front ++ c ∷ rest) else option_map (λ e. (b ∷ e.0, e.1)) (cut c (front ++ c ∷ rest))) (other_byte b c (h 0 (omega arith)))
    ∙ ap (option_map (λ e. (b ∷ e.0, e.1))) (cut_some c front rest (next_differs c b front h))

pub cut_parts : (c : ℕ) (text : List ℕ) (r : Option (Bor (List ℕ) × Bor (List ℕ))) → MatchOption r ((i : ℕ) → i < length text → get_or text i 0 ≢ c) (λ x. (text ≡ x.0.now ++ (c ∷ x.1.now)) × ((i : ℕ) → i < length x.0.now → get_or x.0.now i 0 ≢ c))
    → option_map (λ e. (e.0.now, e.1.now)) r ≡ cut c text
cut_parts c text None h = sym (cut_none c text h)
cut_parts c text (Some x) h = sym (ap (cut c) h.0 ∙ cut_some c x.0.now x.1.now h.1)

pub inside_parts : (text : List ℕ) (r : Option (Bor (List ℕ))) → MatchOption r ((rest : List ℕ) → text ≢ 123 ∷ rest) (λ x. text ≡ 123 ∷ x.now) → option_map (λ x. x.now) r ≡ inside_of text
inside_parts [] None h = refl
inside_parts (b ∷ text) None h = sym (ap (λ t. if t then Some text else None) (other_byte b 123 (λ e. h text (ap (λ n. n ∷ text) e))))
inside_parts text (Some x) h = sym (ap inside_of h)

some_none : {A : Type 0} (x : A) → ◌≡◌ {A = Option A} None (Some x) → ⊥
some_none x e = cc

some_same : {A : Type 0} (x y : A) → ◌≡◌ {A = Option A} (Some x) (Some y) → x ≡ y
some_same x y e = cc

-- what is cut is the text
cut_whole : (c : ℕ) (text : List ℕ) (e : List ℕ × List ℕ) → cut c text ≡ Some e → text ≡ e.0 ++ c ∷ e.1
cut_whole c [] e is = absurd (some_none e is)
cut_whole c (b ∷ text) e is = by (nat_eq b c) refl (cut c text) refl (cut_whole c text)
  where
    whole : (o : Option (List ℕ × List ℕ)) → cut c (b ∷ text) ≡ o → o ≡ Some e
    whole o s = sym s ∙ is

    by : (t : Bool) → nat_eq b c ≡ t → (o : Option (List ℕ × List ℕ)) → cut c text ≡ o → ((e : List ℕ × List ℕ) → cut c text ≡ Some e → text ≡ e.0 ++ c ∷ e.1) → b ∷ text ≡ e.0 ++ c ∷ e.1
    by true s o there further =
        let same : ([], text) ≡ e = some_same ([], text) e (whole (Some ([], text)) (ap (λ t. if t then Some ([], text) else option_map (λ e. (b ∷ e.0, e.1)) (cut c text)) s)) in
        ap (λ n. n ∷ text) (eqb-true b c s) ∙ ap (λ (e : List ℕ × List ℕ). e.0 ++ c ∷ e.1) same
    by false s None there further =
        absurd (some_none e (whole None (ap (λ t. if t then Some ([], text) else option_map (λ e. (b ∷ e.0, e.1)) (cut c text)) s ∙ ap (option_map (λ e. (b ∷ e.0, e.1))) there)))
    by false s (Some f) there further =
        let same : (b ∷ f.0, f.1) ≡ e = some_same (b ∷ f.0, f.1) e (whole (Some (b ∷ f.0, f.1)) (ap (λ t. if t then Some ([], text) else option_map (λ e. (b ∷ e.0, e.1)) (cut c text)) s ∙ ap (option_map (λ e. (b ∷ e.0, e.1))) there)) in
        ap (λ l. b ∷ l) (further f there) ∙ ap (λ (e : List ℕ × List ℕ). e.0 ++ c ∷ e.1) same

inside_whole : (text inside : List ℕ) → inside_of text ≡ Some inside → text ≡ 123 ∷ inside
inside_whole [] inside is = absurd (some_none inside is)
inside_whole (b ∷ text) inside is = by (nat_eq b 123) refl
  where
    by : (t : Bool) → nat_eq b 123 ≡ t → b ∷ text ≡ 123 ∷ inside
    by true s = (λ i. eqb-true b 123 s i ∷ some_same text inside (sym (ap (λ t. if t then Some text else None) s) ∙ is) i)
    by false s = absurd (some_none inside (sym (ap (λ t. if t then Some text else None) s) ∙ is))

abbrev written : List Part → List ℕ
written ps = flat_map spelled ps

nested : (xs ys zs : List ℕ) → (xs ++ ys) ++ zs ≡ xs ++ (ys ++ zs)
nested [] ys zs = refl
nested (x ∷ xs) ys zs = ap (λ l. x ∷ l) (nested xs ys zs)

nothing_more : (xs : List ℕ) → xs ++ [] ≡ xs
nothing_more [] = refl
nothing_more (x ∷ xs) = ap (λ l. x ∷ l) (nothing_more xs)

-- the parts of a text, as far as they were found, are written as the text
split_written : (f : List ℕ → List Part) (text : List ℕ) → ((rest : List ℕ) → written (f rest) ≡ rest) → written (split f text (next_of text)) ≡ text
split_written f text rest = first (cut 36 text) refl
  where
    closes : (before inside : List ℕ) → text ≡ before ++ 36 ∷ 123 ∷ inside → (o : Option (List ℕ × List ℕ)) → cut 125 inside ≡ o → written (split f text (closed before o)) ≡ text
    closes before inside is None there = nothing_more text
    closes before inside is (Some e) there =
        ap (λ l. before ++ 36 ∷ 123 ∷ l) (nested e.0 (125 ∷ []) (written (f e.1)) ∙ ap (λ l. e.0 ++ 125 ∷ l) (rest e.1) ∙ sym (cut_whole 125 inside e there)) ∙ sym is

    opens : (before after : List ℕ) → text ≡ before ++ 36 ∷ after → (o : Option (List ℕ)) → inside_of after ≡ o → written (split f text (opened before after o)) ≡ text
    opens before after is None there = ap (λ l. before ++ 36 ∷ l) (rest after) ∙ sym is
    opens before after is (Some inside) there = closes before inside (is ∙ ap (λ l. before ++ 36 ∷ l) (inside_whole after inside there)) (cut 125 inside) refl

    first : (o : Option (List ℕ × List ℕ)) → cut 36 text ≡ o → written (split f text (found o)) ≡ text
    first None there = nothing_more text
    first (Some e) there = opens e.0 e.1 (cut_whole 36 text e there) (inside_of e.1) refl

within_written : (n : ℕ) (text : List ℕ) → written (parts_within n text) ≡ text
within_written zero text = nothing_more text
within_written (suc n) text = split_written (parts_within n) text (within_written n)

pub parts_written : (text : List ℕ) → written (parts text) ≡ text
unfolding parts
parts_written text = within_written (length text) text

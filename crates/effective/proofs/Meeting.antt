-- POMs of two lists, and whom they meet.
use Rattle.std.proofs.Common.{◌≡◌, ℕ, zero, suc, ◌+◌, ◌<◌, ◌≤◌, max, Bool, true, false, not, ◌&&◌, ◌||◌, nat_le, nat_lt, List, [], ◌∷◌, ◌++◌, length, drop, get_or, refl, arith, sym, ap, subst, ◌∙◌, if◌then◌else◌}
use Rattle.std.proofs.Math.Seq.{drop-cons}
use Rattle.std.proofs.lemmas.Bool.{le-leb, leb-true}
use Rattle.mvn_base.specs.declared.refusal.PomId.{PomId}
use Rattle.mvn_base.specs.declared.refusal.PomId.TheVariants as ids
use Rattle.lineage.specs.Lineage.{is_in, next_poms, pom_eq}
use Rattle.lineage.specs.Stores.{meets}
use Rattle.lineage.proofs.Holding.{same_gav, same_path}
use Rattle.lineage.proofs.Keeping.{meets_more}
use Rattle.effective.specs.Serving.{serves}
use Rattle.effective.specs.declared.below.Below.{Below}

pub or_false : (a : Bool) → (a || false) ≡ a
or_false true = refl
or_false false = refl

or_same : (a b : Bool) → (b ≡ true → a ≡ true) → a ≡ (a || b)
or_same true b implied = refl
or_same false true implied = implied refl
or_same false false implied = refl

or_assoc : (a b c : Bool) → ((a || b) || c) ≡ (a || (b || c))
or_assoc true b c = refl
or_assoc false b c = refl

same_pom : (a b : PomId) → pom_eq a b ≡ true → a ≡ b
same_pom (ids.Path a) (ids.Path b) e = ap (λ p. ids.Path p) (same_path a b e)
same_pom (ids.Path a) (ids.Gav b) e = cc
same_pom (ids.Gav a) (ids.Path b) e = cc
same_pom (ids.Gav a) (ids.Gav b) e = ap (λ g. ids.Gav g) (same_gav a b e)

-- whoever is among some is met by whoever they are among
in_both : (poms seen : List PomId) (pom : PomId) → is_in pom poms ≡ true → is_in pom seen ≡ true → meets poms seen ≡ true
in_both [] seen pom here there = cc
in_both (p ∷ ps) seen pom here there = by (λ e. in_both ps seen pom e there) (pom_eq p pom) refl here
  where
    first : (a b : Bool) → a ≡ true → (a || b) ≡ true
    first a b e = ap (λ x. x || b) e

    second : (a b : Bool) → b ≡ true → (a || b) ≡ true
    second true b e = refl
    second false b e = e

    by : (is_in pom ps ≡ true → meets ps seen ≡ true) → (b : Bool) → pom_eq p pom ≡ b → (b || is_in pom ps) ≡ true → (is_in p seen || meets ps seen) ≡ true
    by rest true is e = first (is_in p seen) (meets ps seen) (ap (λ q. is_in q seen) (same_pom p pom is) ∙ there)
    by rest false is e = second (is_in p seen) (meets ps seen) (rest e)

-- a POM that is among them changes nothing
pub met_already : (poms seen : List PomId) (pom : PomId) → is_in pom poms ≡ true → meets poms seen ≡ (meets poms seen || is_in pom seen)
met_already poms seen pom here = or_same (meets poms seen) (is_in pom seen) (λ there. in_both poms seen pom here there)

pub met_more : (poms seen all : List PomId) (pom : PomId) → all ≡ poms ++ pom ∷ [] → meets all seen ≡ (meets poms seen || is_in pom seen)
met_more poms seen all pom is = ap (λ l. meets l seen) is ∙ meets_more poms seen pom ∙ ap (λ b. meets poms seen || b) (or_false (is_in pom seen))

-- one POM of the rest after another
pub none_met : (poms seen more : List PomId) → (meets poms seen || meets (drop 0 more) seen) ≡ (meets poms seen || meets more seen)
none_met poms seen more = refl

pub rest_met : (done next poms seen more : List PomId) (i : ℕ) (x : PomId) → i < length more → x ≡ get_or more i x
    → meets next seen ≡ (meets done seen || is_in x seen)
    → (meets done seen || meets (drop i more) seen) ≡ (meets poms seen || meets more seen)
    → (meets next seen || meets (drop (i + 1) more) seen) ≡ (meets poms seen || meets more seen)
rest_met done next poms seen more i x low is one so =
    ap (λ b. b || meets (drop (i + 1) more) seen) one ∙ or_assoc (meets done seen) (is_in x seen) (meets (drop (i + 1) more) seen)
    ∙ ap (λ l. meets done seen || meets l seen) (sym rest) ∙ so
  where
    rest : drop i more ≡ x ∷ drop (i + 1) more
    rest =
        let one : suc i ≡ i + 1 = omega arith in
        drop-cons more i x low ∙ ap (λ y. y ∷ drop (suc i) more) (sym is) ∙ ap (λ k. x ∷ drop k more) one

pub all_met : (done poms seen more : List PomId) (i : ℕ) → drop i more ≡ [] → (meets done seen || meets (drop i more) seen) ≡ (meets poms seen || meets more seen) → meets done seen ≡ (meets poms seen || meets more seen)
all_met done poms seen more i none so = sym (or_false (meets done seen)) ∙ ap (λ l. meets done seen || meets l seen) (sym none) ∙ so

-- the larger of two is low where both are
max_low : (a b left : ℕ) → nat_le (max a b) left ≡ (nat_le a left && nat_le b left)
max_low a b left = by (nat_le (max a b) left) refl (nat_le a left) refl (nat_le b left) refl
  where
    by : (z : Bool) → nat_le (max a b) left ≡ z → (x : Bool) → nat_le a left ≡ x → (y : Bool) → nat_le b left ≡ y → z ≡ (x && y)
    by true d true e true f = refl
    by true d true e false f =
        let all = leb-true (max a b) left d in
        let both : false ≡ true = sym f ∙ le-leb b left (omega (arith, all)) in cc
    by true d false e y f =
        let all = leb-true (max a b) left d in
        let both : false ≡ true = sym e ∙ le-leb a left (omega (arith, all)) in cc
    by false d true e true f =
        let one = leb-true a left e in
        let two = leb-true b left f in
        let both : false ≡ true = sym d ∙ le-leb (max a b) left (omega (arith, one, two)) in cc
    by false d true e false f = refl
    by false d false e y f = refl

shuffled : (p q x y : Bool) → ((p && q) && not (x || y)) ≡ ((p && not x) && (q && not y))
shuffled true true true y = refl
shuffled true true false y = refl
shuffled true false true y = refl
shuffled true false false y = refl
shuffled false q x y = refl

-- what is below two serves where each serves
pub both_serve : (one other both : Below) (left : ℕ) (building : List PomId) → both.depth ≡ max one.depth other.depth
    → meets both.poms building ≡ (meets one.poms building || meets other.poms building) → serves left building both ≡ (serves left building one && serves left building other)
both_serve one other both left building depth met =
    ap (λ b. b && not (meets both.poms building)) (ap (λ n. nat_le n left) depth ∙ max_low one.depth other.depth left) ∙ ap (λ b. (nat_le one.depth left && nat_le other.depth left) && not b) met
    ∙ shuffled (nat_le one.depth left) (nat_le other.depth left) (meets one.poms building) (meets other.poms building)

-- The hands that a call uses, and the others.
use Rattle.std.proofs.Common.{◌≡◌, ◌<◌, ◌≤◌, ℕ, zero, suc, List, [], ◌∷◌, ◌++◌, length, map, take, drop, Option, refl, sym, ap, subst, ◌∙◌, arith}
use Rattle.mvn_outside.specs.declared.shelf.ShelfTold.{ShelfTold}
use Rattle.crew_turns.specs.Hands.{HandState}
use Rattle.crew.specs.CrewOutcomes.{hand_of, told_of}
use Rattle.build_outcome.specs.Left.{Outside, TellAsBefore, outside_by}
use Rattle.call_plan.specs.Seen.{IsAskedFirst}

-- ---- lists that are cut

pub take_all : {A : Type 0} (n : ℕ) (front back : List A) → length front ≡ n → take n (front ++ back) ≡ front
take_all zero [] back e = refl
take_all zero (a ∷ front) back e = absurd (omega (arith, e))
take_all (suc n) [] back e = absurd (omega (arith, e))
take_all (suc n) (a ∷ front) back e = ap (λ l. a ∷ l) (take_all n front back (omega (arith, e)))

pub drop_all : {A : Type 0} (n : ℕ) (front back : List A) → length front ≡ n → drop n (front ++ back) ≡ back
drop_all zero [] back e = refl
drop_all zero (a ∷ front) back e = absurd (omega (arith, e))
drop_all (suc n) [] back e = absurd (omega (arith, e))
drop_all (suc n) (a ∷ front) back e = drop_all n front back (omega (arith, e))

drop_map : {A B : Type 0} (f : A → B) (n : ℕ) (xs : List A) → drop n (map f xs) ≡ map f (drop n xs)
drop_map f zero xs = refl
drop_map f (suc n) [] = refl
drop_map f (suc n) (x ∷ xs) = drop_map f n xs

-- what is left of two lists is the same, so also of their items' images
pub drop_images : {A B : Type 0} (f : A → B) (n : ℕ) (xs ys : List A) → drop n xs ≡ drop n ys → drop n (map f xs) ≡ drop n (map f ys)
drop_images f n xs ys e = drop_map f n xs ∙ ap (map f) e ∙ sym (drop_map f n ys)

-- and behind more of them
pub drop_more : {A : Type 0} (n : ℕ) (xs ys : List A) → 1 ≤ n → drop 1 xs ≡ drop 1 ys → length xs ≡ length ys → drop n xs ≡ drop n ys
drop_more zero xs ys low e many = absurd (omega (arith, low))
drop_more (suc n) [] [] low e many = refl
drop_more (suc n) [] (y ∷ ys) low e many = absurd (omega (arith, many))
drop_more (suc n) (x ∷ xs) [] low e many = absurd (omega (arith, many))
drop_more (suc n) (x ∷ xs) (y ∷ ys) low e many = ap (drop n) e

-- ---- the hands

-- the first hand is among those that are used
pub first_used : (hands : List HandState) (n : ℕ) → 1 ≤ n → hand_of (take n hands) 0 ≡ hand_of hands 0
first_used [] zero low = refl
first_used [] (suc n) low = refl
first_used (hand ∷ hands) zero low = absurd (omega (arith, low))
first_used (hand ∷ hands) (suc n) low = refl

pub some_used : (hands : List HandState) (n : ℕ) → 1 ≤ n → 1 ≤ length hands → 0 < length (take n hands)
some_used [] n low some = absurd (omega (arith, some))
some_used (hand ∷ hands) zero low some = absurd (omega (arith, low))
some_used (hand ∷ hands) (suc n) low some = omega arith

-- hands tell what they told where those that are used do and the others are as they were
each_tells : (n : ℕ) (before now : List HandState) → length now ≡ length before → ((w : ℕ) → w < length (take n before) → told_of (take n now) w ≡ told_of (take n before) w) → drop n now ≡ drop n before
    → (w : ℕ) → w < length before → told_of now w ≡ told_of before w
each_tells zero before now many each same w low = ap (λ (hands : List HandState). told_of hands w) same
each_tells (suc n) [] now many each same w low = absurd (omega (arith, low))
each_tells (suc n) (b ∷ before) [] many each same w low = absurd (omega (arith, many))
each_tells (suc n) (b ∷ before) (a ∷ now) many each same zero low = each 0 (omega arith)
each_tells (suc n) (b ∷ before) (a ∷ now) many each same (suc w) low = each_tells n before now (omega (arith, many)) (λ v l. each (suc v) (omega (arith, l))) same w (omega (arith, low))

pub whole_tells : (n : ℕ) (before now : List HandState) → length now ≡ length before → TellAsBefore (take n before) (take n now) → drop n now ≡ drop n before → TellAsBefore before now
whole_tells n before now many is same = record { many = many; each = each_tells n before now many is.each same }

-- ---- planning asked the first hand's remote

joined : (a b : HandState) (now before : List HandState) → a ≡ b → now ≡ before → a ∷ now ≡ b ∷ before
joined a b now before e f = ap (λ (h : HandState). h ∷ now) e ∙ ap (λ (hs : List HandState). b ∷ hs) f

-- that didn't fail: so the hands are as they were
pub asked_same : (before now : List HandState) → IsAskedFirst before now → 1 ≤ length before → length now ≡ length before → (hand_of now 0).remote ≡ (hand_of before 0).remote → now ≡ before
asked_same [] now is some many still = absurd (omega (arith, some))
asked_same (b ∷ before) [] is some many still = absurd (omega (arith, many))
asked_same (b ∷ before) (a ∷ now) is some many still = joined a b now before (is.first ∙ ap (λ (n : ℕ). record b { remote = n }) still) is.others

told_rest : (before now : List HandState) → drop 1 now ≡ drop 1 before → length now ≡ length before → told_of now 0 ≡ told_of before 0 → (w : ℕ) → w < length before → told_of now w ≡ told_of before w
told_rest [] now same many first w low = absurd (omega (arith, low))
told_rest (b ∷ before) [] same many first w low = absurd (omega (arith, many))
told_rest (b ∷ before) (a ∷ now) same many first zero low = first
told_rest (b ∷ before) (a ∷ now) same many first (suc w) low = ap (λ (hands : List HandState). told_of hands w) same

-- at any rate they tell what they told
pub asked_tells : (before now : List HandState) → IsAskedFirst before now → length now ≡ length before → TellAsBefore before now
asked_tells before now is many = record { many = many; each = told_rest before now is.others many (ap (λ (h : HandState). h.told) is.first) }

-- ---- what is outside

pub outside_same : (a b : Outside) → b.shelf ≡ a.shelf → b.faults ≡ a.faults → b.hands ≡ a.hands → b ≡ a
outside_same a b shelf faults hands =
    ap (λ (told : Option ShelfTold). record { shelf = told; faults = b.faults; hands = b.hands }) shelf
    ∙ ap (λ (n : ℕ). record { shelf = a.shelf; faults = n; hands = b.hands }) faults
    ∙ ap (λ (list : List HandState). record { shelf = a.shelf; faults = a.faults; hands = list }) hands

pub same_tells : (hands : List HandState) → TellAsBefore hands hands
same_tells hands = record { many = refl; each = λ w low. refl }

-- the repository came back as it was given
pub outside_left : {S H : Type 0} (told : S → Option ShelfTold) (faults : S → ℕ) (state : H → HandState) (shelf left : S) (hands : List H) → left ≡ shelf → outside_by told faults state left hands ≡ outside_by told faults state shelf hands
outside_left told faults state shelf left hands e = ap (λ s. outside_by told faults state s hands) e

-- One row is put into those of some modules.
use Rattle.std.proofs.Common.{◌≡◌, ◌≢◌, ℕ, ◌+◌, ◌<◌, ◌≤◌, Bool, true, false, ◌==◌, ◌||◌, ◌&&◌, nat_lt, List, [], length, get_or, set, refl, sym, ap, subst, ◌∙◌, arith}
use Rattle.std.proofs.lemmas.Bool.Decides.{nat_tests}
use Rattle.std.proofs.lemmas.Grind.{get_or-set_at}
use Rattle.std.proofs.lemmas.List.{get_or-set_other, length-set}
use Rattle.reactor_order.specs.Rows.{is_in, words_for, AreRows}

-- the rows of the modules below one have it
pub record Spreads (n : ℕ) (old : List (List ℕ)) (modules more : List ℕ) (m : ℕ) (now : List (List ℕ)) : Type 0 where
  pub rows : AreRows n now
  pub each : (a b : ℕ) → a < n → is_in (get_or now a []) b ≡ (is_in (get_or old a []) b || (nat_lt a m && (is_in modules a && is_in more b)))

or_none : (a b : Bool) → a ≡ (a || (false && b))
or_none true b = refl
or_none false b = refl

or_false : (x : Bool) → (x || false) ≡ x
or_false true = refl
or_false false = refl

pub spreads_first : (n : ℕ) (old : List (List ℕ)) (modules more : List ℕ) → AreRows n old → Spreads n old modules more 0 old
spreads_first n old modules more rows = record { rows = rows; each = λ a b low. first a b (grind (arith, nat_tests)) }
  where
    first : (a b : ℕ) → nat_lt a 0 ≡ false → is_in (get_or old a []) b ≡ (is_in (get_or old a []) b || (nat_lt a 0 && (is_in modules a && is_in more b)))
    first a b none = rw none (or_none (is_in (get_or old a []) b) (is_in modules a && is_in more b))

-- modules that aren't among them are passed over
pub spreads_past : (n : ℕ) (old : List (List ℕ)) (modules more : List ℕ) (m k : ℕ) (now : List (List ℕ)) → Spreads n old modules more m now
    → ((j : ℕ) → m ≤ j → j < k → j < n → is_in modules j ≡ false) → m ≤ k → Spreads n old modules more k now
spreads_past n old modules more m k now was none on = record { rows = was.rows; each = λ a b low. was.each a b low ∙ by a b low (nat_lt a m) (nat_lt a k) refl refl }
  where
    by : (a b : ℕ) → a < n → (x y : Bool) → nat_lt a m ≡ x → nat_lt a k ≡ y
        → (is_in (get_or old a []) b || (nat_lt a m && (is_in modules a && is_in more b))) ≡ (is_in (get_or old a []) b || (nat_lt a k && (is_in modules a && is_in more b)))
    by a b low true true ex ey = rw ex (rw ey refl)
    by a b low false false ex ey = rw ex (rw ey refl)
    by a b low true false ex ey = absurd (clash a ex ey)
      where
        clash : (a : ℕ) → nat_lt a m ≡ true → nat_lt a k ≡ false → ⊥
        clash a ex ey = grind (arith, nat_tests, ex, ey, on)
    by a b low false true ex ey =
        let free : is_in modules a ≡ false = none a (grind (arith, nat_tests, ex)) (grind (arith, nat_tests, ey)) low in
        rw ex (rw ey (rw free refl))

-- one that is has its row joined
pub spreads_in : (n : ℕ) (old : List (List ℕ)) (modules more : List ℕ) (m : ℕ) (now : List (List ℕ)) (row : List ℕ) → m < n → Spreads n old modules more m now
    → is_in modules m ≡ true → length row ≡ length (get_or now m []) → ((b : ℕ) → is_in row b ≡ (is_in (get_or now m []) b || is_in more b))
    → Spreads n old modules more (m + 1) (set now m row)
spreads_in n old modules more m now row low was there wide is = record {
  rows = record { long = length-set now m row ∙ was.rows.long; wide = λ a below. wide_more a below (a == m) refl };
  each = λ a b below. each_more a b below (a == m) refl;
}
  where
    within : m < length now
    within = omega (arith, low, was.rows.long)

    wide_more : (a : ℕ) → a < n → (t : Bool) → (a == m) ≡ t → length (get_or (set now m row) a []) ≡ words_for n
    wide_more a below true e =
        let same : a ≡ m = grind (arith, nat_tests, e) in
        ap length (get_or-set_at now m a row [] same within) ∙ wide ∙ was.rows.wide m low
    wide_more a below false e =
        let other : a ≢ m = grind (arith, nat_tests, e) in
        ap length (get_or-set_other now m a row [] other) ∙ was.rows.wide a below

    each_more : (a b : ℕ) → a < n → (t : Bool) → (a == m) ≡ t → is_in (get_or (set now m row) a []) b ≡ (is_in (get_or old a []) b || (nat_lt a (m + 1) && (is_in modules a && is_in more b)))
    each_more a b below true e =
        let same : a ≡ m = grind (arith, nat_tests, e) in
        let before : nat_lt a (m + 1) ≡ true = grind (arith, nat_tests, same) in
        let there_a : is_in modules a ≡ true = ap (is_in modules) same ∙ there in
        let not_yet : nat_lt m m ≡ false = grind (arith, nat_tests) in
        rw before (rw there_a (ap (λ r. is_in r b) (get_or-set_at now m a row [] same within) ∙ is b ∙ ap (λ x. x || is_in more b) (was.each m b low ∙ rw not_yet (or_false (is_in (get_or old m []) b)))
        ∙ ap (λ k. is_in (get_or old k []) b || is_in more b) (sym same)))
    each_more a b below false e =
        let other : a ≢ m = grind (arith, nat_tests, e) in
        let before : nat_lt a (m + 1) ≡ nat_lt a m = grind (arith, nat_tests, other) in
        rw before (ap (λ r. is_in r b) (get_or-set_other now m a row [] other) ∙ was.each a b below)

pub spread_ends : (n : ℕ) (old : List (List ℕ)) (modules more : List ℕ) (m : ℕ) (now : List (List ℕ)) → n ≤ m → Spreads n old modules more m now
    → (a b : ℕ) → a < n → is_in (get_or now a []) b ≡ (is_in (get_or old a []) b || (is_in modules a && is_in more b))
spread_ends n old modules more m now end is a b low =
    let before : nat_lt a m ≡ true = grind (arith, nat_tests, low, end) in
    is.each a b low ∙ rw before refl

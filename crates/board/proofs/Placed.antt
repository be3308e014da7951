-- A table with an answer more.
use Rattle.std.proofs.Common.{◌≡◌, ℕ, zero, suc, ◌<◌, ◌⊎◌, inl, inr, Bool, true, false, ◌&&◌, ◌==◌, nat_eq, List, [], ◌∷◌, ◌++◌, length, find, map, set, get_or, replicate, slice_get, Option, Some, None, is_none, option_and_then, option_map, unwrap_or, refl, arith, sym, ap, subst, ◌∙◌, if◌then◌else◌}
use Rattle.std.specs.Option.{option_or}
use Rattle.std.proofs.lemmas.Bool.{eqb-true, false≢true}
use Rattle.std.proofs.lemmas.List.{get_or-set_other, get_or-set_same, length-append, length-replicate, length-set}
use Rattle.std.proofs.lemmas.List.Folds.{find-append}
use Rattle.build_core.specs.declared.event.Answered.{Answered}
use Rattle.board.specs.Tables.{IsTable, first_answer, place_at, row_with, with_place}

nothing_is : {A : Type 0} (x : A) → None ≡ Some x → ⊥
nothing_is x e = false≢true (ap (λ o. is_some_of o) e)
  where
    is_some_of : {A : Type 0} → Option A → Bool
    is_some_of None = false
    is_some_of (Some y) = true

-- equal or not
same_or_not : (a b : ℕ) → (a ≡ b) ⊎ ((a ≡ b) → ⊥)
same_or_not a b = by (nat_eq a b) refl
  where
    by : (t : Bool) → nat_eq a b ≡ t → (a ≡ b) ⊎ ((a ≡ b) → ⊥)
    by true e = inl (eqb-true a b e)
    by false e = inr (λ same. differ same e)
      where
        differ : a ≡ b → nat_eq a b ≡ false → ⊥
        differ same e = let t : nat_eq a b ≡ true = grind (arith, same) in false≢true (sym e ∙ t)

-- what stands at a place stays there
get_before : (xs ys : List Answered) (k : ℕ) → k < length xs → slice_get (xs ++ ys) k ≡ slice_get xs k
get_before [] ys k low = absurd (omega (arith, low))
get_before (x ∷ xs) ys zero low = refl
get_before (x ∷ xs) ys (suc k) low = get_before xs ys k (omega (arith, low))

get_last : (xs : List Answered) (a : Answered) → slice_get (xs ++ a ∷ []) (length xs) ≡ Some a
get_last [] a = refl
get_last (x ∷ xs) a = get_last xs a

abbrev is_this : ℕ → ℕ → Answered → Bool
is_this number goal a = (a.«module» == number) && (a.goal == goal)

-- what is found with an answer more
found_more : (answers : List Answered) (a : Answered) (number goal : ℕ) → first_answer (answers ++ a ∷ []) number goal ≡ option_or (first_answer answers number goal) (if is_this number goal a then Some a else None)
found_more answers a number goal = find-append (is_this number goal) answers (a ∷ [])

here : (a : Answered) (number goal : ℕ) → a.«module» ≡ number → a.goal ≡ goal → is_this number goal a ≡ true
here a number goal m g = grind (arith, m, g)

other_module : (a : Answered) (number goal : ℕ) → (number ≡ a.«module» → ⊥) → is_this number goal a ≡ false
other_module a number goal d = let t : (a.«module» == number) ≡ false = grind (arith, d) in ap (λ b. b && (a.goal == goal)) t

other_goal : (a : Answered) (number goal : ℕ) → (goal ≡ a.goal → ⊥) → is_this number goal a ≡ false
other_goal a number goal d = by (a.«module» == number)
  where
    t : (a.goal == goal) ≡ false
    t = grind (arith, d)

    by : (b : Bool) → (b && (a.goal == goal)) ≡ false
    by true = t
    by false = refl

-- a row with a place more: the place of this goal where there was none, and else as it was
row_other : (row : List (Option ℕ)) (goal place g : ℕ) → (g ≡ goal → ⊥) → get_or (row_with row goal place) g None ≡ get_or row g None
row_other row goal place g d = by (is_none (get_or row goal None))
  where
    by : (b : Bool) → get_or (if b then set row goal (Some place) else row) g None ≡ get_or row g None
    by true = get_or-set_other row goal g (Some place) None d
    by false = refl

row_here : (row : List (Option ℕ)) (goal place : ℕ) → goal < length row → get_or row goal None ≡ None → get_or (row_with row goal place) goal None ≡ Some place
row_here row goal place low none = ap (λ o. get_or (if is_none o then set row goal (Some place) else row) goal None) none ∙ get_or-set_same row goal (Some place) None low

row_kept : (row : List (Option ℕ)) (goal place k : ℕ) → get_or row goal None ≡ Some k → get_or (row_with row goal place) goal None ≡ Some k
row_kept row goal place k some = ap (λ o. get_or (if is_none o then set row goal (Some place) else row) goal None) some ∙ some

row_length : (row : List (Option ℕ)) (goal place : ℕ) → length (row_with row goal place) ≡ length row
row_length row goal place = by (is_none (get_or row goal None))
  where
    by : (b : Bool) → length (if b then set row goal (Some place) else row) ≡ length row
    by true = length-set row goal (Some place)
    by false = refl

-- beyond a row there is no place
beyond : {A : Type 0} (xs : List A) (i : ℕ) (d : A) → (i < length xs → ⊥) → get_or xs i d ≡ d
beyond [] i d out = refl
beyond (x ∷ xs) zero d out = absurd (out (omega arith))
beyond (x ∷ xs) (suc i) d out = beyond xs i d (λ low. out (omega (arith, low)))

in_or_not : (a b : ℕ) → (a < b) ⊎ (a < b → ⊥)
in_or_not a b = by (Rattle.std.proofs.Common.nat_lt a b) refl
  where
    by : (t : Bool) → Rattle.std.proofs.Common.nat_lt a b ≡ t → (a < b) ⊎ (a < b → ⊥)
    by true e = inl (grind (arith, e))
    by false e = inr (λ low. let t : Rattle.std.proofs.Common.nat_lt a b ≡ true = grind (arith, low) in false≢true (sym e ∙ t))

or_nothing : (a : Answered) {b : Bool} → false ≡ b → None ≡ option_or None (if b then Some a else None)
or_nothing a {b} e = ap (λ t. option_or None (if t then Some a else None)) e

module _ (answers : List Answered) (rows : List (List (Option ℕ))) (a : Answered) (is : IsTable answers rows) where
  abbrev then_rows : List (List (Option ℕ))
  then_rows = with_place rows a.«module» a.goal (length answers)

  abbrev old_row : List (Option ℕ)
  old_row = get_or rows a.«module» []

  -- another module's row stays
  row_stays : (number : ℕ) → (number ≡ a.«module» → ⊥) → get_or then_rows number [] ≡ get_or rows number []
  row_stays number d = get_or-set_other rows a.«module» number (row_with old_row a.goal (length answers)) [] d

  -- its own has the place
  row_is : get_or then_rows a.«module» [] ≡ row_with old_row a.goal (length answers)
  row_is = by (in_or_not a.«module» (length rows))
    where
      by : (a.«module» < length rows) ⊎ (a.«module» < length rows → ⊥) → get_or then_rows a.«module» [] ≡ row_with old_row a.goal (length answers)
      by (inl low) = get_or-set_same rows a.«module» (row_with old_row a.goal (length answers)) [] low
      by (inr out) =
          let none : old_row ≡ [] = beyond rows a.«module» [] out in
          beyond then_rows a.«module» [] (λ low. out (let same = length-set rows a.«module» (row_with old_row a.goal (length answers)) in omega (arith, low, same)))
          ∙ ap (λ row. row_with row a.goal (length answers)) (sym none)

  -- an old place finds what it found, and what is found first stays first
  old_place : (number goal k : ℕ) → place_at rows number goal ≡ Some k → goal < length (get_or rows number []) → slice_get (answers ++ a ∷ []) k ≡ first_answer (answers ++ a ∷ []) number goal
  old_place number goal k at low =
      let within = is.low number goal k at in
      let was : slice_get answers k ≡ first_answer answers number goal = ap (λ o. option_and_then (slice_get answers) o) (sym at) ∙ is.found number goal low in
      get_before answers (a ∷ []) k within ∙ by (slice_get answers k) refl was
    where
      some_here : (xs : List Answered) (i : ℕ) → i < length xs → slice_get xs i ≡ None → ⊥
      some_here [] i low none = omega (arith, low)
      some_here (x ∷ xs) zero low none = nothing_is x (sym none)
      some_here (x ∷ xs) (suc i) low none = some_here xs i (omega (arith, low)) none

      by : (o : Option Answered) → slice_get answers k ≡ o → o ≡ first_answer answers number goal → o ≡ first_answer (answers ++ a ∷ []) number goal
      by None none same = absurd (some_here answers k (is.low number goal k at) none)
      by (Some x) some same = ap (λ o. option_or o (if is_this number goal a then Some a else None)) same ∙ sym (found_more answers a number goal)

  -- a goal without a place finds nothing, unless the answer is its
  no_place : (number goal : ℕ) → place_at rows number goal ≡ None → goal < length (get_or rows number []) → is_this number goal a ≡ false → None ≡ first_answer (answers ++ a ∷ []) number goal
  no_place number goal at low other =
      let was : None ≡ first_answer answers number goal = ap (λ o. option_and_then (slice_get answers) o) (sym at) ∙ is.found number goal low in
      or_nothing a (sym other)
      ∙ ap (λ o. option_or o (if is_this number goal a then Some a else None)) was ∙ sym (found_more answers a number goal)

  -- where the place stays, what is found is found
  stays : (number goal : ℕ) → goal < length (get_or rows number []) → is_this number goal a ≡ false → place_at then_rows number goal ≡ place_at rows number goal → option_and_then (slice_get (answers ++ a ∷ [])) (place_at then_rows number goal) ≡ first_answer (answers ++ a ∷ []) number goal
  stays number goal low other same = by (place_at rows number goal) refl
    where
      by : (o : Option ℕ) → place_at rows number goal ≡ o → option_and_then (slice_get (answers ++ a ∷ [])) (place_at then_rows number goal) ≡ first_answer (answers ++ a ∷ []) number goal
      by None e = ap (λ o. option_and_then (slice_get (answers ++ a ∷ [])) o) (same ∙ e) ∙ no_place number goal e low other
      by (Some k) e = ap (λ o. option_and_then (slice_get (answers ++ a ∷ [])) o) (same ∙ e) ∙ old_place number goal k e low

  found : (number goal : ℕ) → goal < length (get_or then_rows number []) → option_and_then (slice_get (answers ++ a ∷ [])) (place_at then_rows number goal) ≡ first_answer (answers ++ a ∷ []) number goal
  found number goal low = by (same_or_not number a.«module»)
    where
      mine : number ≡ a.«module» → (goal ≡ a.goal) ⊎ ((goal ≡ a.goal) → ⊥) → option_and_then (slice_get (answers ++ a ∷ [])) (place_at then_rows number goal) ≡ first_answer (answers ++ a ∷ []) number goal
      mine m (inr d) =
          let row : get_or then_rows number [] ≡ row_with old_row a.goal (length answers) = ap (λ n. get_or then_rows n []) m ∙ row_is in
          let long : goal < length (get_or rows number []) = let l = ap length row in let s = row_length old_row a.goal (length answers) in let t = ap (λ n. length (get_or rows n [])) m in omega (arith, low, l, s, t) in
          stays number goal long (other_goal a number goal d)
          (ap (λ r. get_or r goal None) row ∙ row_other old_row a.goal (length answers) goal d ∙ ap (λ n. place_at rows n goal) (sym m))
      mine m (inl g) =
          let row : get_or then_rows number [] ≡ row_with old_row a.goal (length answers) = ap (λ n. get_or then_rows n []) m ∙ row_is in
          let long : goal < length (get_or rows number []) = let l = ap length row in let s = row_length old_row a.goal (length answers) in let t = ap (λ n. length (get_or rows n [])) m in omega (arith, low, l, s, t) in
          let old : goal < length old_row = let t = ap (λ n. length (get_or rows n [])) m in omega (arith, long, t) in
          let at_place : place_at then_rows number goal ≡ get_or (row_with old_row a.goal (length answers)) a.goal None = ap (λ r. get_or r goal None) row ∙ ap (λ n. get_or (row_with old_row a.goal (length answers)) n None) g in
          let before : place_at rows number goal ≡ get_or old_row a.goal None = ap (λ n. place_at rows n goal) m ∙ ap (λ n. get_or old_row n None) g in
          which (get_or old_row a.goal None) refl at_place before long (subst (λ n. n < length old_row) g old)
        where
          which : (o : Option ℕ) → get_or old_row a.goal None ≡ o → place_at then_rows number goal ≡ get_or (row_with old_row a.goal (length answers)) a.goal None → place_at rows number goal ≡ get_or old_row a.goal None → goal < length (get_or rows number []) → a.goal < length old_row
              → option_and_then (slice_get (answers ++ a ∷ [])) (place_at then_rows number goal) ≡ first_answer (answers ++ a ∷ []) number goal
          which (Some k) e at_place before long old =
              ap (λ o. option_and_then (slice_get (answers ++ a ∷ [])) o) (at_place ∙ row_kept old_row a.goal (length answers) k e) ∙ old_place number goal k (before ∙ e) long
          which None e at_place before long old =
              let none : None ≡ first_answer answers number goal = ap (λ o. option_and_then (slice_get answers) o) (sym (before ∙ e)) ∙ is.found number goal long in
              ap (λ o. option_and_then (slice_get (answers ++ a ∷ [])) o) (at_place ∙ row_here old_row a.goal (length answers) old e)
              ∙ get_last answers a
              ∙ ap (λ b. option_or None (if b then Some a else None)) (sym (here a number goal (sym m) (sym g)))
              ∙ ap (λ o. option_or o (if is_this number goal a then Some a else None)) none
              ∙ sym (found_more answers a number goal)

      by : (number ≡ a.«module») ⊎ ((number ≡ a.«module») → ⊥) → option_and_then (slice_get (answers ++ a ∷ [])) (place_at then_rows number goal) ≡ first_answer (answers ++ a ∷ []) number goal
      by (inr d) =
          let row = row_stays number d in
          stays number goal (subst (λ r. goal < length r) row low) (other_module a number goal d) (ap (λ r. get_or r goal None) row)
      by (inl m) = mine m (same_or_not goal a.goal)

  low : (number goal k : ℕ) → place_at then_rows number goal ≡ Some k → k < length (answers ++ a ∷ [])
  low number goal k at = by (same_or_not number a.«module»)
    where
      longer : k < length answers → k < length (answers ++ a ∷ [])
      longer less = let l = length-append answers (a ∷ []) in omega (arith, less, l)

      last : length answers ≡ k → k < length (answers ++ a ∷ [])
      last same = let l = length-append answers (a ∷ []) in omega (arith, same, l)

      mine : number ≡ a.«module» → (goal ≡ a.goal) ⊎ ((goal ≡ a.goal) → ⊥) → k < length (answers ++ a ∷ [])
      mine m (inr d) =
          let row : get_or then_rows number [] ≡ row_with old_row a.goal (length answers) = ap (λ n. get_or then_rows n []) m ∙ row_is in
          longer (is.low number goal k (ap (λ n. place_at rows n goal) m ∙ sym (row_other old_row a.goal (length answers) goal d) ∙ sym (ap (λ r. get_or r goal None) row) ∙ at))
      mine m (inl g) =
          let row : get_or then_rows number [] ≡ row_with old_row a.goal (length answers) = ap (λ n. get_or then_rows n []) m ∙ row_is in
          let at_place : get_or (row_with old_row a.goal (length answers)) a.goal None ≡ Some k = sym (ap (λ r. get_or r goal None) row ∙ ap (λ n. get_or (row_with old_row a.goal (length answers)) n None) g) ∙ at in
          which (get_or old_row a.goal None) refl at_place
        where
          which : (o : Option ℕ) → get_or old_row a.goal None ≡ o → get_or (row_with old_row a.goal (length answers)) a.goal None ≡ Some k → k < length (answers ++ a ∷ [])
          which (Some j) e here_k =
              let same : j ≡ k = ap (λ o. unwrap_or o 0) (sym (row_kept old_row a.goal (length answers) j e) ∙ here_k) in
              longer (is.low number goal k (ap (λ n. place_at rows n goal) m ∙ ap (λ n. get_or old_row n None) g ∙ e ∙ ap (λ n. Some n) same))
          which None e here_k = by_range (in_or_not a.goal (length old_row))
            where
              by_range : (a.goal < length old_row) ⊎ (a.goal < length old_row → ⊥) → k < length (answers ++ a ∷ [])
              by_range (inl low) = last (ap (λ o. unwrap_or o 0) (sym (row_here old_row a.goal (length answers) low e) ∙ here_k))
              by_range (inr out) = absurd (nothing_is k (sym (beyond (row_with old_row a.goal (length answers)) a.goal None (λ l. out (let s = row_length old_row a.goal (length answers) in omega (arith, l, s)))) ∙ here_k))

      by : (number ≡ a.«module») ⊎ ((number ≡ a.«module») → ⊥) → k < length (answers ++ a ∷ [])
      by (inr d) = longer (is.low number goal k (sym (ap (λ r. get_or r goal None) (row_stays number d)) ∙ at))
      by (inl m) = mine m (same_or_not goal a.goal)

  -- so a table with an answer more is one
  pub noted : IsTable (answers ++ a ∷ []) (with_place rows a.«module» a.goal (length answers))
  noted = record { found = found; low = low }

-- a table without answers
none_there : (n i : ℕ) → ◌≡◌ {A = Option ℕ} (get_or (replicate n None) i None) None
none_there zero i = refl
none_there (suc n) zero = refl
none_there (suc n) (suc i) = none_there n i

rows_none : (counts : List ℕ) (number goal : ℕ) → place_at (map (λ n. replicate n None) counts) number goal ≡ None
rows_none [] number goal = refl
rows_none (n ∷ counts) zero goal = none_there n goal
rows_none (n ∷ counts) (suc number) goal = rows_none counts number goal

pub fresh : {answers : List Answered} {rows : List (List (Option ℕ))} (counts : List ℕ) → answers ≡ [] → rows ≡ map (λ n. replicate n None) counts → IsTable answers rows
fresh {answers} {rows} counts none rows_are = subst (λ xs. IsTable xs rows) (sym none) (subst (λ r. IsTable [] r) (sym rows_are) (record {
  found = λ number goal low. ap (λ o. option_and_then (slice_get []) o) (rows_none counts number goal);
  low = λ number goal k at. absurd (nothing_is k (sym (rows_none counts number goal) ∙ at));
}))

abbrev empty_row : ℕ → List (Option ℕ)
empty_row n = replicate n None

lengths_none : (counts : List ℕ) → map length (map empty_row counts) ≡ counts
lengths_none [] = refl
lengths_none (n ∷ counts) = ap (λ k. k ∷ map length (map empty_row counts)) (length-replicate n None) ∙ ap (λ t. n ∷ t) (lengths_none counts)

pub counts_of : {rows : List (List (Option ℕ))} (counts : List ℕ) → rows ≡ map (λ n. replicate n None) counts → map length rows ≡ counts
counts_of counts e = ap (map length) e ∙ lengths_none counts

-- the number of places of each row stays
lengths_set : (rows : List (List (Option ℕ))) (n : ℕ) (row : List (Option ℕ)) → length row ≡ length (get_or rows n []) → map length (set rows n row) ≡ map length rows
lengths_set [] n row e = refl
lengths_set (r ∷ rows) zero row e = ap (λ k. k ∷ map length rows) e
lengths_set (r ∷ rows) (suc n) row e = ap (λ t. length r ∷ t) (lengths_set rows n row e)

pub counts_same : (rows : List (List (Option ℕ))) (number goal place : ℕ) → map length (with_place rows number goal place) ≡ map length rows
counts_same rows number goal place = lengths_set rows number (row_with (get_or rows number []) goal place) (row_length (get_or rows number []) goal place)

-- the number of a row's places
pub count_at : (rows : List (List (Option ℕ))) (number : ℕ) → get_or (map length rows) number 0 ≡ length (get_or rows number [])
count_at [] number = refl
count_at (r ∷ rows) zero = refl
count_at (r ∷ rows) (suc number) = count_at rows number

-- what stands at its place, and what has none
pub answer_none : (answers : List Answered) (rows : List (List (Option ℕ))) (number goal : ℕ) → IsTable answers rows → goal < get_or (map length rows) number 0 → place_at rows number goal ≡ None → None ≡ option_map (λ (a : Answered). a.answer) (first_answer answers number goal)
answer_none answers rows number goal is low none =
    let long : goal < length (get_or rows number []) = let c = count_at rows number in omega (arith, low, c) in
    ap (option_map (λ (a : Answered). a.answer)) (ap (λ o. option_and_then (slice_get answers) o) (sym none) ∙ is.found number goal long)

pub answer_found : (answers : List Answered) (rows : List (List (Option ℕ))) (number goal place : ℕ) → IsTable answers rows → goal < get_or (map length rows) number 0 → place_at rows number goal ≡ Some place → slice_get answers place ≡ first_answer answers number goal
answer_found answers rows number goal place is low some =
    let long : goal < length (get_or rows number []) = let c = count_at rows number in omega (arith, low, c) in
    ap (λ o. option_and_then (slice_get answers) o) (sym some) ∙ is.found number goal long

-- one row changed, by what its places become
pub set_items : {V : Type 0} (f : V → List (Option ℕ)) (rows : List V) (n : ℕ) (old new : V) (g : List (Option ℕ) → List (Option ℕ)) → n < length rows → old ≡ get_or rows n old → f new ≡ g (f old) → map f (set rows n new) ≡ set (map f rows) n (g (get_or (map f rows) n []))
set_items f [] n old new g low at same = absurd (omega (arith, low))
set_items f (r ∷ rows) zero old new g low at same = ap (λ x. x ∷ map f rows) (same ∙ ap (λ x. g (f x)) at)
set_items f (r ∷ rows) (suc n) old new g low at same = ap (λ t. f r ∷ t) (set_items f rows n old new g (omega (arith, low)) at same)

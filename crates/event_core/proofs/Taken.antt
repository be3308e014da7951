-- Names that are held, by lists that keep freed ones.
use Rattle.std.proofs.Common.{◌≡◌, ℕ, zero, suc, ◌+◌, ◌<◌, ◌≤◌, ◌⊎◌, inl, inr, Bool, true, false, not, ◌&&◌, nat_eq, nat_lt, List, [], ◌∷◌, ◌++◌, length, filter, get_or, replicate, set, Option, Some, None, is_none, is_some, option_and_then, refl, arith, sym, ap, subst, ◌∙◌, if◌then◌else◌}
use Rattle.std.specs.List.{list_all}
use Rattle.std.specs.Option.{option_map_or, option_to_list}
use Rattle.std.proofs.lemmas.Bool.{cases_eq, cases_lt, false≢true, ltb-true, lt-ltb, ne_eqb, eq-eqb}
use Rattle.std.proofs.lemmas.List.{append-nil, get_or-set_other, get_or-set_same, length-set}
use Rattle.std.proofs.lemmas.List.Elements.{All-set, filter-append}
use Rattle.build_core.specs.declared.mode.Mode.{Mode}
use Rattle.build_core.specs.Locks.{Holds, IsSeat, hold, names_of, with_hold, workers_of}
use Rattle.event_core.specs.Causes.{last_of}
use Rattle.scripts.specs.Climbing.{Climbs, but}
use Rattle.scripts.specs.Outlines.{is_empty}
use Rattle.event_core.specs.Taken.{AreStacks, IsStack, ends_freed, held_from, is_held}
use Rattle.scripts.proofs.Climbs.{all_more, both, climbs_length, climbs_more}
use Rattle.event_core.proofs.LockRows.{row_in}
use Rattle.event_core.proofs.Law.{all_below, last_more, none_above}
use Rattle.event_core.proofs.Ties.{row_length, rows_other, rows_same}

-- ---- filters

filter_alike : (p q : ℕ → Bool) (xs : List ℕ) → ((k : ℕ) → p k ≡ q k) → filter p xs ≡ filter q xs
filter_alike p q [] alike = refl
filter_alike p q (x ∷ xs) alike =
    ap (λ b. if b then x ∷ filter p xs else filter p xs) (alike x)
    ∙ ap (λ t. if q x then x ∷ t else t) (filter_alike p q xs alike)

filter_below : (p q : ℕ → Bool) (n : ℕ) (xs : List ℕ) → list_all (λ h. nat_lt h n) xs ≡ true → ((k : ℕ) → k < n → p k ≡ q k) → filter p xs ≡ filter q xs
filter_below p q n [] all alike = refl
filter_below p q n (x ∷ xs) all alike =
    let parts = both (nat_lt x n) (list_all (λ h. nat_lt h n) xs) all in
    ap (λ b. if b then x ∷ filter p xs else filter p xs) (alike x (ltb-true x n parts.0))
    ∙ ap (λ t. if q x then x ∷ t else t) (filter_below p q n xs parts.1 alike)

filter_but : (p q : ℕ → Bool) (n : ℕ) (xs : List ℕ) → ((k : ℕ) → (k ≡ n → ⊥) → p k ≡ q k) → p n ≡ false → filter p xs ≡ but n (filter q xs)
filter_but p q n [] alike isnt = refl
filter_but p q n (x ∷ xs) alike isnt = by (cases_eq x n) (filter_but p q n xs alike isnt)
  where
    past : (b : Bool) → nat_eq x n ≡ true → but n (filter q xs) ≡ but n (if b then x ∷ filter q xs else filter q xs)
    past true e = sym (ap (λ b. if not b then x ∷ but n (filter q xs) else but n (filter q xs)) e)
    past false e = refl

    kept : (b : Bool) → nat_eq x n ≡ false → (if b then x ∷ but n (filter q xs) else but n (filter q xs)) ≡ but n (if b then x ∷ filter q xs else filter q xs)
    kept true e = sym (ap (λ b. if not b then x ∷ but n (filter q xs) else but n (filter q xs)) e)
    kept false e = refl

    by : (x ≡ n) ⊎ (x ≡ n → ⊥) → filter p xs ≡ but n (filter q xs) → filter p (x ∷ xs) ≡ but n (filter q (x ∷ xs))
    by (inl same) again = ap (λ b. if b then x ∷ filter p xs else filter p xs) (ap p same ∙ isnt) ∙ again ∙ past (q x) (eq-eqb x n same)
    by (inr other) again = ap (λ b. if b then x ∷ filter p xs else filter p xs) (alike x other) ∙ ap (λ t. if q x then x ∷ t else t) again ∙ kept (q x) (ne_eqb x n other)

-- ---- a list whose last name is held

last_put : (xs : List ℕ) (x : ℕ) → last_of (xs ++ x ∷ []) ≡ Some x
last_put [] x = refl
last_put (y ∷ []) x = refl
last_put (y ∷ z ∷ xs) x = last_more y z (xs ++ x ∷ []) ∙ last_put (z ∷ xs) x

last_there : (y : ℕ) (ys : List ℕ) → last_of (y ∷ ys) ≡ None → ⊥
last_there y [] e = false≢true (sym (ap is_some e))
last_there y (z ∷ ys) e = last_there z ys (sym (last_more y z ys) ∙ e)

module _ (locks : Holds) (w : ℕ) where
  keeps_last : (x l : ℕ) (ys : List ℕ) (b : Bool) → last_of ys ≡ Some l → last_of (if b then x ∷ ys else ys) ≡ Some l
  keeps_last x l [] true e = absurd (false≢true (ap is_some e))
  keeps_last x l (y ∷ ys) true e = last_more x y ys ∙ e
  keeps_last x l ys false e = e

  held_here : (o : Option Mode) → is_none o ≡ false → is_some o ≡ true
  held_here None e = absurd (false≢true (sym e))
  held_here (Some mode) e = refl

  pub last_same : (xs : List ℕ) → ends_freed locks w xs ≡ false → last_of (filter (is_held locks w) xs) ≡ last_of xs
  last_same [] top = refl
  last_same (x ∷ []) top = ap (λ b. last_of (if b then x ∷ [] else [])) (held_here (hold locks x w) top)
  last_same (x ∷ y ∷ ys) top = by (last_of (y ∷ ys)) refl (last_same (y ∷ ys) (ap (λ o. option_map_or (λ n. is_none (hold locks n w)) o false) (sym (last_more x y ys)) ∙ top))
    where
      by : (o : Option ℕ) → last_of (y ∷ ys) ≡ o → last_of (filter (is_held locks w) (y ∷ ys)) ≡ last_of (y ∷ ys) → last_of (filter (is_held locks w) (x ∷ y ∷ ys)) ≡ last_of (x ∷ y ∷ ys)
      by None e again = absurd (last_there y ys e)
      by (Some l) e again = keeps_last x l (filter (is_held locks w) (y ∷ ys)) (is_held locks w x) (again ∙ e) ∙ sym (last_more x y ys ∙ e)

  empty_by_last : (xs ys : List ℕ) → last_of xs ≡ last_of ys → is_empty xs ≡ is_empty ys
  empty_by_last [] [] e = refl
  empty_by_last [] (y ∷ ys) e = absurd (last_there y ys (sym e))
  empty_by_last (x ∷ xs) [] e = absurd (last_there x xs e)
  empty_by_last (x ∷ xs) (y ∷ ys) e = refl

  pub empty_same : (xs : List ℕ) → ends_freed locks w xs ≡ false → is_empty (filter (is_held locks w) xs) ≡ is_empty xs
  empty_same xs top = empty_by_last (filter (is_held locks w) xs) xs (last_same xs top)

  -- a freed name at the end goes
  pub dropped : (xs ys : List ℕ) (o : Option ℕ) → xs ≡ ys ++ option_to_list o → ends_freed locks w xs ≡ true → filter (is_held locks w) ys ≡ filter (is_held locks w) xs
  dropped xs ys None e freed = ap (filter (is_held locks w)) (sym (append-nil ys) ∙ sym e)
  dropped xs ys (Some x) e freed =
      let gone : is_none (hold locks x w) ≡ true = ap (λ o. option_map_or (λ n. is_none (hold locks n w)) o false) (sym (last_put ys x)) ∙ ap (ends_freed locks w) (sym e) ∙ freed in
      sym (ap (filter (is_held locks w)) e ∙ filter-append (is_held locks w) ys (x ∷ []) ∙ ap (λ b. filter (is_held locks w) ys ++ (if b then x ∷ [] else [])) (not_held (hold locks x w) gone) ∙ append-nil (filter (is_held locks w) ys))
    where
      not_held : (o : Option Mode) → is_none o ≡ true → is_some o ≡ false
      not_held None e = refl
      not_held (Some mode) e = absurd (false≢true e)

pub climbs_front : (xs ys : List ℕ) (low : ℕ) → Climbs low (xs ++ ys) → Climbs low xs
climbs_front [] ys low climbs = tt
climbs_front (x ∷ xs) ys low climbs = (climbs.0, climbs_front xs ys (suc x) climbs.1)

pub all_front : (p : ℕ → Bool) (xs ys : List ℕ) → list_all p (xs ++ ys) ≡ true → list_all p xs ≡ true
all_front p [] ys all = refl
all_front p (x ∷ xs) ys all = let parts = both (p x) (list_all p (xs ++ ys)) all in ap (λ b. b && list_all p xs) parts.0 ∙ all_front p xs ys parts.1

-- ---- rows

row_from : (locks : Holds) (v : ℕ) (rows : List (List ℕ)) (i : ℕ) → get_or (held_from locks v rows) i [] ≡ filter (is_held locks (v + i)) (get_or rows i [])
row_from locks v [] i = refl
row_from locks v (s ∷ rows) zero = let e : v ≡ v + 0 = omega arith in ap (λ w. filter (is_held locks w) s) e
row_from locks v (s ∷ rows) (suc i) = let e : suc v + i ≡ v + suc i = omega arith in row_from locks (suc v) rows i ∙ ap (λ w. filter (is_held locks w) (get_or rows i [])) e

pub row_is : (locks : Holds) (rows : List (List ℕ)) (w : ℕ) → get_or (held_from locks 0 rows) w [] ≡ filter (is_held locks w) (get_or rows w [])
row_is locks rows w = let e : 0 + w ≡ w = omega arith in row_from locks 0 rows w ∙ ap (λ v. filter (is_held locks v) (get_or rows w [])) e

far_row : (rows : List (List ℕ)) (i : ℕ) → length rows ≤ i → get_or rows i [] ≡ []
far_row [] i far = refl
far_row (x ∷ rows) zero far = absurd (omega (arith, far))
far_row (x ∷ rows) (suc i) far = far_row rows i (omega (arith, far))

module _ (locks : Holds) (rows : List (List ℕ)) (are : AreStacks locks rows) where
  top_of : (w : ℕ) → ends_freed locks w (get_or rows w []) ≡ false
  top_of w = by (cases_lt w (workers_of locks))
    where
      by : (w < workers_of locks) ⊎ (workers_of locks ≤ w) → ends_freed locks w (get_or rows w []) ≡ false
      by (inl low) = (are.stacks w low).top
      by (inr far) = ap (ends_freed locks w) (far_row rows w (omega (arith, far, are.rows)))

  pub greatest_is : (w : ℕ) → last_of (get_or rows w []) ≡ last_of (get_or (held_from locks 0 rows) w [])
  greatest_is w = sym (ap last_of (row_is locks rows w) ∙ last_same locks w (get_or rows w []) (top_of w))

  pub none_is : (w : ℕ) → is_empty (get_or rows w []) ≡ is_empty (get_or (held_from locks 0 rows) w [])
  none_is w = sym (ap is_empty (row_is locks rows w) ∙ empty_same locks w (get_or rows w []) (top_of w))

  pub short_rows : (k : ℕ) (d : List ℕ) → k < length rows → length (get_or rows k d) ≤ names_of locks
  short_rows k d low =
      let it = are.stacks k (omega (arith, low, are.rows)) in
      let e = same_default rows k low in
      let short = climbs_length (get_or rows k []) 0 (names_of locks) it.climbs it.low (omega arith) in
      omega (arith, short, ap length e)
    where
      same_default : (xs : List (List ℕ)) (k : ℕ) → k < length xs → get_or xs k d ≡ get_or xs k []
      same_default [] k low = absurd (omega (arith, low))
      same_default (x ∷ xs) zero low = refl
      same_default (x ∷ xs) (suc k) low = same_default xs k (omega (arith, low))

-- ---- one hold changes

module _ (locks new : Holds) where
  rest_same : (v : ℕ) (rows : List (List ℕ)) → ((k u : ℕ) → v ≤ u → hold new k u ≡ hold locks k u) → held_from new v rows ≡ held_from locks v rows
  rest_same v [] alike = refl
  rest_same v (s ∷ rows) alike =
      ap (λ t. t ∷ held_from new (suc v) rows) (filter_alike (is_held new v) (is_held locks v) s (λ k. ap is_some (alike k v (omega arith))))
      ∙ ap (λ t. filter (is_held locks v) s ∷ t) (rest_same (suc v) rows (λ k u far. alike k u (omega (arith, far))))

  view_from : (v : ℕ) (rows : List (List ℕ)) (i : ℕ) (s x : List ℕ) → i < length rows → ((k u : ℕ) → (u ≡ v + i → ⊥) → hold new k u ≡ hold locks k u) → filter (is_held new (v + i)) s ≡ x → held_from new v (set rows i s) ≡ set (held_from locks v rows) i x
  view_from v [] i s x low others here = absurd (omega (arith, low))
  view_from v (r ∷ rows) zero s x low others here =
      let e : v + 0 ≡ v = omega arith in
      ap (λ t. t ∷ held_from new (suc v) rows) (ap (λ u. filter (is_held new u) s) (sym e) ∙ here)
      ∙ ap (λ t. x ∷ t) (rest_same (suc v) rows (λ k u far. others k u (λ same. omega (arith, far, same))))
  view_from v (r ∷ rows) (suc i) s x low others here =
      let e : suc v + i ≡ v + suc i = omega arith in
      ap (λ t. t ∷ held_from new (suc v) (set rows i s)) (filter_alike (is_held new v) (is_held locks v) r (λ k. ap is_some (others k v (λ same. omega (arith, same)))))
      ∙ ap (λ t. filter (is_held locks v) r ∷ t) (view_from (suc v) rows i s x (omega (arith, low)) (λ k u apart. others k u (λ same. apart (omega (arith, same)))) (ap (λ u. filter (is_held new u) s) e ∙ here))

  pub view_set : (rows : List (List ℕ)) (w : ℕ) (s x : List ℕ) → w < length rows → ((k u : ℕ) → (u ≡ w → ⊥) → hold new k u ≡ hold locks k u) → filter (is_held new w) s ≡ x → held_from new 0 (set rows w s) ≡ set (held_from locks 0 rows) w x
  view_set rows w s x low others here = let e : 0 + w ≡ w = omega arith in view_from 0 rows w s x low (λ k u apart. others k u (λ same. apart (omega (arith, same)))) (ap (λ u. filter (is_held new u) s) e ∙ here)

-- the table with one hold changed: rows stay as long, and another worker's list is as it was
module _ (locks : Holds) (rows : List (List ℕ)) (are : AreStacks locks rows) (n w : ℕ) (seat : IsSeat locks n w) (mode : Option Mode) where
  abbrev next : Holds
  next = with_hold locks n w mode

  own_hold : hold next n w ≡ mode
  own_hold = rows_same locks.2 n w mode (workers_of locks) (omega (arith, seat.0, are.depth)) are.width seat.1

  other_name : (k : ℕ) → (k ≡ n → ⊥) → hold next k w ≡ hold locks k w
  other_name k other = rows_other locks.2 n w k w mode (λ same any. other same)

  other_worker : (k u : ℕ) → (u ≡ w → ⊥) → hold next k u ≡ hold locks k u
  other_worker k u other = rows_other locks.2 n w k u mode (λ any same. other same)

  stacks_set : (s : List ℕ) → IsStack next w s → AreStacks next (set rows w s)
  stacks_set s is = record {
    rows = length-set rows w s ∙ are.rows;
    depth = length-set locks.2 n (set (row_in locks.2 n) w mode) ∙ are.depth;
    width = All-set (λ row. length row ≡ workers_of locks) locks.2 n (set (row_in locks.2 n) w mode) (row_length locks.2 n w mode (workers_of locks) (omega (arith, seat.0, are.depth)) are.width) are.width;
    stacks = λ u low. by u low (cases_eq u w);
  }
    where
      by : (u : ℕ) → u < workers_of locks → (u ≡ w) ⊎ (u ≡ w → ⊥) → IsStack next u (get_or (set rows w s) u [])
      by u low (inl same) =
          subst (λ j. IsStack next j (get_or (set rows w s) j [])) (sym same)
          (subst (IsStack next w) (sym (get_or-set_same rows w s [] (omega (arith, seat.1, are.rows)))) is)
      by u low (inr other) =
          let it = are.stacks u low in
          let here : get_or (set rows w s) u [] ≡ get_or rows u [] = get_or-set_other rows w u s [] other in
          subst (IsStack next u) (sym here) (record { climbs = it.climbs; low = it.low; top = still (last_of (get_or rows u [])) it.top })
        where
          still : (o : Option ℕ) → option_map_or (λ k. is_none (hold locks k u)) o false ≡ false → option_map_or (λ k. is_none (hold next k u)) o false ≡ false
          still None e = refl
          still (Some k) e = ap is_none (other_worker k u other) ∙ e

module _ (locks : Holds) (rows : List (List ℕ)) (are : AreStacks locks rows) (n w : ℕ) (seat : IsSeat locks n w) (mode : Mode)
    (above : list_all (λ h. nat_lt h n) (get_or (held_from locks 0 rows) w []) ≡ true) where
  all_under : list_all (λ h. nat_lt h n) (get_or rows w []) ≡ true
  all_under =
      let it = are.stacks w seat.1 in
      let row = get_or rows w [] in
      let held = filter (is_held locks w) row in
      let held_under : list_all (λ h. nat_lt h n) held ≡ true = ap (list_all (λ h. nat_lt h n)) (sym (row_is locks rows w)) ∙ above in
      all_below row 0 n it.climbs (ap (option_and_then (λ h. if nat_lt h n then None else Some h)) (sym (last_same locks w row it.top)) ∙ none_above held n held_under)

  pub taken_view : held_from (with_hold locks n w (Some mode)) 0 (set rows w (get_or rows w [] ++ n ∷ [])) ≡ set (held_from locks 0 rows) w (get_or (held_from locks 0 rows) w [] ++ n ∷ [])
  taken_view =
      let row = get_or rows w [] in
      let next = with_hold locks n w (Some mode) in
      view_set locks next rows w (row ++ n ∷ []) (get_or (held_from locks 0 rows) w [] ++ n ∷ []) (omega (arith, seat.1, are.rows)) (other_worker locks rows are n w seat (Some mode))
      (filter-append (is_held next w) row (n ∷ [])
      ∙ ap (λ o. filter (is_held next w) row ++ (if is_some o then n ∷ [] else [])) (own_hold locks rows are n w seat (Some mode))
      ∙ ap (λ t. t ++ n ∷ []) (filter_below (is_held next w) (is_held locks w) n row all_under (λ k low. ap is_some (other_name locks rows are n w seat (Some mode) k (λ same. omega (arith, low, same)))) ∙ sym (row_is locks rows w)))

  pub taken_stacks : AreStacks (with_hold locks n w (Some mode)) (set rows w (get_or rows w [] ++ n ∷ []))
  taken_stacks =
      let it = are.stacks w seat.1 in
      let row = get_or rows w [] in
      stacks_set locks rows are n w seat (Some mode) (row ++ n ∷ []) (record {
        climbs = climbs_more row 0 n it.climbs all_under (omega arith);
        low = all_more (λ h. nat_lt h (names_of locks)) row n it.low (lt-ltb n (names_of locks) seat.0);
        top = ap (λ o. option_map_or (λ k. is_none (hold (with_hold locks n w (Some mode)) k w)) o false) (last_put row n) ∙ ap is_none (own_hold locks rows are n w seat (Some mode));
      })

module _ (locks : Holds) (rows : List (List ℕ)) (are : AreStacks locks rows) (n w : ℕ) (seat : IsSeat locks n w) (left : List ℕ)
    (same_held : filter (is_held (with_hold locks n w None) w) left ≡ filter (is_held (with_hold locks n w None) w) (get_or rows w [])) where
  pub freed_view : held_from (with_hold locks n w None) 0 (set rows w left) ≡ set (held_from locks 0 rows) w (but n (get_or (held_from locks 0 rows) w []))
  freed_view =
      let row = get_or rows w [] in
      let next = with_hold locks n w None in
      view_set locks next rows w left (but n (get_or (held_from locks 0 rows) w [])) (omega (arith, seat.1, are.rows)) (other_worker locks rows are n w seat None)
      (same_held
      ∙ filter_but (is_held next w) (is_held locks w) n row (λ k other. ap is_some (other_name locks rows are n w seat None k other)) (ap is_some (own_hold locks rows are n w seat None))
      ∙ ap (but n) (sym (row_is locks rows w)))

  pub freed_stacks : (Climbs 0 (get_or rows w []) → Climbs 0 left) → ((h : ℕ) → list_all (λ k. nat_lt k h) (get_or rows w []) ≡ true → list_all (λ k. nat_lt k h) left ≡ true) → ends_freed (with_hold locks n w None) w left ≡ false → AreStacks (with_hold locks n w None) (set rows w left)
  freed_stacks climbs low top = let it = are.stacks w seat.1 in stacks_set locks rows are n w seat None left (record { climbs = climbs it.climbs; low = low (names_of locks) it.low; top = top })

-- ---- at first

pub none_from : (locks : Holds) (v count : ℕ) → held_from locks v (replicate count []) ≡ replicate count []
none_from locks v zero = refl
none_from locks v (suc count) = ap (λ t. [] ∷ t) (none_from locks (suc v) count)

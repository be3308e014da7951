-- A tree is a place and the trees below it.
use Rattle.std.proofs.Common.{◌≡◌, ◌⊎◌, inl, inr, ℕ, zero, suc, ◌+◌, ◌<◌, ◌≤◌, Bool, true, false, List, [], ◌∷◌, ◌++◌, flat_map, length, reverse, slice_get, Option, Some, None, refl, sym, ap, ◌∙◌, arith, append-nil, append_assoc, if◌then◌else◌}
use Rattle.std.specs.Option.{option_to_list}
use Rattle.std.proofs.lemmas.Bool.{false≢true}
use Rattle.std.proofs.lemmas.Bool.Decides.{nat_tests}
use Rattle.std.proofs.lemmas.List.{reverse-append}
use Rattle.std.proofs.lemmas.Grind.{flat_map-append}
use Rattle.resolution.specs.Preorder.{Ascends, behind, below, below_from, onward, stands_below, tree}

-- what stands in a list
abbrev pub IsIn : List ℕ → ℕ → Type 0
IsIn [] x = ⊥
IsIn (y ∷ ys) x = (y ≡ x) ⊎ IsIn ys x

-- equal functions on a list give equal lists
same_on : (f g : ℕ → List ℕ) (xs : List ℕ) → ((x : ℕ) → IsIn xs x → f x ≡ g x) → flat_map f xs ≡ flat_map g xs
same_on f g [] same = refl
same_on f g (x ∷ xs) same = ap (λ l. l ++ flat_map f xs) (same x (inl refl)) ∙ ap (λ l. g x ++ l) (same_on f g xs (λ y there. same y (inr there)))

-- a place that stands below another, by its index in the list
pub record IsChild (place : Option ℕ) (at : ℕ) (above : List (Option ℕ)) (child : ℕ) : Type 0 where
  pub index : ℕ
  pub is : child ≡ at + index
  pub low : index < length above
  pub parent : Option ℕ
  pub got : slice_get above index ≡ Some parent
  pub below_it : stands_below place parent ≡ true

pub is_child : (place : Option ℕ) (at : ℕ) (above : List (Option ℕ)) (child : ℕ) → IsIn (below_from place at above) child → IsChild place at above child
is_child place at [] child there = absurd there
is_child place at (o ∷ above) child there = by (stands_below place o) refl there (is_child place (at + 1) above child)
  where
    later : IsChild place (at + 1) above child → IsChild place at (o ∷ above) child
    later c = record { index = suc c.index; is = omega (arith, c.is); low = omega (arith, c.low); parent = c.parent; got = c.got; below_it = c.below_it }

    by : (b : Bool) → stands_below place o ≡ b → IsIn (if b then at ∷ below_from place (at + 1) above else below_from place (at + 1) above) child
        → (IsIn (below_from place (at + 1) above) child → IsChild place (at + 1) above child) → IsChild place at (o ∷ above) child
    by true is (inl same) rest = record { index = 0; is = omega (arith, same); low = omega arith; parent = o; got = refl; below_it = is }
    by true is (inr there) rest = later (rest there)
    by false is there rest = later (rest there)

-- a place below another comes behind it
pub child_behind : (above : List (Option ℕ)) (place child : ℕ) → Ascends above → IsIn (below (Some place) above) child → (place < child) × (child < length above)
child_behind above place child ascends there = by c.parent c.got c.below_it
  where
    c : IsChild (Some place) 0 above child
    c = is_child (Some place) 0 above child there

    by : (o : Option ℕ) → slice_get above c.index ≡ Some o → stands_below (Some place) o ≡ true → (place < child) × (child < length above)
    by None got is = absurd (false≢true is)
    by (Some parent) got is =
        let same : place ≡ parent = grind (arith, nat_tests, is) in
        let less = ascends c.index parent got in
        (omega (arith, c.is, same, less), omega (arith, c.is, c.low))

-- a tree that is deep enough is the same as a deeper one
settled : (above : List (Option ℕ)) → Ascends above → (f g p : ℕ) → p < length above → length above ≤ p + f → length above ≤ p + g → tree above f p ≡ tree above g p
settled above ascends zero g p low deep deeper = absurd (never low deep)
  where
    never : p < length above → length above ≤ p + 0 → ⊥
    never low deep = omega (arith, low, deep)
settled above ascends (suc f) zero p low deep deeper = absurd (never low deeper)
  where
    never : p < length above → length above ≤ p + 0 → ⊥
    never low deeper = omega (arith, low, deeper)
settled above ascends (suc f) (suc g) p low deep deeper =
    ap (λ l. p ∷ l) (same_on (tree above f) (tree above g) (below (Some p) above) (λ c there.
    let behind = child_behind above p c ascends there in
    settled above ascends f g c behind.1 (omega (arith, deep, behind.0)) (omega (arith, deeper, behind.0))))

-- the trees of a place and of those behind it
abbrev pub trees_from : List (Option ℕ) → ℕ → List ℕ
trees_from above p = flat_map (tree above (suc (length above))) (p ∷ behind above p)

-- what a stack of such places comes to
abbrev pub waiting : List (Option ℕ) → List ℕ → List ℕ
waiting above stack = flat_map (trees_from above) (reverse stack)

module _ (above : List (Option ℕ)) (ascends : Ascends above) where
  abbrev pub whole_tree : ℕ → List ℕ
  whole_tree p = tree above (suc (length above)) p

  pub unfolds : (p : ℕ) → whole_tree p ≡ p ∷ flat_map whole_tree (below (Some p) above)
  unfolds p =
      ap (λ l. p ∷ l) (same_on (tree above (length above)) (tree above (suc (length above))) (below (Some p) above) (λ c there.
      let behind = child_behind above p c ascends there in
      settled above ascends (length above) (suc (length above)) c behind.1 (omega arith) (omega arith)))

  -- none stands below a place that isn't there
  pub none_below : (p : ℕ) → length above ≤ p → below (Some p) above ≡ []
  none_below p high = by (below (Some p) above) (λ c there. child_behind above p c ascends there)
    where
      by : (l : List ℕ) → ((c : ℕ) → IsIn l c → (p < c) × (c < length above)) → l ≡ []
      by [] all = refl
      by (c ∷ l) all =
          let behind = all c (inl refl) in
          absurd (omega (arith, behind.0, behind.1, high))

  -- the trees from a link on
  of_link : (link : Option ℕ) → flat_map (trees_from above) (option_to_list link) ≡ flat_map whole_tree (onward above link)
  of_link None = refl
  of_link (Some p) = append-nil (flat_map whole_tree (p ∷ behind above p))

  back : (link : Option ℕ) → reverse (option_to_list link) ≡ option_to_list link
  back None = refl
  back (Some p) = refl

  -- a link is put on the stack
  put : (stack : List ℕ) (link : Option ℕ) → waiting above (stack ++ option_to_list link) ≡ flat_map whole_tree (onward above link) ++ waiting above stack
  put stack link =
      ap (flat_map (trees_from above)) (reverse-append stack (option_to_list link) ∙ ap (λ l. l ++ reverse stack) (back link))
      ∙ flat_map-append (trees_from above) (option_to_list link) (reverse stack)
      ∙ ap (λ l. l ++ waiting above stack) (of_link link)

  -- a place is taken from the stack, and its links are put there
  taken : (stack new : List ℕ) (p : ℕ) (next first : Option ℕ) → onward above next ≡ behind above p → onward above first ≡ below (Some p) above
      → new ≡ (stack ++ option_to_list next) ++ option_to_list first → waiting above (stack ++ p ∷ []) ≡ p ∷ waiting above new
  taken stack new p next first nexts firsts is =
      let children = flat_map whole_tree (below (Some p) above) in
      let others = flat_map whole_tree (behind above p) in
      put stack (Some p)
      ∙ ap (λ l. (l ++ others) ++ waiting above stack) (unfolds p)
      ∙ ap (λ l. p ∷ l) (append_assoc children others (waiting above stack)
      ∙ ap (λ l. children ++ (flat_map whole_tree l ++ waiting above stack)) (sym nexts)
      ∙ ap (λ l. children ++ l) (sym (put stack next))
      ∙ ap (λ l. flat_map whole_tree l ++ waiting above (stack ++ option_to_list next)) (sym firsts)
      ∙ sym (put (stack ++ option_to_list next) first)
      ∙ ap (waiting above) (sym is))

  -- one place less is to come
  pub smaller : (stack new : List ℕ) (p : ℕ) (next first : Option ℕ) → onward above next ≡ behind above p → onward above first ≡ below (Some p) above
      → new ≡ (stack ++ option_to_list next) ++ option_to_list first → length (waiting above new) < length (waiting above (stack ++ p ∷ []))
  smaller stack new p next first nexts firsts is = omega (arith, ap length (taken stack new p next first nexts firsts is))

  -- what is below a place is looked at next
  pub next_place : (order stack new : List ℕ) (p : ℕ) (next first : Option ℕ) (all : List ℕ) → onward above next ≡ behind above p → onward above first ≡ below (Some p) above
      → new ≡ (stack ++ option_to_list next) ++ option_to_list first → order ++ waiting above (stack ++ p ∷ []) ≡ all → (order ++ p ∷ []) ++ waiting above new ≡ all
  next_place order stack new p next first all nexts firsts is before =
      append_assoc order (p ∷ []) (waiting above new)
      ∙ ap (λ l. order ++ l) (sym (taken stack new p next first nexts firsts is))
      ∙ before

-- In a POM text no element stands in 64 others, so nothing is wrong further in.
use Rattle.std.proofs.Common.{◌≡◌, ◌⊎◌, inl, inr, ℕ, zero, suc, ◌+◌, ◌-◌, ◌<◌, ◌≤◌, ◌==◌, Bool, true, false, not, ◌&&◌, List, [], ◌∷◌, ◌++◌, length, take, Option, Some, None, slice_get, option_and_then, refl, sym, ap, ◌∙◌, subst, arith, if◌then◌else◌}
use Rattle.std.specs.Str.{encode_utf8_all}
use Rattle.std.proofs.lemmas.Bool.{false≢true}
use Rattle.std.proofs.lemmas.Bool.Decides.{Decides-eqb}
use Rattle.pom_text.specs.declared.node.Node.{Node}
use Rattle.pom_text.specs.Characters.{is_space}
use Rattle.pom_text.specs.Grammar.{Piece, comment, instruction, section, reference, start_tag, empty_tag, end_tag, character}
use Rattle.pom_text.specs.Parts.{line_part, lines}
use Rattle.pom_text.specs.References.{referred}
use Rattle.pom_text.specs.Spells.{from_there, grown, is_element, is_shallow, nests}
use Rattle.pom_text.specs.Texts.{IsText}
use Rattle.pom_text.specs.Tree.{Standing, add_child, add_text, attribute_names, begun, changed, character_list, closes, ended, grow, in_innermost, innermost, may_begin, nothing_yet, passed, with_child, with_text}
use Rattle.model_laws.specs.Breaks.{Breaks, IsWrong, Kind, Told, again, combines, too_many, inside, version, lacks, no_root, other_root, in_project}
use Rattle.model_laws.proofs.Least.{in_order}
use Rattle.model_laws.proofs.Parts.{IsChild, Read, is_child, got_low}

none_some : {A : Type 0} (x : A) → ◌≡◌ {A = Option A} None (Some x) → ⊥
none_some x e = cc

some_is : {A : Type 0} (x y : A) → ◌≡◌ {A = Option A} (Some x) (Some y) → x ≡ y
some_is x y e = cc

-- each element has a level, one more than that of the element that it stands in
pub record HasLevels (level : ℕ → ℕ) (nodes : List Node) : Type 0 where
  pub low : (k : ℕ) → k < length nodes → level k < 64
  pub root : level 0 ≡ 0
  pub down : (k : ℕ) (node : Node) (i c : ℕ) → slice_get nodes k ≡ Some node → slice_get node.children i ≡ Some c → (c < length nodes) × (level c ≡ suc (level k))

-- and the open ones are those of each level from the root on
pub record IsLeveled (level : ℕ → ℕ) (s : Standing) : Type 0 where
  pub has : HasLevels level s.nodes
  pub opened : (j k : ℕ) → slice_get s.path j ≡ Some k → (k < length s.nodes) × (level k ≡ j)
  pub short : length s.path ≤ 64

pub record AreLeveled (s : Standing) : Type 0 where
  pub level : ℕ → ℕ
  pub is : IsLeveled level s

start : AreLeveled nothing_yet
start = record {
  level = λ k. 0;
  is = record {
    has = record { low = λ k lt. omega (arith, lt); root = refl; down = λ k node i c there child. absurd (none_some node there) };
    opened = λ j k there. absurd (none_some k there);
    short = omega arith;
  };
}

-- one element is changed
changed_long : (f : Node → Node) (k : ℕ) (nodes : List Node) → length (changed f k nodes) ≡ length nodes
changed_long f k [] = refl
changed_long f zero (node ∷ nodes) = refl
changed_long f (suc k) (node ∷ nodes) = ap suc (changed_long f k nodes)

record IsChanged (f : Node → Node) (k : ℕ) (nodes : List Node) (j : ℕ) (node : Node) : Type 0 where
  pub old : Node
  pub there : slice_get nodes j ≡ Some old
  pub is : ((j ≡ k) × (node ≡ f old)) ⊎ (node ≡ old)

changed_at : (f : Node → Node) (k : ℕ) (nodes : List Node) (j : ℕ) (node : Node) → slice_get (changed f k nodes) j ≡ Some node → IsChanged f k nodes j node
changed_at f k [] j node e = absurd (none_some node e)
changed_at f zero (n ∷ nodes) zero node e = record { old = n; there = refl; is = inl (refl, sym (some_is (f n) node e)) }
changed_at f zero (n ∷ nodes) (suc j) node e = record { old = node; there = e; is = inr refl }
changed_at f (suc k) (n ∷ nodes) zero node e = record { old = n; there = refl; is = inr (sym (some_is n node e)) }
changed_at f (suc k) (n ∷ nodes) (suc j) node e = let c = changed_at f k nodes j node e in record { old = c.old; there = c.there; is = by c.is }
  where
    by : {old : Node} → ((j ≡ k) × (node ≡ f old)) ⊎ (node ≡ old) → ((suc j ≡ suc k) × (node ≡ f old)) ⊎ (node ≡ old)
    by (inl w) = inl (ap suc w.0, w.1)
    by (inr w) = inr w

-- a text is added, and changes no children
text_has : (level : ℕ → ℕ) (text : List ℕ) (k : ℕ) (nodes : List Node) → HasLevels level nodes → HasLevels level (changed (add_text text) k nodes)
text_has level text k nodes h = record {
  low = λ j lt. h.low j (subst (λ n. j < n) (changed_long (add_text text) k nodes) lt);
  root = h.root;
  down = λ j node i c there child.
      let w = changed_at (add_text text) k nodes j node there in
      let d = h.down j w.old i c w.there (same j node w.old i c w.is child) in
      (subst (λ n. c < n) (sym (changed_long (add_text text) k nodes)) d.0, d.1);
}
  where
    same : (j : ℕ) (node old : Node) (i c : ℕ) → ((j ≡ k) × (node ≡ add_text text old)) ⊎ (node ≡ old) → slice_get node.children i ≡ Some c → slice_get old.children i ≡ Some c
    same j node old i c (inl w) child = ap (λ (n : Node). slice_get n.children i) (sym w.1) ∙ child
    same j node old i c (inr w) child = ap (λ (n : Node). slice_get n.children i) (sym w) ∙ child

passed_leveled : (s : Standing) → AreLeveled s → AreLeveled (passed s)
passed_leveled s a = record { level = a.level; is = record { has = a.is.has; opened = a.is.opened; short = a.is.short } }

-- the innermost open element
text_leveled : (text : List ℕ) (returned : Bool) (s : Standing) (k : ℕ) → AreLeveled s → AreLeveled (record { nodes = changed (add_text text) k s.nodes; path = s.path; returned = returned })
text_leveled text returned s k a = record {
  level = a.level;
  is = record {
    has = text_has a.level text k s.nodes a.is.has;
    opened = λ j m there. let o = a.is.opened j m there in (subst (λ n. m < n) (sym (changed_long (add_text text) k s.nodes)) o.0, o.1);
    short = a.is.short;
  };
}

abbrev AllLeveled : Option Standing → Type 0
AllLeveled (Some s) = AreLeveled s
AllLeveled None = Unit {0}

with_text_leveled : (text : List ℕ) (returned : Bool) (s : Standing) (outside : Option Standing) → AreLeveled s → AllLeveled outside → AllLeveled (with_text text returned s outside)
unfolding with_text
with_text_leveled text returned s outside a out = by (innermost s.path)
  where
    by : (o : Option ℕ) → AllLeveled (in_innermost text returned s o outside)
    by (Some k) = text_leveled (encode_utf8_all text) returned s k a
    by None = out

-- lists and their ends
got_early : {A : Type 0} (xs ys : List A) (j : ℕ) (x : A) → slice_get xs j ≡ Some x → slice_get (xs ++ ys) j ≡ Some x
got_early [] ys j x e = absurd (none_some x e)
got_early (y ∷ xs) ys zero x e = e
got_early (y ∷ xs) ys (suc j) x e = got_early xs ys j x e

got_more : {A : Type 0} (xs : List A) (y : A) (j : ℕ) (x : A) → slice_get (xs ++ y ∷ []) j ≡ Some x → (slice_get xs j ≡ Some x) ⊎ ((j ≡ length xs) × (x ≡ y))
got_more [] y zero x e = inr (refl, sym (some_is y x e))
got_more [] y (suc j) x e = absurd (none_some x e)
got_more (z ∷ xs) y zero x e = inl e
got_more (z ∷ xs) y (suc j) x e = by (got_more xs y j x e)
  where
    by : (slice_get xs j ≡ Some x) ⊎ ((j ≡ length xs) × (x ≡ y)) → (slice_get xs j ≡ Some x) ⊎ ((suc j ≡ suc (length xs)) × (x ≡ y))
    by (inl w) = inl w
    by (inr w) = inr (ap suc w.0, w.1)

length_more : {A : Type 0} (xs : List A) (x : A) → length (xs ++ x ∷ []) ≡ suc (length xs)
length_more [] x = refl
length_more (y ∷ xs) x = ap suc (length_more xs x)

taken_got : {A : Type 0} (xs : List A) (n j : ℕ) (x : A) → slice_get (take n xs) j ≡ Some x → slice_get xs j ≡ Some x
taken_got xs zero j x e = absurd (none_some x e)
taken_got [] (suc n) j x e = absurd (none_some x e)
taken_got (y ∷ xs) (suc n) zero x e = e
taken_got (y ∷ xs) (suc n) (suc j) x e = taken_got xs n j x e

taken_short : {A : Type 0} (xs : List A) (n : ℕ) → length (take n xs) ≤ length xs
taken_short xs zero = omega arith
taken_short [] (suc n) = omega arith
taken_short (y ∷ xs) (suc n) = omega (arith, taken_short xs n)

ended_leveled : (s : Standing) → AreLeveled s → AreLeveled (ended s)
unfolding ended
ended_leveled s a = record {
  level = a.level;
  is = record {
    has = a.is.has;
    opened = λ j k there. a.is.opened j k (taken_got s.path (length s.path - 1) j k there);
    short = omega (arith, a.is.short, taken_short s.path (length s.path - 1));
  };
}

-- a new element has as many levels above it as are open
abbrev with_level : (ℕ → ℕ) → ℕ → ℕ → ℕ → ℕ
with_level level n deep k = if k == n then deep else level k

old_level : (level : ℕ → ℕ) (n deep k : ℕ) → k < n → with_level level n deep k ≡ level k
old_level level n deep k lt = by (k == n) refl
  where
    by : (b : Bool) → (k == n) ≡ b → (if b then deep else level k) ≡ level k
    by true e = let same = (Decides-eqb k n).0 e in absurd (omega (arith, lt, same))
    by false e = refl

new_level : (level : ℕ → ℕ) (n deep : ℕ) → with_level level n deep n ≡ deep
new_level level n deep = ap (λ b. if b then deep else level n) ((Decides-eqb n n).1 refl)

-- with a child put in
module _ (level : ℕ → ℕ) (nodes : List Node) (path : List ℕ) (h : HasLevels level nodes) (opened : (j k : ℕ) → slice_get path j ≡ Some k → (k < length nodes) × (level k ≡ j)) where
  abbrev many : ℕ
  many = length nodes

  abbrev after : ℕ → ℕ
  after = with_level level many (length path)

  abbrev IsDown : ℕ → ℕ → Type 0
  IsDown k c = (c < suc many) × (after c ≡ suc (after k))

  old_down : (k : ℕ) (old : Node) (i c : ℕ) → slice_get nodes k ≡ Some old → slice_get old.children i ≡ Some c → IsDown k c
  old_down k old i c there child =
      let d = h.down k old i c there child in
      let low = got_low nodes k old there in
      (omega (arith, d.0), old_level level many (length path) c d.0 ∙ d.1 ∙ ap suc (sym (old_level level many (length path) k low)))

  new_down : (k : ℕ) (old : Node) → slice_get nodes k ≡ Some old → innermost path ≡ Some k → IsDown k many
  new_down k old there last =
      let o = opened (length path - 1) k last in
      let low = got_low path (length path - 1) k last in
      let one : length path ≡ suc (length path - 1) = omega (arith, low) in
      (omega arith, new_level level many (length path) ∙ one ∙ ap suc (sym o.1) ∙ ap suc (sym (old_level level many (length path) k o.0)))

  child_down : (o : Option ℕ) → innermost path ≡ o → (k : ℕ) (node : Node) (i c : ℕ) → slice_get (with_child many o nodes) k ≡ Some node → slice_get node.children i ≡ Some c → IsDown k c
  child_down None last k node i c there child = old_down k node i c there child
  child_down (Some m) last k node i c there child = let w = changed_at (add_child many) m nodes k node there in by w.old w.there w.is
    where
      more : (old : Node) → slice_get nodes k ≡ Some old → k ≡ m → (slice_get old.children i ≡ Some c) ⊎ ((i ≡ length old.children) × (c ≡ many)) → IsDown k c
      more old at same (inl x) = old_down k old i c at x
      more old at same (inr x) = subst (IsDown k) (sym x.1) (new_down k old at (last ∙ ap Some (sym same)))

      by : (old : Node) → slice_get nodes k ≡ Some old → ((k ≡ m) × (node ≡ add_child many old)) ⊎ (node ≡ old) → IsDown k c
      by old at (inl x) = more old at x.0 (got_more old.children many i c (ap (λ (y : Node). slice_get y.children i) (sym x.1) ∙ child))
      by old at (inr x) = old_down k old i c at (ap (λ (y : Node). slice_get y.children i) (sym x) ∙ child)

  child_long : (o : Option ℕ) → length (with_child many o nodes) ≡ many
  child_long None = refl
  child_long (Some m) = changed_long (add_child many) m nodes

abbrev front : Standing → List Node
front s = with_child (length s.nodes) (innermost s.path) s.nodes

abbrev new : List ℕ → List (List ℕ) → Node
new name attributes = record { name = name; attributes = attributes; text = []; children = [] }

abbrev more_level : Standing → (ℕ → ℕ) → ℕ → ℕ
more_level s level = with_level level (length s.nodes) (length s.path)

module _ (s : Standing) (level : ℕ → ℕ) (a : IsLeveled level s) where
  front_long : length (front s) ≡ length s.nodes
  front_long = child_long level s.nodes s.path a.has a.opened (innermost s.path)

  more_long : (node : Node) → length (front s ++ node ∷ []) ≡ suc (length s.nodes)
  more_long node = length_more (front s) node ∙ ap suc front_long

  more_low : length s.path < 64 → (k : ℕ) → k < suc (length s.nodes) → more_level s level k < 64
  more_low less k lt = by (k == length s.nodes) refl
    where
      cases : (k == length s.nodes) ≡ false → (length s.nodes ≡ k) ⊎ (suc k ≤ length s.nodes) → k < length s.nodes
      cases e (inl same) = absurd (false≢true (sym e ∙ (Decides-eqb k (length s.nodes)).1 (sym same)))
      cases e (inr l) = omega (arith, l)

      by : (b : Bool) → (k == length s.nodes) ≡ b → (if b then length s.path else level k) < 64
      by true e = less
      by false e = a.has.low k (cases e (in_order k (length s.nodes) (omega (arith, lt))))

  path_empty : (path : List ℕ) → ((j k : ℕ) → slice_get path j ≡ Some k → k < length s.nodes) → length s.nodes ≡ 0 → length path ≡ 0
  path_empty [] all none = refl
  path_empty (k ∷ path) all none = let lt = all 0 k refl in absurd (omega (arith, lt, none))

  more_root : (m : ℕ) → length s.nodes ≡ m → more_level s level 0 ≡ 0
  more_root zero none = by (0 == length s.nodes)
    where
      by : (b : Bool) → (if b then length s.path else level 0) ≡ 0
      by true = path_empty s.path (λ j k there. (a.opened j k there).0) none
      by false = a.has.root
  more_root (suc m) some = old_level level (length s.nodes) (length s.path) 0 (omega (arith, some)) ∙ a.has.root

  more_down : (name : List ℕ) (attributes : List (List ℕ)) (k : ℕ) (node : Node) (i c : ℕ) → (slice_get (front s) k ≡ Some node) ⊎ ((k ≡ length (front s)) × (node ≡ new name attributes)) → slice_get node.children i ≡ Some c
      → (c < length (front s ++ new name attributes ∷ [])) × (more_level s level c ≡ suc (more_level s level k))
  more_down name attributes k node i c (inl there) child =
      let d = child_down level s.nodes s.path a.has a.opened (innermost s.path) refl k node i c there child in
      (subst (λ m. c < m) (sym (more_long (new name attributes))) d.0, d.1)
  more_down name attributes k node i c (inr is) child = absurd (none_some c (ap (λ (x : Node). slice_get x.children i) (sym is.1) ∙ child))

  more_opened : (node : Node) (j k : ℕ) → (slice_get s.path j ≡ Some k) ⊎ ((j ≡ length s.path) × (k ≡ length s.nodes)) → (k < length (front s ++ node ∷ [])) × (more_level s level k ≡ j)
  more_opened node j k (inl there) =
      let o = a.opened j k there in
      (subst (λ m. k < m) (sym (more_long node)) (omega (arith, o.0)), old_level level (length s.nodes) (length s.path) k o.0 ∙ o.1)
  more_opened node j k (inr is) =
      (subst (λ m. k < m) (sym (more_long node)) (omega (arith, is.1)), ap (more_level s level) is.1 ∙ new_level level (length s.nodes) (length s.path) ∙ sym is.0)

  more_short : length s.path < 64 → length (s.path ++ length s.nodes ∷ []) ≤ 64
  more_short less = let e = length_more s.path (length s.nodes) in omega (arith, e, less)

begun_leveled : (name : List ℕ) (attributes : List (List ℕ)) (s : Standing) → length s.path < 64 → AreLeveled s → AreLeveled (begun name attributes s)
unfolding begun
begun_leveled name attributes s less a = record {
  level = more_level s a.level;
  is = record {
    has = record {
      low = λ k lt. more_low s a.level a.is less k (subst (λ m. k < m) (more_long s a.level a.is (new name attributes)) lt);
      root = more_root s a.level a.is (length s.nodes) refl;
      down = λ k node i c there child. more_down s a.level a.is name attributes k node i c (got_more (front s) (new name attributes) k node there) child;
    };
    opened = λ j k there. more_opened s a.level a.is (new name attributes) j k (got_more s.path (length s.nodes) j k there);
    short = more_short s a.level a.is less;
  };
}

-- an element may begin where fewer than 64 are open
not_true : (b : Bool) → not b ≡ true → b ≡ false
not_true false e = refl
not_true true e = absurd (false≢true e)

room : (s : Standing) (piece : Piece) → is_element piece ≡ true → not (nests s piece) ≡ true → length s.path ≤ 64 → length s.path < 64
room s piece element shallow short = by (length s.path == 64) refl
  where
    cases : (length s.path == 64) ≡ false → (64 ≡ length s.path) ⊎ (suc (length s.path) ≤ 64) → length s.path < 64
    cases e (inl same) = absurd (false≢true (sym e ∙ (Decides-eqb (length s.path) 64).1 (sym same)))
    cases e (inr less) = omega (arith, less)

    by : (b : Bool) → (length s.path == 64) ≡ b → length s.path < 64
    by true e = absurd (false≢true (sym (ap not (ap (λ x. x && is_element piece) e ∙ element)) ∙ shallow))
    by false e = cases e (in_order (length s.path) 64 short)

piece_leveled : (s : Standing) (piece : Piece) → not (nests s piece) ≡ true → AreLeveled s → AllLeveled (grow s piece)
unfolding grow
piece_leveled s (comment text) shallow a = passed_leveled s a
piece_leveled s (instruction text) shallow a = passed_leveled s a
piece_leveled s (section text) shallow a = with_text_leveled (lines false text) false s None a tt
piece_leveled s (reference name) shallow a = with_text_leveled (character_list (referred name)) false s None a tt
piece_leveled s (start_tag name attributes space) shallow a = by (may_begin s)
  where
    by : (b : Bool) → AllLeveled (if b then Some (begun (encode_utf8_all name) (attribute_names attributes) s) else None)
    by true = begun_leveled (encode_utf8_all name) (attribute_names attributes) s (room s (start_tag name attributes space) refl shallow a.is.short) a
    by false = tt
piece_leveled s (empty_tag name attributes space) shallow a = by (may_begin s)
  where
    by : (b : Bool) → AllLeveled (if b then Some (ended (begun (encode_utf8_all name) (attribute_names attributes) s)) else None)
    by true = ended_leveled _ (begun_leveled (encode_utf8_all name) (attribute_names attributes) s (room s (empty_tag name attributes space) refl shallow a.is.short) a)
    by false = tt
piece_leveled s (end_tag name space) shallow a = by (closes (encode_utf8_all name) s)
  where
    by : (b : Bool) → AllLeveled (if b then Some (ended s) else None)
    by true = ended_leveled s a
    by false = tt
piece_leveled s (character c) shallow a = with_text_leveled (line_part s.returned c) (c == 13) s (if is_space c then Some (passed s) else None) a (by (is_space c))
  where
    by : (b : Bool) → AllLeveled (if b then Some (passed s) else None)
    by true = passed_leveled s a
    by false = tt

and_left : (a b : Bool) → (a && b) ≡ true → a ≡ true
and_left true b e = refl
and_left false b e = e

and_right : (a b : Bool) → (a && b) ≡ true → b ≡ true
and_right true b e = e
and_right false b e = absurd (false≢true e)

-- so after all pieces of a text
grown_leveled : (s : Standing) (pieces : List Piece) (end : Standing) → is_shallow s pieces ≡ true → grown s pieces ≡ Some end → AreLeveled s → AreLeveled end
grown_leveled s [] end shallow is a = subst AreLeveled (some_is s end is) a
grown_leveled s (piece ∷ pieces) end shallow is a =
    by (grow s piece) (λ t. grown_leveled t pieces end) (piece_leveled s piece (and_left (not (nests s piece)) _ shallow) a) (and_right (not (nests s piece)) _ shallow) is
  where
    by : (o : Option Standing) → ((t : Standing) → is_shallow t pieces ≡ true → grown t pieces ≡ Some end → AreLeveled t → AreLeveled end)
        → AllLeveled o → from_there (λ t. is_shallow t pieces) o ≡ true → option_and_then (λ t. grown t pieces) o ≡ Some end → AreLeveled end
    by (Some t) more l e is = more t e is l
    by None more l e is = absurd (none_some end is)

text_leveled_all : (bytes : List ℕ) (nodes : List Node) → IsText bytes nodes → (level : ℕ → ℕ) × HasLevels level nodes
text_leveled_all bytes nodes t =
    let spells = t.elements.spells in
    let a = grown_leveled nothing_yet spells.pieces spells.end t.shallow spells.begins.stand start in
    (a.level, subst (HasLevels a.level) (sym spells.same) a.is.has)

-- and nothing is wrong further in
module _ (nodes : List Node) (level : ℕ → ℕ) (h : HasLevels level nodes) where
  at_child : (kind : Kind) (node : Node) (i : ℕ) (e : Read) (k : ℕ) → slice_get nodes k ≡ Some node → IsChild nodes kind node i e → (c : ℕ) × (slice_get nodes c ≡ Some e.1) × (level c < 64) × (level c ≡ suc (level k))
  at_child kind node i e k there child =
      let d = h.down k node i child.k there child.among in
      (child.k, child.there, h.low child.k d.0, d.1)

  wrong_low : {kind : Kind} {node : Node} {place : List ℕ} {turn : ℕ} {fault : Told} → Breaks nodes kind node place turn fault → (k : ℕ) → slice_get nodes k ≡ Some node → level k + length place ≤ 64
  wrong_low (again kind node i e is once stands) k there = let c = at_child kind node i e k there (is_child nodes kind node i e is) in omega (arith, c.2, c.3)
  wrong_low (combines kind node i e is configures says) k there = let c = at_child kind node i e k there (is_child nodes kind node i e is) in omega (arith, c.2, c.3)
  wrong_low (too_many kind node i e is listed full) k there = let c = at_child kind node i e k there (is_child nodes kind node i e is) in omega (arith, c.2, c.3)
  wrong_low (inside kind node i e place turn fault is breaks) k there =
      let c = at_child kind node i e k there (is_child nodes kind node i e is) in
      let rest = wrong_low breaks c.0 c.1 in
      omega (arith, c.3, rest)
  wrong_low (version kind node project other) k there = let low = h.low k (got_low nodes k node there) in omega (arith, low)
  wrong_low (lacks kind node n line asked lacking) k there = let low = h.low k (got_low nodes k node there) in omega (arith, low)

  all_low : {place : List ℕ} {turn : ℕ} {fault : Told} → IsWrong nodes place turn fault → length place ≤ 64
  all_low (no_root none) = omega arith
  all_low (other_root root is differs) = omega arith
  all_low (in_project root kind place turn fault is name first breaks) = let low = wrong_low breaks 0 is in omega (arith, low)

pub levels : (bytes : List ℕ) (nodes : List Node) (place : List ℕ) (turn : ℕ) (fault : Told) → IsText bytes nodes → IsWrong nodes place turn fault → length place ≤ 64
levels bytes nodes place turn fault t w = let l = text_leveled_all bytes nodes t in all_low nodes l.0 l.1 w

-- Start tags, empty tags and end tags: read where they are written, and nothing else.
use Rattle.std.proofs.Common.{◌≡◌, ℕ, Bool, true, false, ◌&&◌, ◌==◌, List, [], ◌∷◌, ◌++◌, flat_map, codes, Option, Some, None, option_map, option_and_then, refl, sym, ap, subst, ◌∙◌, append_assoc, if◌then◌else◌}
use Rattle.std.proofs.lemmas.Bool.{false≢true}
use Rattle.std.specs.List.{list_all, prefix_len}
use Rattle.std.specs.Str.{encode_utf8_all}
use Rattle.pom_text.specs.Parts.{Tag, Part, Start, Empty, End}
use Rattle.pom_text.specs.Characters.{is_space, is_name_start, is_name_char}
use Rattle.pom_text.specs.Grammar.{Attribute, Piece, is_attribute, is_filled, is_formed, is_name, is_tag, spelled, written, start_tag, empty_tag, end_tag}
use Rattle.pom_text.specs.Growth.{part_of}
use Rattle.pom_text.specs.Reads.{after, attribute_of, attributes_of, begins, end_named, end_of, name_of, names_of, or, skip_space, tag, tag_end, tag_named, tag_of, with_name}
use Rattle.pom_text.specs.Tree.{attribute_names}
use Rattle.pom_text.proofs.Attributes.{attribute_parts, attributes_read, attributes_split, pairs, space_before, space_is_no_name, written_chain, chain}
use Rattle.pom_text.proofs.Fronts.{after_reads, after_splits, and_first, and_second, both, name_reads, name_splits, none_some, same_some, space_all, space_of, space_reads, space_splits, unbound}

-- behind attributes stands white space, and then what begins neither a name nor white space
pub record Closes (c : ℕ) : Type 0 where
  pub no_space : is_space c ≡ false
  pub no_name : is_name_char c ≡ false
  pub no_start : is_name_start c ≡ false

pub greater_closes : Closes 62
unfolding is_space is_name_char is_name_start
greater_closes = record { no_space = refl; no_name = refl; no_start = refl }

pub slash_closes : Closes 47
unfolding is_space is_name_char is_name_start
slash_closes = record { no_space = refl; no_name = refl; no_start = refl }

no_name_of : (c : ℕ) (rest : List ℕ) → is_name_start c ≡ false → name_of (c ∷ rest) ≡ None
unfolding name_of
no_name_of c rest away = rw away refl

pub no_attribute : (space : List ℕ) (c : ℕ) (rest : List ℕ) → list_all is_space space ≡ true → Closes c → attribute_of (space ++ c ∷ rest) ≡ None
unfolding attribute_of
no_attribute space c rest all closes = by (prefix_len is_space (space ++ c ∷ rest) == 0) refl
  where
    there : option_and_then with_name (name_of (skip_space (space ++ c ∷ rest))) ≡ None
    there = ap (λ t. option_and_then with_name (name_of t)) (space_reads space (c ∷ rest) all closes.no_space) ∙ ap (option_and_then with_name) (no_name_of c rest closes.no_start)

    by : (b : Bool) → (prefix_len is_space (space ++ c ∷ rest) == 0) ≡ b → attribute_of (space ++ c ∷ rest) ≡ None
    by true s = ap (λ b. if b then None else option_and_then with_name (name_of (skip_space (space ++ c ∷ rest)))) s
    by false s = ap (λ b. if b then None else option_and_then with_name (name_of (skip_space (space ++ c ∷ rest)))) s ∙ there

no_name_here : (attributes : List Attribute) (space : List ℕ) (c : ℕ) (rest : List ℕ) → list_all is_attribute attributes ≡ true → list_all is_space space ≡ true → Closes c → begins is_name_char (flat_map written attributes ++ (space ++ c ∷ rest)) ≡ false
unfolding chain
no_name_here [] space c rest all spaces closes = space_before space c rest spaces closes.no_name
no_name_here (a ∷ attributes) space c rest all spaces closes =
    let more = flat_map written attributes ++ (space ++ c ∷ rest) in
    let p = attribute_parts a (and_first (is_attribute a) (list_all is_attribute attributes) all) in
    ap (begins is_name_char) (append_assoc (written a) (flat_map written attributes) (space ++ c ∷ rest) ∙ written_chain a more) ∙ first a.space p.filled p.space
  where
    first : (front : List ℕ) → is_filled front ≡ true → list_all is_space front ≡ true → begins is_name_char (front ++ (a.name ++ (a.before ++ (61 ∷ (a.after ++ (a.quote ∷ (a.value ++ (a.quote ∷ (flat_map written attributes ++ (space ++ c ∷ rest)))))))))) ≡ false
    first [] filled spaced = absurd (false≢true filled)
    first (d ∷ front) filled spaced = space_is_no_name d (and_first (is_space d) (list_all is_space front) spaced)

names_same : (attributes : List Attribute) → names_of (pairs attributes) ≡ attribute_names attributes
unfolding pairs
names_same [] = refl
names_same (a ∷ attributes) = ap (λ l. encode_utf8_all a.name ∷ l) (names_same attributes)

-- the tag that these attributes make
unfoldable pub made : List ℕ → List Attribute → Tag
made name attributes = record { name = encode_utf8_all name; attributes = attribute_names attributes }

tag_made : (name : List ℕ) (attributes : List Attribute) → tag name (pairs attributes) ≡ made name attributes
unfolding made
tag_made name attributes = ap (λ l. record { name = encode_utf8_all name; attributes = l }) (names_same attributes)

-- a tag up to its end
tag_reads : (name : List ℕ) (attributes : List Attribute) (space : List ℕ) (c : ℕ) (rest : List ℕ) → is_tag name attributes space ≡ true → Closes c
    → tag_of (name ++ (flat_map written attributes ++ (space ++ c ∷ rest))) ≡ tag_end (made name attributes) (c ∷ rest)
unfolding tag_of
tag_reads name attributes space c rest is closes =
    let whole = is_name name && list_all is_attribute attributes in
    let named = and_first (is_name name) (list_all is_attribute attributes) (and_first whole (list_all is_space space) is) in
    let all = and_second (is_name name) (list_all is_attribute attributes) (and_first whole (list_all is_space space) is) in
    let spaces = and_second whole (list_all is_space space) is in
    let more = flat_map written attributes ++ (space ++ c ∷ rest) in
    let read = name_reads name more named (no_name_here attributes space c rest all spaces closes) in
    let listed = attributes_read attributes (space ++ c ∷ rest) all (no_attribute space c rest spaces closes) in
    ap (option_and_then tag_named) read
    ∙ ap (λ r. tag_end (tag name r.0) (skip_space r.1)) listed
    ∙ ap (λ t. tag_end t (skip_space (space ++ c ∷ rest))) (tag_made name attributes)
    ∙ ap (tag_end (made name attributes)) (space_reads space (c ∷ rest) spaces closes.no_space)

end_is_start : (t : Tag) (rest : List ℕ) → tag_end t (62 ∷ rest) ≡ Some (Start t, rest)
unfolding tag_end
end_is_start t rest = ap (λ o. or (option_map (λ r. (Start t, r)) o) (option_map (λ r. (Empty t, r)) (after (codes "/>") (62 ∷ rest)))) (after_reads (codes ">") rest)

no_greater : (rest : List ℕ) → after (codes ">") (47 ∷ rest) ≡ None
unfolding after
no_greater rest = refl

end_is_empty : (t : Tag) (rest : List ℕ) → tag_end t (47 ∷ 62 ∷ rest) ≡ Some (Empty t, rest)
unfolding tag_end
end_is_empty t rest = ap (λ o. or (option_map (λ r. (Start t, r)) o) (option_map (λ r. (Empty t, r)) (after (codes "/>") (47 ∷ 62 ∷ rest)))) (no_greater (62 ∷ rest)) ∙ ap (option_map (λ r. (Empty t, r))) (after_reads (codes "/>") rest)

pub start_reads : (name : List ℕ) (attributes : List Attribute) (space rest : List ℕ) → is_tag name attributes space ≡ true → tag_of (name ++ (flat_map written attributes ++ (space ++ 62 ∷ rest))) ≡ Some (Start (made name attributes), rest)
start_reads name attributes space rest is = tag_reads name attributes space 62 rest is greater_closes ∙ end_is_start (made name attributes) rest

pub empty_reads : (name : List ℕ) (attributes : List Attribute) (space rest : List ℕ) → is_tag name attributes space ≡ true → tag_of (name ++ (flat_map written attributes ++ (space ++ 47 ∷ 62 ∷ rest))) ≡ Some (Empty (made name attributes), rest)
empty_reads name attributes space rest is = tag_reads name attributes space 47 (62 ∷ rest) is slash_closes ∙ end_is_empty (made name attributes) rest

pub end_reads : (name space rest : List ℕ) → is_name name ≡ true → list_all is_space space ≡ true → end_of (name ++ (space ++ 62 ∷ rest)) ≡ Some (End (encode_utf8_all name), rest)
unfolding end_of
end_reads name space rest named spaces =
    ap (option_and_then end_named) (name_reads name (space ++ 62 ∷ rest) named (space_before space 62 rest spaces greater_closes.no_name))
    ∙ ap (λ t. option_map (λ r. (End (encode_utf8_all name), r)) (after (codes ">") t)) (space_reads space (62 ∷ rest) spaces greater_closes.no_space)
    ∙ ap (option_map (λ r. (End (encode_utf8_all name), r))) (after_reads (codes ">") rest)

-- what is read as a piece behind a text
pub record IsRead (front text : List ℕ) (part : Part) (rest : List ℕ) : Type 0 where
  pub piece : Piece
  pub formed : is_formed piece ≡ true
  pub says : part_of piece ≡ part
  pub splits : front ++ text ≡ spelled piece ++ rest

started : (name : List ℕ) (attributes : List Attribute) (space text rest : List ℕ) → is_tag name attributes space ≡ true → text ≡ name ++ (flat_map written attributes ++ (space ++ 62 ∷ rest)) → IsRead (60 ∷ []) text (Start (made name attributes)) rest
unfolding spelled is_formed part_of made
started name attributes space text rest is splits = record {
  piece = start_tag name attributes space;
  formed = is;
  says = refl;
  splits = ap (λ t. 60 ∷ t) (splits ∙ simp append_assoc refl);
}

emptied : (name : List ℕ) (attributes : List Attribute) (space text rest : List ℕ) → is_tag name attributes space ≡ true → text ≡ name ++ (flat_map written attributes ++ (space ++ 47 ∷ 62 ∷ rest)) → IsRead (60 ∷ []) text (Empty (made name attributes)) rest
unfolding spelled is_formed part_of made
emptied name attributes space text rest is splits = record {
  piece = empty_tag name attributes space;
  formed = is;
  says = refl;
  splits = ap (λ t. 60 ∷ t) (splits ∙ simp append_assoc refl);
}

-- which of two options it is
pub data Which (A : Type 0) (a b : Option A) (x : A) : Type 0 where
  first : a ≡ Some x → Which A a b x
  second : a ≡ None → b ≡ Some x → Which A a b x

which : {A : Type 0} → (a b : Option A) (x : A) → or a b ≡ Some x → Which A a b x
which (Some y) b x e = first e
which None b x e = second refl e

-- what an option gives by a function
pub record Mapped (A B : Type 0) (f : A → B) (o : Option A) (y : B) : Type 0 where
  pub value : A
  pub is : o ≡ Some value
  pub gives : f value ≡ y

pub unmapped : {A B : Type 0} → (f : A → B) (o : Option A) (y : B) → option_map f o ≡ Some y → Mapped A B f o y
unmapped f (Some x) y e = record { value = x; is = refl; gives = same_some (f x) y e }
unmapped f None y e = absurd (none_some y e)

pub tag_splits : (text : List ℕ) (e : Part × List ℕ) → tag_of text ≡ Some e → IsRead (60 ∷ []) text e.0 e.1
unfolding tag_of tag_end
tag_splits text e so =
    let b = unbound tag_named (name_of text) e so in
    let n = name_splits text b.value b.is in
    let a = attributes_split b.value.1 in
    let behind = (attributes_of b.value.1).1 in
    let space = space_of behind in
    let t = tag b.value.0 (attributes_of b.value.1).0 in
    let same : t ≡ made b.value.0 a.attributes = ap (tag b.value.0) (sym a.named_so) ∙ tag_made b.value.0 a.attributes in
    let is = both (both n.named a.all) (space_all behind) in
    let front : (end : List ℕ) → skip_space behind ≡ end → text ≡ b.value.0 ++ (flat_map written a.attributes ++ (space ++ end)) =
    λ end s. n.splits ∙ ap (λ l. b.value.0 ++ l) (a.splits ∙ ap (λ l. flat_map written a.attributes ++ l) (space_splits behind ∙ ap (λ l. space ++ l) s)) in
    elim (which (option_map (λ r. (Start t, r)) (after (codes ">") (skip_space behind))) (option_map (λ r. (Empty t, r)) (after (codes "/>") (skip_space behind))) e b.gives) [
      | first s ↦
          let m = unmapped (λ r. (Start t, r)) (after (codes ">") (skip_space behind)) e s in
          let end = after_splits (codes ">") (skip_space behind) m.value m.is in
          subst (λ x. IsRead (60 ∷ []) text x.0 x.1) (ap (λ u. (Start u, m.value)) (sym same) ∙ m.gives) (started b.value.0 a.attributes space text m.value is (front (62 ∷ m.value) end))
      | second s1 s ↦
          let m = unmapped (λ r. (Empty t, r)) (after (codes "/>") (skip_space behind)) e s in
          let end = after_splits (codes "/>") (skip_space behind) m.value m.is in
          subst (λ x. IsRead (60 ∷ []) text x.0 x.1) (ap (λ u. (Empty u, m.value)) (sym same) ∙ m.gives) (emptied b.value.0 a.attributes space text m.value is (front (47 ∷ 62 ∷ m.value) end))
    ]

closed : (name space text rest : List ℕ) → is_name name ≡ true → list_all is_space space ≡ true → text ≡ name ++ (space ++ 62 ∷ rest) → IsRead (60 ∷ 47 ∷ []) text (End (encode_utf8_all name)) rest
unfolding spelled is_formed part_of
closed name space text rest named spaces splits = record {
  piece = end_tag name space;
  formed = both named spaces;
  says = refl;
  splits = ap (λ t. codes "</" ++ t) splits ∙ simp append_assoc refl;
}

pub end_splits : (text : List ℕ) (e : Part × List ℕ) → end_of text ≡ Some e → IsRead (60 ∷ 47 ∷ []) text e.0 e.1
unfolding end_of
end_splits text e so =
    let b = unbound end_named (name_of text) e so in
    let n = name_splits text b.value b.is in
    let name = b.value.0 in
    let behind = b.value.1 in
    let m = unmapped (λ r. (End (encode_utf8_all name), r)) (after (codes ">") (skip_space behind)) e b.gives in
    let end = after_splits (codes ">") (skip_space behind) m.value m.is in
    let whole = n.splits ∙ ap (λ l. name ++ l) (space_splits behind ∙ ap (λ l. space_of behind ++ l) end) in
    subst (λ x. IsRead (60 ∷ 47 ∷ []) text x.0 x.1) m.gives (closed name (space_of behind) text m.value n.named (space_all behind) whole)

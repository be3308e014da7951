-- Declarations: read where they are written, and nothing else; and the encoding that they name.
use Rattle.std.proofs.Common.{◌≡◌, ℕ, ◌+◌, ◌-◌, Bool, true, false, ◌&&◌, List, [], ◌∷◌, ◌++◌, flat_map, codes, length, Option, Some, None, option_and_then, refl, sym, ap, subst, ◌∙◌, arith, append_assoc, length-append, if◌then◌else◌}
use Rattle.std.proofs.lemmas.Bool.{false≢true}
use Rattle.std.specs.List.{list_all}
use Rattle.std.specs.Str.{bytes_eq}
use Rattle.pom_text.specs.Characters.{is_name_char, is_name_start, is_space}
use Rattle.pom_text.specs.Encodings.{begins_space, encoding_in, first_space, is_declaration, value_place}
use Rattle.pom_text.specs.Grammar.{Attribute, declaration, is_attribute, is_filled, written}
use Rattle.pom_text.specs.Openings.{behind_declaration, closed, encoding_from, if_there, named_behind, named_encoding}
use Rattle.pom_text.specs.Reads.{after, attribute_of, attributes_of, skip_space}
use Rattle.pom_text.proofs.Attributes.{attribute_parts, attribute_reads, attributes_read, attributes_split, chain, written_chain}
use Rattle.pom_text.proofs.Fronts.{after_reads, after_splits, and_first, and_second, both, none_some, space_all, space_of, space_reads, space_splits, unbound}
use Rattle.pom_text.proofs.Tags.{Closes, no_attribute}
use Rattle.pom_text.proofs.Named.{chain_length, encoding_found, encoding_more, encoding_end}

-- the encoding of attributes that are written is that of what is read
pub encoding_reads : (attributes : List Attribute) (rest : List ℕ) (at total : ℕ) → list_all is_attribute attributes ≡ true → attribute_of rest ≡ None → total ≡ at + length (flat_map written attributes ++ rest)
    → encoding_from total (flat_map written attributes ++ rest) ≡ encoding_in at attributes
encoding_reads [] rest at total all none so = encoding_end total rest none
encoding_reads (a ∷ attributes) rest at total all none so = by (bytes_eq a.name (codes "encoding")) refl (encoding_reads attributes rest)
  where
    more : List ℕ
    more = flat_map written attributes ++ rest

    text : List ℕ
    text = flat_map written (a ∷ attributes) ++ rest

    splits : text ≡ chain a more
    splits = append_assoc (written a) (flat_map written attributes) rest ∙ written_chain a more

    read : attribute_of text ≡ Some ((a.name, a.value), more)
    read = ap attribute_of splits ∙ attribute_reads a more (attribute_parts a (and_first (is_attribute a) (list_all is_attribute attributes) all))

    by : (b : Bool) → bytes_eq a.name (codes "encoding") ≡ b → ((at2 total2 : ℕ) → list_all is_attribute attributes ≡ true → attribute_of rest ≡ None → total2 ≡ at2 + length more → encoding_from total2 more ≡ encoding_in at2 attributes)
        → encoding_from total text ≡ (if bytes_eq a.name (codes "encoding") then Some (at + value_place a, a.value) else encoding_in (at + length (written a)) attributes)
    by true e further =
        let place : total - (length more + 1 + length a.value) ≡ at + value_place a = omega (arith, so, ap length splits, chain_length a more) in
        encoding_found total text ((a.name, a.value), more) read e ∙ ap (λ k. Some (k, a.value)) place ∙ sym (ap (λ b. if b then Some (at + value_place a, a.value) else encoding_in (at + length (written a)) attributes) e)
    by false e further =
        let room : total ≡ (at + length (written a)) + length more = omega (arith, so, ap length (append_assoc (written a) (flat_map written attributes) rest), length-append (written a) more) in
        encoding_more total text ((a.name, a.value), more) read e ∙ further (at + length (written a)) total (and_second (is_attribute a) (list_all is_attribute attributes) all) none room
        ∙ sym (ap (λ b. if b then Some (at + value_place a, a.value) else encoding_in (at + length (written a)) attributes) e)

-- the question mark closes attributes
question_closes : Closes 63
unfolding is_space is_name_char is_name_start
question_closes = record { no_space = refl; no_name = refl; no_start = refl }

-- what stands behind the `<?xml` of a declaration
pub tail : List Attribute → List ℕ → List ℕ → List ℕ
tail attributes space rest = flat_map written attributes ++ (space ++ 63 ∷ 62 ∷ rest)

pub declaration_tail : (attributes : List Attribute) (space rest : List ℕ) → declaration attributes space ++ rest ≡ codes "<?xml" ++ tail attributes space rest
unfolding tail
declaration_tail attributes space rest = simp append_assoc refl

space_first : (space rest : List ℕ) → is_filled space ≡ true → list_all is_space space ≡ true → begins_space (space ++ rest) ≡ true
space_first [] rest filled all = absurd (false≢true filled)
space_first (c ∷ space) rest filled all = and_first (is_space c) (list_all is_space space) all

pub tail_begins : (attributes : List Attribute) (space rest : List ℕ) → list_all is_attribute attributes ≡ true → list_all is_space space ≡ true → is_filled (first_space attributes space) ≡ true → begins_space (tail attributes space rest) ≡ true
unfolding tail chain
tail_begins [] space rest all spaces filled = space_first space (63 ∷ 62 ∷ rest) filled spaces
tail_begins (a ∷ attributes) space rest all spaces filled =
    let more = flat_map written attributes ++ (space ++ 63 ∷ 62 ∷ rest) in
    let p = attribute_parts a (and_first (is_attribute a) (list_all is_attribute attributes) all) in
    ap begins_space (append_assoc (written a) (flat_map written attributes) (space ++ 63 ∷ 62 ∷ rest) ∙ written_chain a more)
    ∙ space_first a.space (a.name ++ (a.before ++ (61 ∷ (a.after ++ (a.quote ∷ (a.value ++ (a.quote ∷ more))))))) p.filled p.space

-- the parts of the rule
pub record IsDeclaration (attributes : List Attribute) (space : List ℕ) : Type 0 where
  pub all : list_all is_attribute attributes ≡ true
  pub spaces : list_all is_space space ≡ true
  pub filled : is_filled (first_space attributes space) ≡ true

pub declaration_parts : (attributes : List Attribute) (space : List ℕ) → is_declaration attributes space ≡ true → IsDeclaration attributes space
unfolding is_declaration
declaration_parts attributes space is =
    let a = list_all is_attribute attributes in
    let s = list_all is_space space in
    let f = is_filled (first_space attributes space) in
    let first = and_first (a && s) f is in
    record { all = and_first a s first; spaces = and_second a s first; filled = and_second (a && s) f is }

closed_reads : (attributes : List Attribute) (space rest : List ℕ) → IsDeclaration attributes space → closed (tail attributes space rest) ≡ Some rest
unfolding tail
closed_reads attributes space rest p =
    let text = tail attributes space rest in
    let listed = attributes_read attributes (space ++ 63 ∷ 62 ∷ rest) p.all (no_attribute space 63 (62 ∷ rest) p.spaces question_closes) in
    ap (λ b. if b then after (codes "?>") (skip_space (attributes_of text).1) else None) (tail_begins attributes space rest p.all p.spaces p.filled)
    ∙ ap (λ r. after (codes "?>") (skip_space r.1)) listed
    ∙ ap (after (codes "?>")) (space_reads space (63 ∷ 62 ∷ rest) p.spaces question_closes.no_space)
    ∙ after_reads (codes "?>") rest

pub declaration_reads : (attributes : List Attribute) (space rest : List ℕ) → is_declaration attributes space ≡ true → behind_declaration (declaration attributes space ++ rest) ≡ Some rest
unfolding behind_declaration
declaration_reads attributes space rest is =
    ap (λ t. option_and_then closed (after (codes "<?xml") t)) (declaration_tail attributes space rest)
    ∙ ap (option_and_then closed) (after_reads (codes "<?xml") (tail attributes space rest))
    ∙ closed_reads attributes space rest (declaration_parts attributes space is)

-- what is read as a declaration
pub record IsDeclared (text rest : List ℕ) : Type 0 where
  pub attributes : List Attribute
  pub space : List ℕ
  pub is : is_declaration attributes space ≡ true
  pub splits : text ≡ declaration attributes space ++ rest

declaration_tail_open : (attributes : List Attribute) (space rest : List ℕ) → declaration attributes space ++ rest ≡ codes "<?xml" ++ (flat_map written attributes ++ (space ++ 63 ∷ 62 ∷ rest))
declaration_tail_open attributes space rest = simp append_assoc refl

filled_first : (attributes : List Attribute) (space : List ℕ) (c : ℕ) (rest : List ℕ) → is_space c ≡ false → list_all is_attribute attributes ≡ true → begins_space (flat_map written attributes ++ (space ++ c ∷ rest)) ≡ true → is_filled (first_space attributes space) ≡ true
filled_first [] [] c rest away all begins = absurd (false≢true (sym away ∙ begins))
filled_first [] (d ∷ space) c rest away all begins = refl
filled_first (a ∷ attributes) space c rest away all begins = (attribute_parts a (and_first (is_attribute a) (list_all is_attribute attributes) all)).filled

closed_splits : (text rest : List ℕ) → closed text ≡ Some rest → IsDeclared (codes "<?xml" ++ text) rest
unfolding is_declaration
closed_splits text rest so = by (begins_space text) refl
  where
    choose : Bool → Option (List ℕ)
    choose b = if b then after (codes "?>") (skip_space (attributes_of text).1) else None

    by : (b : Bool) → begins_space text ≡ b → IsDeclared (codes "<?xml" ++ text) rest
    by true s =
        let a = attributes_split text in
        let behind = (attributes_of text).1 in
        let end = after_splits (codes "?>") (skip_space behind) rest (sym (ap choose s) ∙ so) in
        let whole = a.splits ∙ ap (λ l. flat_map written a.attributes ++ l) (space_splits behind ∙ ap (λ l. space_of behind ++ l) end) in
        let filled = filled_first a.attributes (space_of behind) 63 (62 ∷ rest) question_closes.no_space a.all (sym (ap begins_space whole) ∙ s) in
        record {
          attributes = a.attributes;
          space = space_of behind;
          is = both (both a.all (space_all behind)) filled;
          splits = ap (λ l. codes "<?xml" ++ l) whole ∙ sym (declaration_tail_open a.attributes (space_of behind) rest);
        }
    by false s = absurd (none_some rest (sym (ap choose s) ∙ so))

pub declaration_splits : (text rest : List ℕ) → behind_declaration text ≡ Some rest → IsDeclared text rest
unfolding behind_declaration
declaration_splits text rest so =
    let b = unbound closed (after (codes "<?xml") text) rest so in
    subst (λ t. IsDeclared t rest) (sym (after_splits (codes "<?xml") text b.value b.is)) (closed_splits b.value rest b.gives)

-- the encoding that a declaration names
pub named_reads : (attributes : List Attribute) (space rest : List ℕ) → is_declaration attributes space ≡ true → named_encoding (declaration attributes space ++ rest) ≡ encoding_in 5 attributes
unfolding named_encoding tail
named_reads attributes space rest is =
    let p = declaration_parts attributes space is in
    let text = declaration attributes space ++ rest in
    let t = tail attributes space rest in
    let long : length text ≡ 5 + length t = ap length (declaration_tail attributes space rest) ∙ omega arith in
    ap (λ x. option_and_then (named_behind (length text)) (after (codes "<?xml") x)) (declaration_tail attributes space rest)
    ∙ ap (option_and_then (named_behind (length text))) (after_reads (codes "<?xml") t)
    ∙ ap (λ o. if_there o (encoding_from (length text) t)) (closed_reads attributes space rest p)
    ∙ encoding_reads attributes (space ++ 63 ∷ 62 ∷ rest) 5 (length text) p.all (no_attribute space 63 (62 ∷ rest) p.spaces question_closes) long

pub named_none : (text : List ℕ) → behind_declaration text ≡ None → named_encoding text ≡ None
unfolding behind_declaration named_encoding
named_none text none = by (after (codes "<?xml") text) refl
  where
    by : (o : Option (List ℕ)) → after (codes "<?xml") text ≡ o → option_and_then (named_behind (length text)) (after (codes "<?xml") text) ≡ None
    by None e = ap (option_and_then (named_behind (length text))) e
    by (Some t) e = ap (option_and_then (named_behind (length text))) e ∙ ap (λ o. if_there o (encoding_from (length text) t)) (sym (ap (option_and_then closed) e) ∙ none)

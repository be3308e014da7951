-- An attribute, and the list of attributes one after another: read where they are written, and nothing else.
use Rattle.std.proofs.Common.{◌≡◌, ℕ, zero, suc, ◌+◌, ◌<◌, ◌≤◌, Bool, true, false, ◌==◌, ◌&&◌, List, [], ◌∷◌, ◌++◌, map, flat_map, codes, length, take, Option, Some, None, option_and_then, refl, sym, ap, subst, ◌∙◌, arith, append_assoc, length-append, if◌then◌else◌}
use Rattle.std.proofs.lemmas.Bool.{false≢true}
use Rattle.std.proofs.lemmas.Bool.Decides.{nat_tests}
use Rattle.std.specs.List.{list_all, prefix_len}
use Rattle.std.specs.Str.{encode_utf8_all}
use Rattle.pom_text.specs.Characters.{is_space, is_name_start, is_name_char}
use Rattle.pom_text.specs.Encodings.{begins_space}
use Rattle.pom_text.specs.Grammar.{Attribute, is_attribute, is_filled, is_name, is_quote, written}
use Rattle.pom_text.specs.Reads.{after, attribute_of, attributes_of, attributes_within, begins, gathered, is_value, name_of, quoted, names_of, skip_space, with_equals, with_name, with_value}
use Rattle.pom_text.proofs.Firsts.{no_space}
use Rattle.pom_text.proofs.Fronts.{after_reads, after_splits, and_first, and_second, both, name_reads, name_splits, none_some, quoted_reads, quoted_splits, run_len, same_some, space_all, space_of, space_reads, space_splits, unbound}

-- the text of an attribute, with its parts to the right
unfoldable pub chain : Attribute → List ℕ → List ℕ
chain a rest = a.space ++ (a.name ++ (a.before ++ (61 ∷ (a.after ++ (a.quote ∷ (a.value ++ (a.quote ∷ rest)))))))

pub written_chain : (a : Attribute) (rest : List ℕ) → written a ++ rest ≡ chain a rest
unfolding written chain
written_chain a rest = simp append_assoc refl

-- the rule of an attribute, part by part
pub record IsAttribute (a : Attribute) : Type 0 where
  pub filled : is_filled a.space ≡ true
  pub space : list_all is_space a.space ≡ true
  pub named : is_name a.name ≡ true
  pub before : list_all is_space a.before ≡ true
  pub after : list_all is_space a.after ≡ true
  pub quote : is_quote a.quote ≡ true
  pub value : list_all (is_value a.quote) a.value ≡ true

pub attribute_parts : (a : Attribute) → is_attribute a ≡ true → IsAttribute a
unfolding is_attribute is_value
attribute_parts a is =
    let f = is_filled a.space in
    let s = list_all is_space a.space in
    let n = is_name a.name in
    let b = list_all is_space a.before in
    let t = list_all is_space a.after in
    let q = is_quote a.quote in
    let v = list_all (is_value a.quote) a.value in
    let six = and_first (f && s && n && b && t && q) v is in
    let five = and_first (f && s && n && b && t) q six in
    let four = and_first (f && s && n && b) t five in
    let three = and_first (f && s && n) b four in
    let two = and_first (f && s) n three in
    record {
      filled = and_first f s two;
      space = and_second f s two;
      named = and_second (f && s) n three;
      before = and_second (f && s && n) b four;
      after = and_second (f && s && n && b) t five;
      quote = and_second (f && s && n && b && t) q six;
      value = and_second (f && s && n && b && t && q) v is;
    }

pub attribute_whole : (a : Attribute) → IsAttribute a → is_attribute a ≡ true
unfolding is_attribute is_value
attribute_whole a p = both (both (both (both (both (both p.filled p.space) p.named) p.before) p.after) p.quote) p.value

-- what can't stand where
start_is_no_space : (c : ℕ) → is_name_start c ≡ true → is_space c ≡ false
unfolding is_name_start is_space
start_is_no_space c is = grind (arith, nat_tests, is)

quote_is_no_space : (c : ℕ) → is_quote c ≡ true → is_space c ≡ false
unfolding is_space
quote_is_no_space c is = grind (arith, nat_tests, is)

pub space_is_no_name : (c : ℕ) → is_space c ≡ true → is_name_char c ≡ false
unfolding is_name_char is_name_start is_space
space_is_no_name c is = grind (arith, nat_tests, is)

pub name_is_no_space : (name rest : List ℕ) → is_name name ≡ true → begins is_space (name ++ rest) ≡ false
unfolding is_name
name_is_no_space [] rest e = absurd (false≢true e)
name_is_no_space (c ∷ name) rest e = start_is_no_space c (and_first (is_name_start c) (list_all is_name_char name) e)

pub space_before : (space : List ℕ) (c : ℕ) (rest : List ℕ) → list_all is_space space ≡ true → is_name_char c ≡ false → begins is_name_char (space ++ c ∷ rest) ≡ false
space_before [] c rest all free = free
space_before (d ∷ space) c rest all free = space_is_no_name d (and_first (is_space d) (list_all is_space space) all)

equals_no_name : is_name_char 61 ≡ false
unfolding is_name_char is_name_start
equals_no_name = refl

equals_no_space : is_space 61 ≡ false
unfolding is_space
equals_no_space = refl

filled_some : (space rest : List ℕ) → is_filled space ≡ true → list_all is_space space ≡ true → begins is_space rest ≡ false → (prefix_len is_space (space ++ rest) == 0) ≡ false
filled_some [] rest f all stop = absurd (false≢true f)
filled_some (c ∷ space) rest f all stop = ap (λ k. k == 0) (run_len is_space (c ∷ space) rest all stop) ∙ grind (arith, nat_tests)

step_by_step : (text n rest last name value : List ℕ) → (prefix_len is_space text == 0) ≡ false → name_of (skip_space text) ≡ Some (name, n) → after (codes "=") (skip_space n) ≡ Some rest → quoted (skip_space rest) ≡ Some (value, last)
    → attribute_of text ≡ Some ((name, value), last)
unfolding attribute_of
step_by_step text n rest last name value some named equals valued = rw some (rw named (rw equals (rw valued refl)))

pub attribute_reads : (a : Attribute) (rest : List ℕ) → IsAttribute a → attribute_of (chain a rest) ≡ Some ((a.name, a.value), rest)
unfolding chain
attribute_reads a rest p =
    let value = a.quote ∷ (a.value ++ (a.quote ∷ rest)) in
    let third = a.after ++ value in
    let second = a.before ++ (61 ∷ third) in
    let first = a.name ++ second in
    let no_space = name_is_no_space a.name second p.named in
    let named = ap name_of (space_reads a.space first p.space no_space) ∙ name_reads a.name second p.named (space_before a.before 61 third p.before equals_no_name) in
    let equals = ap (after (codes "=")) (space_reads a.before (61 ∷ third) p.before equals_no_space) ∙ after_reads (codes "=") third in
    let valued = ap quoted (space_reads a.after value p.after (quote_is_no_space a.quote p.quote)) ∙ quoted_reads a.quote a.value rest p.quote p.value in
    step_by_step (a.space ++ first) second third rest a.name a.value (filled_some a.space first p.filled p.space no_space) named equals valued

pub record IsAttributeRead (text name value rest : List ℕ) : Type 0 where
  pub a : Attribute
  pub is : IsAttribute a
  pub named : a.name ≡ name
  pub valued : a.value ≡ value
  pub splits : text ≡ chain a rest

is_some_space : (text : List ℕ) → (prefix_len is_space text == 0) ≡ false → is_filled (space_of text) ≡ true
unfolding space_of
is_some_space [] some = absurd (false≢true (sym some))
is_some_space (c ∷ text) some = by (is_space c) refl
  where
    taken : Bool → List ℕ
    taken b = take (if b then 1 + prefix_len is_space text else 0) (c ∷ text)

    one : 1 + prefix_len is_space text ≡ suc (prefix_len is_space text)
    one = omega arith

    by : (b : Bool) → is_space c ≡ b → is_filled (space_of (c ∷ text)) ≡ true
    by true s = ap (λ b. is_filled (taken b)) s ∙ ap (λ k. is_filled (take k (c ∷ text))) one
    by false s = absurd (false≢true (sym some ∙ ap (λ b. (if b then 1 + prefix_len is_space text else 0) == 0) s))

pub attribute_splits : (text : List ℕ) (e : (List ℕ × List ℕ) × List ℕ) → attribute_of text ≡ Some e → IsAttributeRead text e.0.0 e.0.1 e.1
unfolding attribute_of chain
attribute_splits text e so = by (prefix_len is_space text == 0) refl
  where
    by : (b : Bool) → (prefix_len is_space text == 0) ≡ b → IsAttributeRead text e.0.0 e.0.1 e.1
    by true s = absurd (none_some e (sym (ap (λ b. if b then None else (option_and_then with_name (name_of (skip_space text)))) s) ∙ so))
    by false s =
        let b1 = unbound with_name (name_of (skip_space text)) e (sym (ap (λ b. if b then None else (option_and_then with_name (name_of (skip_space text)))) s) ∙ so) in
        let name = b1.value.0 in
        let b2 = unbound (with_equals name) (after (codes "=") (skip_space b1.value.1)) e b1.gives in
        let b3 = unbound (with_value name) (quoted (skip_space b2.value)) e b2.gives in
        let n = name_splits (skip_space text) b1.value b1.is in
        let q = after_splits (codes "=") (skip_space b1.value.1) b2.value b2.is in
        let v = quoted_splits (skip_space b2.value) b3.value b3.is in
        let before = space_of b1.value.1 in
        let behind = space_of b2.value in
        let third = space_splits b2.value ∙ ap (λ l. behind ++ l) v.splits in
        let second = space_splits b1.value.1 ∙ ap (λ l. before ++ l) (q ∙ ap (λ l. 61 ∷ l) third) in
        let whole = space_splits text ∙ ap (λ l. space_of text ++ l) (n.splits ∙ ap (λ l. name ++ l) second) in
        let a : Attribute = record { space = space_of text; name = name; before = before; after = behind; quote = v.quote; value = b3.value.0 } in
        let is : IsAttribute a = record { filled = is_some_space text s; space = space_all text; named = n.named; before = space_all b1.value.1; after = space_all b2.value; quote = v.is; value = v.all } in
        subst (λ x. IsAttributeRead text x.0.0 x.0.1 x.1) (same_some ((name, b3.value.0), b3.value.1) e b3.gives)
        (record { a = a; is = is; named = refl; valued = refl; splits = whole })

-- an attribute has a character at least
longer_chain : (a : Attribute) (rest : List ℕ) → length rest < length (chain a rest)
unfolding chain
longer_chain a rest =
    let value = a.quote ∷ (a.value ++ (a.quote ∷ rest)) in
    let third = 61 ∷ (a.after ++ value) in
    omega (arith, length-append a.space (a.name ++ (a.before ++ third)), length-append a.name (a.before ++ third), length-append a.before third, length-append a.after value, length-append a.value (a.quote ∷ rest))

pub shorter : (text : List ℕ) (e : (List ℕ × List ℕ) × List ℕ) → attribute_of text ≡ Some e → length e.1 < length text
shorter text e so =
    let read = attribute_splits text e so in
    subst (λ t. length e.1 < length t) (sym read.splits) (longer_chain read.a e.1)

none_here : attribute_of [] ≡ None
unfolding attribute_of
none_here = refl

-- with room enough there is no matter how much
settled : (j k : ℕ) (text : List ℕ) → length text ≤ j → length text ≤ k → attributes_within j text ≡ attributes_within k text
settled zero zero text a b = refl
settled zero (suc k) [] a b = sym (ap (gathered (attributes_within k) []) none_here)
settled zero (suc k) (c ∷ text) a b = absurd (omega (arith, a))
settled (suc j) zero [] a b = ap (gathered (attributes_within j) []) none_here
settled (suc j) zero (c ∷ text) a b = absurd (omega (arith, b))
settled (suc j) (suc k) text a b = by (settled j k) (attribute_of text) refl
  where
    by : ((t : List ℕ) → length t ≤ j → length t ≤ k → attributes_within j t ≡ attributes_within k t) → (o : Option ((List ℕ × List ℕ) × List ℕ)) → attribute_of text ≡ o
        → gathered (attributes_within j) text (attribute_of text) ≡ gathered (attributes_within k) text (attribute_of text)
    by further None e = ap (gathered (attributes_within j) text) e ∙ sym (ap (gathered (attributes_within k) text) e)
    by further (Some x) e =
        let low = shorter text x e in
        ap (gathered (attributes_within j) text) e ∙ ap (λ r. (x.0 ∷ r.0, r.1)) (further x.1 (omega (arith, low, a)) (omega (arith, low, b))) ∙ sym (ap (gathered (attributes_within k) text) e)

pub attributes_more : (text : List ℕ) (e : (List ℕ × List ℕ) × List ℕ) → attribute_of text ≡ Some e → attributes_of text ≡ (e.0 ∷ (attributes_of e.1).0, (attributes_of e.1).1)
unfolding attributes_of
attributes_more [] e so = absurd (none_some e (sym none_here ∙ so))
attributes_more (c ∷ text) e so =
    let low = shorter (c ∷ text) e so in
    ap (gathered (attributes_within (length text)) (c ∷ text)) so ∙ ap (λ r. (e.0 ∷ r.0, r.1)) (settled (length text) (length e.1) e.1 (omega (arith, low)) (omega arith))

pub attributes_end : (text : List ℕ) → attribute_of text ≡ None → attributes_of text ≡ ([], text)
unfolding attributes_of
attributes_end [] none = refl
attributes_end (c ∷ text) none = ap (gathered (attributes_within (length text)) (c ∷ text)) none

-- no attribute stands where no white space does
none_left : (text : List ℕ) → begins_space text ≡ false → attribute_of text ≡ None
unfolding attribute_of
none_left text none = ap (λ b. if b then None else option_and_then with_name (name_of (skip_space text))) (no_space text none)

pub all_left : (text : List ℕ) → begins_space text ≡ false → text ≡ (attributes_of text).1
all_left text none = ap (λ r. r.1) (sym (attributes_end text (none_left text none)))

pub no_names : (text : List ℕ) → begins_space text ≡ false → [] ≡ names_of (attributes_of text).0
no_names text none = ap (λ r. names_of r.0) (sym (attributes_end text (none_left text none)))

-- the names and values of attributes
unfoldable pub pairs : List Attribute → List (List ℕ × List ℕ)
pairs attributes = map (λ a. (a.name, a.value)) attributes

-- all attributes are read where they are written, if none is behind them
pub attributes_read : (attributes : List Attribute) (rest : List ℕ) → list_all is_attribute attributes ≡ true → attribute_of rest ≡ None → attributes_of (flat_map written attributes ++ rest) ≡ (pairs attributes, rest)
unfolding pairs
attributes_read [] rest all none = attributes_end rest none
attributes_read (a ∷ attributes) rest all none =
    let more = flat_map written attributes ++ rest in
    let text : flat_map written (a ∷ attributes) ++ rest ≡ chain a more = append_assoc (written a) (flat_map written attributes) rest ∙ written_chain a more in
    let here = ap attribute_of text ∙ attribute_reads a more (attribute_parts a (and_first (is_attribute a) (list_all is_attribute attributes) all)) in
    let next = attributes_read attributes rest (and_second (is_attribute a) (list_all is_attribute attributes) all) none in
    attributes_more (flat_map written (a ∷ attributes) ++ rest) ((a.name, a.value), more) here ∙ ap (λ r. ((a.name, a.value) ∷ r.0, r.1)) next

-- what is read as attributes
pub record AreAttributesRead (text : List ℕ) (named : List (List ℕ × List ℕ)) (rest : List ℕ) : Type 0 where
  pub attributes : List Attribute
  pub all : list_all is_attribute attributes ≡ true
  pub named_so : pairs attributes ≡ named
  pub splits : text ≡ flat_map written attributes ++ rest

within_splits : (fuel : ℕ) (text : List ℕ) → AreAttributesRead text (attributes_within fuel text).0 (attributes_within fuel text).1
unfolding pairs
within_splits zero text = record { attributes = []; all = refl; named_so = refl; splits = refl }
within_splits (suc fuel) text = by (within_splits fuel) (attribute_of text) refl
  where
    by : ((t : List ℕ) → AreAttributesRead t (attributes_within fuel t).0 (attributes_within fuel t).1) → (o : Option ((List ℕ × List ℕ) × List ℕ)) → attribute_of text ≡ o
        → AreAttributesRead text (gathered (attributes_within fuel) text (attribute_of text)).0 (gathered (attributes_within fuel) text (attribute_of text)).1
    by further None e = subst (λ r. AreAttributesRead text r.0 r.1) (sym (ap (gathered (attributes_within fuel) text) e)) (record { attributes = []; all = refl; named_so = refl; splits = refl })
    by further (Some x) e =
        let here = attribute_splits text x e in
        let rest = further x.1 in
        let whole : AreAttributesRead text (x.0 ∷ (attributes_within fuel x.1).0) (attributes_within fuel x.1).1 = record {
          attributes = here.a ∷ rest.attributes;
          all = both (attribute_whole here.a here.is) rest.all;
          named_so = ap (λ l. l ∷ pairs rest.attributes) (ap (λ n. (n, here.a.value)) here.named ∙ ap (λ v. (x.0.0, v)) here.valued) ∙ ap (λ l. x.0 ∷ l) rest.named_so;
          splits = here.splits ∙ sym (written_chain here.a x.1) ∙ ap (λ l. written here.a ++ l) rest.splits ∙ sym (append_assoc (written here.a) (flat_map written rest.attributes) (attributes_within fuel x.1).1);
        } in
        subst (λ r. AreAttributesRead text r.0 r.1) (sym (ap (gathered (attributes_within fuel) text) e)) whole

pub attributes_split : (text : List ℕ) → AreAttributesRead text (attributes_of text).0 (attributes_of text).1
unfolding attributes_of
attributes_split text = within_splits (length text) text

-- the names that are read, one more
pub names_more : (text : List ℕ) (e : (List ℕ × List ℕ) × List ℕ) (names now whole : List (List ℕ)) (name : List ℕ) → Some e ≡ attribute_of text → names ++ names_of (attributes_of text).0 ≡ whole → name ≡ encode_utf8_all e.0.0
    → now ≡ names ++ name ∷ [] → now ++ names_of (attributes_of e.1).0 ≡ whole
names_more text e names now whole name read so named more =
    ap (λ l. l ++ names_of (attributes_of e.1).0) (more ∙ ap (λ n. names ++ n ∷ []) named)
    ∙ append_assoc names (encode_utf8_all e.0.0 ∷ []) (names_of (attributes_of e.1).0)
    ∙ ap (λ r. names ++ names_of r.0) (sym (attributes_more text e (sym read)))
    ∙ so

pub rest_more : (text : List ℕ) (e : (List ℕ × List ℕ) × List ℕ) (whole : List ℕ) → Some e ≡ attribute_of text → (attributes_of text).1 ≡ whole → (attributes_of e.1).1 ≡ whole
rest_more text e whole read so = ap (λ r. r.1) (sym (attributes_more text e (sym read))) ∙ so

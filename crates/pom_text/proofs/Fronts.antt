-- What stands at the front of a text: marks, white space, names, values. Each is read where it is written, and nothing else.
use Rattle.std.proofs.Common.{◌≡◌, ℕ, suc, ◌+◌, ◌≤◌, Bool, true, false, not, ◌&&◌, nat_eq, List, [], ◌∷◌, ◌++◌, length, take, drop, Option, Some, None, option_and_then, refl, sym, ap, subst, ◌∙◌, arith, length-append, if◌then◌else◌}
use Rattle.std.proofs.lemmas.Bool.{false≢true}
use Rattle.std.proofs.lemmas.Bool.Decides.{nat_tests}
use Rattle.std.proofs.lemmas.List.{take-append-drop}
use Rattle.std.specs.Cmp.Lexicographic.{pointwise}
use Rattle.std.specs.List.{list_all, prefix_len, starts_with}
use Rattle.pom_text.specs.Characters.{is_space, is_name_start, is_name_char}
use Rattle.pom_text.specs.Grammar.{is_name, is_quote}
use Rattle.pom_text.specs.Reads.{after, begins, skip_space, name_of, is_value, value_of, quoted}

-- Booleans
pub and_first : (a b : Bool) → (a && b) ≡ true → a ≡ true
and_first true b e = refl
and_first false b e = absurd (false≢true e)

pub and_second : (a b : Bool) → (a && b) ≡ true → b ≡ true
and_second true b e = e
and_second false b e = absurd (false≢true e)

pub both : {a b : Bool} → a ≡ true → b ≡ true → (a && b) ≡ true
both {a = a} {b = b} e f = ap (λ x. x && b) e ∙ f

pub not_false : (a : Bool) → not a ≡ true → a ≡ false
not_false true e = absurd (false≢true e)
not_false false e = refl

-- Options
pub some_is : {A : Type 0} → A → Option A → A
some_is other (Some x) = x
some_is other None = other

is_there : {A : Type 0} → Option A → Bool
is_there (Some x) = true
is_there None = false

pub same_some : {A : Type 0} → (x y : A) → Some x ≡ Some y → x ≡ y
unfolding some_is
same_some x y e = ap (some_is x) e

pub none_some : {A : Type 0} → (x : A) → None ≡ Some x → ⊥
unfolding is_there
none_some x e = false≢true (ap is_there e)

-- what comes of a value that is there
pub record Bound (A B : Type 0) (f : A → Option B) (o : Option A) (y : B) : Type 0 where
  pub value : A
  pub is : o ≡ Some value
  pub gives : f value ≡ Some y

pub unbound : {A B : Type 0} → (f : A → Option B) (o : Option A) (y : B) → option_and_then f o ≡ Some y → Bound A B f o y
unbound f (Some x) y e = record { value = x; is = refl; gives = e }
unbound f None y e = absurd (none_some y e)

-- marks
pub starts_front : (mark rest : List ℕ) → starts_with nat_eq (mark ++ rest) mark ≡ true
starts_front [] rest = refl
starts_front (c ∷ mark) rest = both (grind (arith, nat_tests)) (starts_front mark rest)

drop_front : (front rest : List ℕ) → drop (length front) (front ++ rest) ≡ rest
drop_front [] rest = refl
drop_front (c ∷ front) rest = drop_front front rest

pub take_front : (front rest : List ℕ) → take (length front) (front ++ rest) ≡ front
take_front [] rest = refl
take_front (c ∷ front) rest = ap (λ l. c ∷ l) (take_front front rest)

pub starts_splits : (mark text : List ℕ) → starts_with nat_eq text mark ≡ true → text ≡ mark ++ drop (length mark) text
starts_splits [] text e = refl
starts_splits (c ∷ mark) [] e = absurd (false≢true e)
starts_splits (c ∷ mark) (d ∷ text) e =
    let same : d ≡ c = grind (arith, nat_tests, and_first (nat_eq c d) (pointwise nat_eq mark (take (length mark) text)) e) in
    ap (λ x. x ∷ text) same ∙ ap (λ l. c ∷ l) (starts_splits mark text (and_second (nat_eq c d) (pointwise nat_eq mark (take (length mark) text)) e))

pub after_reads : (mark rest : List ℕ) → after mark (mark ++ rest) ≡ Some rest
unfolding after
after_reads mark rest = rw (starts_front mark rest) (ap Some (drop_front mark rest))

pub after_splits : (mark text rest : List ℕ) → after mark text ≡ Some rest → text ≡ mark ++ rest
unfolding after
after_splits mark text rest e = by (starts_with nat_eq text mark) refl
  where
    by : (b : Bool) → starts_with nat_eq text mark ≡ b → text ≡ mark ++ rest
    by true s = starts_splits mark text s ∙ ap (λ l. mark ++ l) (same_some (drop (length mark) text) rest (sym (rw s refl) ∙ e))
    by false s = absurd (none_some rest (sym (rw s refl) ∙ e))

pub behind_within : (mark text rest : List ℕ) → Some rest ≡ after mark text → length rest ≤ length text
behind_within mark text rest e = omega (arith, ap length (after_splits mark text rest (sym e)), length-append mark rest)

-- runs of characters
pub run_all : (p : ℕ → Bool) (text : List ℕ) → list_all p (take (prefix_len p text) text) ≡ true
run_all p [] = refl
run_all p (c ∷ text) = by (p c) refl (run_all p text)
  where
    by : (b : Bool) → p c ≡ b → list_all p (take (prefix_len p text) text) ≡ true → list_all p (take (prefix_len p (c ∷ text)) (c ∷ text)) ≡ true
    by true e rest =
        let one : 1 + prefix_len p text ≡ suc (prefix_len p text) = omega arith in
        ap (λ b. list_all p (take (if b then 1 + prefix_len p text else 0) (c ∷ text))) e ∙ ap (λ k. list_all p (take k (c ∷ text))) one ∙ both e rest
    by false e rest = ap (λ b. list_all p (take (if b then 1 + prefix_len p text else 0) (c ∷ text))) e

pub run_len : (p : ℕ → Bool) (front rest : List ℕ) → list_all p front ≡ true → begins p rest ≡ false → prefix_len p (front ++ rest) ≡ length front
run_len p [] [] all stop = refl
run_len p [] (c ∷ rest) all stop = rw stop refl
run_len p (c ∷ front) rest all stop =
    let here = and_first (p c) (list_all p front) all in
    let more = run_len p front rest (and_second (p c) (list_all p front) all) stop in
    let one : 1 + length front ≡ suc (length front) = omega arith in
    ap (λ b. if b then 1 + prefix_len p (front ++ rest) else 0) here ∙ ap (λ k. 1 + k) more ∙ one

pub run_front : (p : ℕ → Bool) (front rest : List ℕ) → list_all p front ≡ true → begins p rest ≡ false → take (prefix_len p (front ++ rest)) (front ++ rest) ≡ front
run_front p front rest all stop = ap (λ k. take k (front ++ rest)) (run_len p front rest all stop) ∙ take_front front rest

pub run_rest : (p : ℕ → Bool) (front rest : List ℕ) → list_all p front ≡ true → begins p rest ≡ false → drop (prefix_len p (front ++ rest)) (front ++ rest) ≡ rest
run_rest p front rest all stop = ap (λ k. drop k (front ++ rest)) (run_len p front rest all stop) ∙ drop_front front rest

pub run_splits : (p : ℕ → Bool) (text : List ℕ) → text ≡ take (prefix_len p text) text ++ drop (prefix_len p text) text
run_splits p text = sym (take-append-drop (prefix_len p text) text)

-- white space
pub space_reads : (space rest : List ℕ) → list_all is_space space ≡ true → begins is_space rest ≡ false → skip_space (space ++ rest) ≡ rest
unfolding skip_space
space_reads space rest all stop = run_rest is_space space rest all stop

unfoldable pub space_of : List ℕ → List ℕ
space_of text = take (prefix_len is_space text) text

pub space_splits : (text : List ℕ) → text ≡ space_of text ++ skip_space text
unfolding space_of skip_space
space_splits text = run_splits is_space text

pub space_all : (text : List ℕ) → list_all is_space (space_of text) ≡ true
unfolding space_of
space_all text = run_all is_space text

-- names
name_char : (c : ℕ) → is_name_start c ≡ true → is_name_char c ≡ true
unfolding is_name_char
name_char c e = rw e refl

name_all : (name : List ℕ) → is_name name ≡ true → list_all is_name_char name ≡ true
unfolding is_name
name_all [] e = absurd (false≢true e)
name_all (c ∷ name) e = both (name_char c (and_first (is_name_start c) (list_all is_name_char name) e)) (and_second (is_name_start c) (list_all is_name_char name) e)

pub name_begins : (name rest : List ℕ) → is_name name ≡ true → begins is_name_start (name ++ rest) ≡ true
unfolding is_name
name_begins [] rest e = absurd (false≢true e)
name_begins (c ∷ name) rest e = and_first (is_name_start c) (list_all is_name_char name) e

pub name_reads : (name rest : List ℕ) → is_name name ≡ true → begins is_name_char rest ≡ false → name_of (name ++ rest) ≡ Some (name, rest)
unfolding name_of
name_reads name rest is stop =
    let there : name_of (name ++ rest) ≡ Some (take (prefix_len is_name_char (name ++ rest)) (name ++ rest), drop (prefix_len is_name_char (name ++ rest)) (name ++ rest)) = rw (name_begins name rest is) refl in
    there ∙ ap (λ l. Some (l, drop (prefix_len is_name_char (name ++ rest)) (name ++ rest))) (run_front is_name_char name rest (name_all name is) stop)
    ∙ ap (λ l. Some (name, l)) (run_rest is_name_char name rest (name_all name is) stop)

-- what is read as a name
pub record IsNameRead (text name rest : List ℕ) : Type 0 where
  pub named : is_name name ≡ true
  pub splits : text ≡ name ++ rest

name_taken : (text : List ℕ) → begins is_name_start text ≡ true → is_name (take (prefix_len is_name_char text) text) ≡ true
unfolding is_name
name_taken [] e = absurd (false≢true e)
name_taken (c ∷ text) e =
    let one : 1 + prefix_len is_name_char text ≡ suc (prefix_len is_name_char text) = omega arith in
    ap (λ b. is_name (take (if b then 1 + prefix_len is_name_char text else 0) (c ∷ text))) (name_char c e) ∙ ap (λ k. is_name (take k (c ∷ text))) one ∙ both e (run_all is_name_char text)

pub name_splits : (text : List ℕ) (e : List ℕ × List ℕ) → name_of text ≡ Some e → IsNameRead text e.0 e.1
unfolding name_of
name_splits text e so = by (begins is_name_start text) refl
  where
    by : (b : Bool) → begins is_name_start text ≡ b → IsNameRead text e.0 e.1
    by true s = subst (λ x. IsNameRead text x.0 x.1) (same_some (take (prefix_len is_name_char text) text, drop (prefix_len is_name_char text) text) e (sym (rw s refl) ∙ so))
        (record { named = name_taken text s; splits = run_splits is_name_char text })
    by false s = absurd (none_some e (sym (rw s refl) ∙ so))

-- values
value_stops : (quote : ℕ) (rest : List ℕ) → begins (is_value quote) (quote ∷ rest) ≡ false
unfolding is_value
value_stops quote rest = grind (arith, nat_tests)

quote_reads : (quote : ℕ) (value rest : List ℕ) → list_all (is_value quote) value ≡ true → value_of quote (value ++ quote ∷ rest) ≡ Some (value, rest)
unfolding value_of
quote_reads quote value rest all =
    let stop = value_stops quote rest in
    let rests = run_rest (is_value quote) value (quote ∷ rest) all stop in
    let fronts = run_front (is_value quote) value (quote ∷ rest) all stop in
    let taken = take (prefix_len (is_value quote) (value ++ quote ∷ rest)) (value ++ quote ∷ rest) in
    ap (λ l. option_and_then (λ x. Some (taken, x)) (after (quote ∷ []) l)) rests
    ∙ ap (option_and_then (λ x. Some (taken, x))) (after_reads (quote ∷ []) rest)
    ∙ ap (λ l. Some (l, rest)) fronts

-- a value in quotes as it is written
pub quoted_reads : (quote : ℕ) (value rest : List ℕ) → is_quote quote ≡ true → list_all (is_value quote) value ≡ true → quoted (quote ∷ value ++ quote ∷ rest) ≡ Some (value, rest)
unfolding quoted
quoted_reads quote value rest is all = ap (λ b. if b then value_of quote (value ++ quote ∷ rest) else None) is ∙ quote_reads quote value rest all

pub record IsValueRead (text value rest : List ℕ) : Type 0 where
  pub quote : ℕ
  pub is : is_quote quote ≡ true
  pub all : list_all (is_value quote) value ≡ true
  pub splits : text ≡ quote ∷ value ++ quote ∷ rest

quote_splits : (quote : ℕ) (text : List ℕ) (e : List ℕ × List ℕ) → is_quote quote ≡ true → value_of quote text ≡ Some e → IsValueRead (quote ∷ text) e.0 e.1
unfolding value_of
quote_splits quote text e is so =
    let taken = take (prefix_len (is_value quote) text) text in
    let rest = drop (prefix_len (is_value quote) text) text in
    let b = unbound (λ x. Some (taken, x)) (after (quote ∷ []) rest) e so in
    let splits = run_splits (is_value quote) text ∙ ap (λ l. taken ++ l) (after_splits (quote ∷ []) rest b.value b.is) in
    subst (λ x. IsValueRead (quote ∷ text) x.0 x.1) (same_some (taken, b.value) e b.gives)
    (record { quote = quote; is = is; all = run_all (is_value quote) text; splits = ap (λ l. quote ∷ l) splits })

pub quoted_splits : (text : List ℕ) (e : List ℕ × List ℕ) → quoted text ≡ Some e → IsValueRead text e.0 e.1
unfolding quoted
quoted_splits [] e so = absurd (none_some e so)
quoted_splits (quote ∷ text) e so = by (is_quote quote) refl
  where
    by : (b : Bool) → is_quote quote ≡ b → IsValueRead (quote ∷ text) e.0 e.1
    by true s = quote_splits quote text e s (sym (ap (λ b. if b then value_of quote text else None) s) ∙ so)
    by false s = absurd (none_some e (sym (ap (λ b. if b then value_of quote text else None) s) ∙ so))

-- The reading from piece to piece, one turn after another.
use Rattle.std.proofs.Common.{◌≡◌, ℕ, zero, suc, ◌+◌, ◌-◌, ◌<◌, ◌≤◌, Bool, true, false, ◌&&◌, ◌==◌, List, [], ◌∷◌, length, Option, Some, None, refl, sym, ap, subst, ◌∙◌, arith, length-append, if◌then◌else◌}
use Rattle.mvn_base.specs.declared.rule.Rule.TheVariants.{TooLarge, NotPomText}
use Rattle.std.specs.Str.{encode_utf8_all}
use Rattle.pom_text.specs.declared.node.Node.{Node}
use Rattle.pom_text.specs.Parts.{Part, Passed, Character, Section, Reference, Start, Empty, End, line_part}
use Rattle.pom_text.specs.Characters.{is_space}
use Rattle.pom_text.specs.Grammar.{Piece, spelled, comment, instruction, section, reference, start_tag, empty_tag, end_tag, character}
use Rattle.pom_text.specs.Growth.{bytes_in, fitting, take_part, with_bytes}
use Rattle.pom_text.specs.Reads.{piece_of}
use Rattle.pom_text.specs.Running.{Outcome, begins_element, finish, go, halted, run, run_within, turn}
use Rattle.pom_text.specs.Tree.{Standing, add_child, add_text, begun, changed, closes, ended, in_innermost, innermost, may_begin, passed, with_child, with_text}
use Rattle.pom_text.proofs.Fronts.{none_some, same_some}
use Rattle.pom_text.proofs.Pieces.{piece_splits}

-- a piece has a character at least
pub spelled_some : (piece : Piece) → 0 < length (spelled piece)
unfolding spelled
spelled_some (comment inside) = omega arith
spelled_some (instruction inside) = omega arith
spelled_some (section inside) = omega arith
spelled_some (reference name) = omega arith
spelled_some (start_tag name attributes space) = omega arith
spelled_some (empty_tag name attributes space) = omega arith
spelled_some (end_tag name space) = omega arith
spelled_some (character c) = omega arith

pub piece_shorter : (text : List ℕ) (e : Part × List ℕ) → piece_of text ≡ Some e → length e.1 < length text
piece_shorter text e so =
    let r = piece_splits text e so in
    subst (λ t. length e.1 < length t) (sym r.splits) (omega (arith, length-append (spelled r.piece) e.1, spelled_some r.piece))

none_here : piece_of [] ≡ None
unfolding piece_of
none_here = refl

-- with room enough there is no matter how much
settled : (whole : Bool) (j k : ℕ) (s : Standing) (text : List ℕ) → length text ≤ j → length text ≤ k → run_within whole j s text ≡ run_within whole k s text
settled whole zero zero s text a b = refl
settled whole zero (suc k) s [] a b = sym (ap (turn whole (run_within whole k) s []) none_here)
settled whole zero (suc k) s (c ∷ text) a b = absurd (omega (arith, a))
settled whole (suc j) zero s [] a b = ap (turn whole (run_within whole j) s []) none_here
settled whole (suc j) zero s (c ∷ text) a b = absurd (omega (arith, b))
settled whole (suc j) (suc k) s text a b = by (settled whole j k) (piece_of text) refl
  where
    same : (t : Standing) (e : Part × List ℕ) (deep : Bool) (left right : Outcome) → left ≡ right → (if deep then halted TooLarge text else left) ≡ (if deep then halted TooLarge text else right)
    same t e deep left right is = ap (λ o. if deep then halted TooLarge text else o) is

    on : ((t : Standing) (rest : List ℕ) → length rest ≤ j → length rest ≤ k → run_within whole j t rest ≡ run_within whole k t rest) → (e : Part × List ℕ) → length e.1 < length text → (o : Option Standing)
        → go whole (run_within whole j) s text e o ≡ go whole (run_within whole k) s text e o
    on further e low None = refl
    on further e low (Some t) = same t e (length s.path == 64 && begins_element e.0) (run_within whole j t e.1) (run_within whole k t e.1) (further t e.1 (omega (arith, low, a)) (omega (arith, low, b)))

    by : ((t : Standing) (rest : List ℕ) → length rest ≤ j → length rest ≤ k → run_within whole j t rest ≡ run_within whole k t rest) → (o : Option (Part × List ℕ)) → piece_of text ≡ o
        → turn whole (run_within whole j) s text (piece_of text) ≡ turn whole (run_within whole k) s text (piece_of text)
    by further None e = ap (turn whole (run_within whole j) s text) e ∙ sym (ap (turn whole (run_within whole k) s text) e)
    by further (Some x) e = ap (turn whole (run_within whole j) s text) e ∙ on further x (piece_shorter text x e) (take_part s x.0) ∙ sym (ap (turn whole (run_within whole k) s text) e)

-- a turn, by what there is
turned : (whole : Bool) (s : Standing) (text : List ℕ) (e : Part × List ℕ) → piece_of text ≡ Some e → run whole s text ≡ go whole (run_within whole (length text - 1)) s text e (take_part s e.0)
unfolding run
turned whole s [] e so = absurd (none_some e (sym none_here ∙ so))
turned whole s (c ∷ text) e so =
    let one : suc (length text) - 1 ≡ length text = omega arith in
    ap (turn whole (run_within whole (length text)) s (c ∷ text)) so ∙ ap (λ k. go whole (run_within whole k) s (c ∷ text) e (take_part s e.0)) (sym one)

pub run_end : (whole : Bool) (s : Standing) (text : List ℕ) → piece_of text ≡ None → run whole s text ≡ finish whole s text
unfolding run
run_end whole s [] none = refl
run_end whole s (c ∷ text) none = ap (turn whole (run_within whole (length text)) s (c ∷ text)) none

pub run_unfit : (whole : Bool) (s : Standing) (text : List ℕ) (e : Part × List ℕ) → piece_of text ≡ Some e → take_part s e.0 ≡ None → run whole s text ≡ halted NotPomText text
run_unfit whole s text e so none = turned whole s text e so ∙ ap (go whole (run_within whole (length text - 1)) s text e) none

pub run_deep : (whole : Bool) (s t : Standing) (text : List ℕ) (e : Part × List ℕ) → piece_of text ≡ Some e → take_part s e.0 ≡ Some t → (length s.path == 64 && begins_element e.0) ≡ true → run whole s text ≡ halted TooLarge text
run_deep whole s t text e so some deep =
    turned whole s text e so ∙ ap (go whole (run_within whole (length text - 1)) s text e) some ∙ ap (λ b. if b then halted TooLarge text else run_within whole (length text - 1) t e.1) deep

pub run_more : (whole : Bool) (s t : Standing) (text : List ℕ) (e : Part × List ℕ) → piece_of text ≡ Some e → take_part s e.0 ≡ Some t → (length s.path == 64 && begins_element e.0) ≡ false → run whole s text ≡ run whole t e.1
unfolding run
run_more whole s t text e so some deep =
    turned whole s text e so ∙ ap (go whole (run_within whole (length text - 1)) s text e) some
    ∙ ap (λ b. if b then halted TooLarge text else run_within whole (length text - 1) t e.1) deep
    ∙ settled whole (length text - 1) (length e.1) t e.1 (omega (arith, piece_shorter text e so)) (omega arith)

-- a part gives one element at most
pub length_changed : (f : Node → Node) (at : ℕ) (nodes : List Node) → length (changed f at nodes) ≡ length nodes
length_changed f at [] = refl
length_changed f zero (node ∷ nodes) = refl
length_changed f (suc at) (node ∷ nodes) = ap suc (length_changed f at nodes)

length_child : (child : ℕ) (o : Option ℕ) (nodes : List Node) → length (with_child child o nodes) ≡ length nodes
length_child child (Some at) nodes = length_changed (add_child child) at nodes
length_child child None nodes = refl

length_ended : (s : Standing) → length (ended s).nodes ≡ length s.nodes
unfolding ended
length_ended s = refl

length_begun : (name : List ℕ) (attributes : List (List ℕ)) (s : Standing) → length (begun name attributes s).nodes ≡ length s.nodes + 1
unfolding begun
length_begun name attributes s =
    length-append (with_child (length s.nodes) (innermost s.path) s.nodes) ((record { name = name; attributes = attributes; text = []; children = [] }) ∷ []) ∙ ap (λ k. k + 1) (length_child (length s.nodes) (innermost s.path) s.nodes)

-- a list that is no longer than by one
pub record IsFew (s : Standing) (o : Option Standing) : Type 0 where
  pub few : (t : Standing) → o ≡ Some t → length t.nodes ≤ length s.nodes + 1

few_same : (s t : Standing) → length t.nodes ≡ length s.nodes → IsFew s (Some t)
few_same s t same = record { few = λ u e. omega (arith, ap (λ x. length x.nodes) (same_some t u e), same) }

few_more : (s t : Standing) → length t.nodes ≡ length s.nodes + 1 → IsFew s (Some t)
few_more s t same = record { few = λ u e. omega (arith, ap (λ x. length x.nodes) (same_some t u e), same) }

few_none : (s : Standing) → IsFew s None
few_none s = record { few = λ u e. absurd (none_some u e) }

few_if : (b : Bool) (s : Standing) (x y : Option Standing) → IsFew s x → IsFew s y → IsFew s (if b then x else y)
few_if true s x y a b = a
few_if false s x y a b = b

few_text : (text : List ℕ) (returned : Bool) (s : Standing) (outside : Option Standing) → IsFew s outside → IsFew s (with_text text returned s outside)
unfolding with_text
few_text text returned s outside few = by (innermost s.path)
  where
    by : (o : Option ℕ) → IsFew s (in_innermost text returned s o outside)
    by (Some at) = few_same s (record { nodes = changed (add_text (encode_utf8_all text)) at s.nodes; path = s.path; returned = returned }) (length_changed (add_text (encode_utf8_all text)) at s.nodes)
    by None = few

few_bytes : (bytes : List ℕ) (returned : Bool) (s : Standing) (outside : Option Standing) → IsFew s outside → IsFew s (with_bytes bytes returned s outside)
unfolding with_bytes
few_bytes bytes returned s outside few = by (innermost s.path)
  where
    by : (o : Option ℕ) → IsFew s (bytes_in bytes returned s o outside)
    by (Some at) = few_same s (record { nodes = changed (add_text bytes) at s.nodes; path = s.path; returned = returned }) (length_changed (add_text bytes) at s.nodes)
    by None = few

few_part : (s : Standing) (part : Part) → IsFew s (take_part s part)
unfolding take_part
few_part s Passed = few_same s (passed s) refl
few_part s (Character c) = few_text (line_part s.returned c) (c == 13) s (if is_space c then Some (passed s) else None) (few_if (is_space c) s (Some (passed s)) None (few_same s (passed s) refl) (few_none s))
few_part s (Section bytes) = few_bytes bytes false s None (few_none s)
few_part s (Reference c) = few_text (c ∷ []) false s None (few_none s)
few_part s (Start tag) = few_if (may_begin s) s (Some (begun tag.name tag.attributes s)) None (few_more s (begun tag.name tag.attributes s) (length_begun tag.name tag.attributes s)) (few_none s)
few_part s (Empty tag) = few_if (may_begin s) s (Some (ended (begun tag.name tag.attributes s))) None (few_more s (ended (begun tag.name tag.attributes s)) (length_ended (begun tag.name tag.attributes s) ∙ length_begun tag.name tag.attributes s)) (few_none s)
few_part s (End name) = few_if (closes name s) s (Some (ended s)) None (few_same s (ended s) (length_ended s)) (few_none s)

-- the reading goes on, with few elements
pub still_few : (s t : Standing) (text : List ℕ) (e : Part × List ℕ) (total : ℕ) → piece_of text ≡ Some e → take_part s e.0 ≡ Some t → length s.nodes + length text ≤ total → length t.nodes + length e.1 ≤ total
still_few s t text e total so some few = omega (arith, piece_shorter text e so, (few_part s e.0).few t some, few)

-- what is answered says whether something fits
pub unfitted : (fits : Bool) (t : Standing) (o : Option Standing) → fits ≡ false → fitting fits t ≡ o → o ≡ None
unfitted fits t o e so = sym so ∙ ap (λ b. fitting b t) e

pub fitted : (fits : Bool) (t : Standing) (o : Option Standing) → fits ≡ true → fitting fits t ≡ o → o ≡ Some t
fitted fits t o e so = sym so ∙ ap (λ b. fitting b t) e

-- Lists of pieces that stand one behind another: what comes next is one part alone, and the reading follows them.
use Rattle.std.proofs.Common.{◌≡◌, ℕ, ◌≤◌, Bool, true, false, not, ◌&&◌, ◌==◌, List, [], ◌∷◌, ◌++◌, flat_map, length, Option, Some, None, is_some, option_and_then, refl, sym, ap, ◌∙◌, arith, append_assoc, append-nil, length-append}
use Rattle.std.proofs.lemmas.Bool.{false≢true}
use Rattle.std.specs.List.{list_all}
use Rattle.std.specs.Str.{encode_utf8_all}
use Rattle.pom_text.specs.Characters.{is_allowed}
use Rattle.pom_text.specs.Grammar.{Piece, ends_first, is_formed, is_piece, spelled, comment, instruction, section, reference, start_tag, empty_tag, end_tag, character}
use Rattle.pom_text.specs.Growth.{bytes_in, code_of, part_of, take_part, with_bytes}
use Rattle.pom_text.specs.Parts.{lines}
use Rattle.pom_text.specs.Reads.{begins, piece_of}
use Rattle.pom_text.specs.References.{referred}
use Rattle.pom_text.specs.Running.{begins_element, run}
use Rattle.pom_text.specs.Spells.{Begins, BeginsLongest, from_there, grown, is_element, is_shallow, nests}
use Rattle.pom_text.specs.Tree.{Standing, character_list, grow, in_innermost, innermost, with_text}
use Rattle.pom_text.proofs.Fronts.{and_first, and_second, both, none_some, not_false, same_some, unbound}
use Rattle.pom_text.proofs.Pieces.{piece_reads}
use Rattle.pom_text.proofs.Runs.{run_more, spelled_some}

-- a piece does what the part that is kept of it does
section_same : (text : List ℕ) (s : Standing) → with_text text false s None ≡ with_bytes (encode_utf8_all text) false s None
unfolding with_text with_bytes
section_same text s = by (innermost s.path)
  where
    by : (o : Option ℕ) → in_innermost text false s o None ≡ bytes_in (encode_utf8_all text) false s o None
    by (Some at) = refl
    by None = refl

reference_same : (o : Option ℕ) → is_some o ≡ true → character_list o ≡ code_of o ∷ []
reference_same (Some c) e = refl
reference_same None e = absurd (false≢true e)

pub grows_so : (s : Standing) (piece : Piece) → is_formed piece ≡ true → grow s piece ≡ take_part s (part_of piece)
unfolding grow take_part part_of is_formed
grows_so s (comment inside) is = refl
grows_so s (instruction inside) is = refl
grows_so s (section inside) is = section_same (lines false inside) s
grows_so s (reference name) is = ap (λ l. with_text l false s None) (reference_same (referred name) (and_second (ends_first (59 ∷ []) name) (is_some (referred name)) is))
grows_so s (start_tag name attributes space) is = refl
grows_so s (empty_tag name attributes space) is = refl
grows_so s (end_tag name space) is = refl
grows_so s (character c) is = refl

pub element_so : (piece : Piece) → is_element piece ≡ begins_element (part_of piece)
unfolding part_of
element_so (comment inside) = refl
element_so (instruction inside) = refl
element_so (section inside) = refl
element_so (reference name) = refl
element_so (start_tag name attributes space) = refl
element_so (empty_tag name attributes space) = refl
element_so (end_tag name space) = refl
element_so (character c) = refl

-- what stands next is one part, with one rest
pub record AreNext (p q : Piece) (x y : List ℕ) : Type 0 where
  pub part : part_of p ≡ part_of q
  pub rest : x ≡ y

pub next_same : (p q : Piece) (x y : List ℕ) → is_formed p ≡ true → is_formed q ≡ true → spelled p ++ x ≡ spelled q ++ y → AreNext p q x y
next_same p q x y a b e =
    let both_read = same_some (part_of p, x) (part_of q, y) (sym (piece_reads p x a) ∙ ap piece_of e ∙ piece_reads q y b) in
    record { part = ap (λ r. r.0) both_read; rest = ap (λ r. r.1) both_read }

-- characters that may stand come from before the first that may not
pub record IsWithin (front cut more x : List ℕ) : Type 0 where
  pub left : List ℕ
  pub cut_is : cut ≡ front ++ left
  pub rest_is : x ≡ left ++ more

head_of : ℕ → List ℕ → ℕ
head_of d [] = d
head_of d (c ∷ text) = c

tail_of : List ℕ → List ℕ
tail_of [] = []
tail_of (c ∷ text) = text

pub within : (front cut more x : List ℕ) → list_all is_allowed front ≡ true → begins is_allowed more ≡ false → cut ++ more ≡ front ++ x → IsWithin front cut more x
unfolding head_of tail_of
within [] cut more x all stop e = record { left = cut; cut_is = refl; rest_is = sym e }
within (c ∷ front) [] more x all stop e = absurd (false≢true (sym stop ∙ ap (begins is_allowed) e ∙ and_first (is_allowed c) (list_all is_allowed front) all))
within (c ∷ front) (d ∷ cut) more x all stop e =
    let w = within front cut more x (and_second (is_allowed c) (list_all is_allowed front) all) stop (ap tail_of e) in
    record { left = w.left; cut_is = ap (λ k. k ∷ cut) (ap (head_of c) e) ∙ ap (λ l. c ∷ l) w.cut_is; rest_is = w.rest_is }

-- the first piece of a list, taken off
pub record IsFirst (s : Standing) (text : List ℕ) (piece : Piece) (pieces : List Piece) (end : Standing) (rest : List ℕ) : Type 0 where
  pub formed : is_formed piece ≡ true
  pub allowed : list_all is_allowed (spelled piece) ≡ true
  pub next : Standing
  pub grows : grow s piece ≡ Some next
  pub text_is : text ≡ spelled piece ++ (flat_map spelled pieces ++ rest)
  pub others : list_all is_piece pieces ≡ true
  pub stand : grown next pieces ≡ Some end

pub first_of_list : (s end : Standing) (text rest : List ℕ) (piece : Piece) (pieces : List Piece) → Begins s text (piece ∷ pieces) end rest → IsFirst s text piece pieces end rest
first_of_list s end text rest piece pieces b =
    let here = and_first (is_piece piece) (list_all is_piece pieces) b.whole in
    let u = unbound (λ t. grown t pieces) (grow s piece) end b.stand in
    record {
      formed = and_first (is_formed piece) (list_all is_allowed (spelled piece)) here;
      allowed = and_second (is_formed piece) (list_all is_allowed (spelled piece)) here;
      next = u.value;
      grows = u.is;
      text_is = b.splits ∙ append_assoc (spelled piece) (flat_map spelled pieces) rest;
      others = and_second (is_piece piece) (list_all is_piece pieces) b.whole;
      stand = u.gives;
    }

-- the reading follows pieces that stand
pub record Follows (whole : Bool) (s : Standing) (cut more : List ℕ) (end : Standing) (rest : List ℕ) : Type 0 where
  pub left : List ℕ
  pub rest_is : rest ≡ left ++ more
  pub allowed : list_all is_allowed left ≡ true
  pub same : run whole s cut ≡ run whole end left

all_behind : (front left : List ℕ) → list_all is_allowed (front ++ left) ≡ true → list_all is_allowed left ≡ true
all_behind [] left e = e
all_behind (c ∷ front) left e = all_behind front left (and_second (is_allowed c) (list_all is_allowed (front ++ left)) e)

shallow_next : (s next : Standing) (piece : Piece) (pieces : List Piece) → is_shallow s (piece ∷ pieces) ≡ true → grow s piece ≡ Some next → is_shallow next pieces ≡ true
shallow_next s next piece pieces shallow grows =
    sym (ap (from_there (λ t. is_shallow t pieces)) grows) ∙ and_second (not (nests s piece)) (from_there (λ t. is_shallow t pieces) (grow s piece)) shallow

pub follows : (whole : Bool) (more : List ℕ) → begins is_allowed more ≡ false → (pieces : List Piece) (s end : Standing) (cut rest : List ℕ) → list_all is_allowed cut ≡ true → Begins s (cut ++ more) pieces end rest → is_shallow s pieces ≡ true
    → Follows whole s cut more end rest
follows whole more stop [] s end cut rest all b shallow = record { left = cut; rest_is = sym b.splits; allowed = all; same = ap (λ t. run whole t cut) (same_some s end b.stand) }
follows whole more stop (piece ∷ pieces) s end cut rest all b shallow =
    let f = first_of_list s end (cut ++ more) rest piece pieces b in
    let w = within (spelled piece) cut more (flat_map spelled pieces ++ rest) f.allowed stop f.text_is in
    let reads = ap piece_of w.cut_is ∙ piece_reads piece w.left f.formed in
    let takes = sym (grows_so s piece f.formed) ∙ f.grows in
    let flat = ap (λ x. length s.path == 64 && x) (sym (element_so piece)) ∙ not_false (nests s piece) (and_first (not (nests s piece)) (from_there (λ t. is_shallow t pieces) (grow s piece)) shallow) in
    let here = run_more whole s f.next cut (part_of piece, w.left) reads takes flat in
    let next : Begins f.next (w.left ++ more) pieces end rest = record { splits = sym w.rest_is; whole = f.others; stand = f.stand } in
    let rest_all = all_behind (spelled piece) w.left (sym (ap (list_all is_allowed) w.cut_is) ∙ all) in
    let r = follows whole more stop pieces f.next end w.left rest rest_all next (shallow_next s f.next piece pieces shallow f.grows) in
    record { left = r.left; rest_is = r.rest_is; allowed = r.allowed; same = here ∙ r.same }

-- of two lists on one text the first pieces come to one standing, with one rest
pub record AreAlike (s : Standing) (p q : Piece) (x y : List ℕ) (t u : Standing) : Type 0 where
  pub next : t ≡ u
  pub rest : x ≡ y
  pub long : length (spelled p) ≡ length (spelled q)

pub alike : (s e f : Standing) (text r t : List ℕ) (p q : Piece) (ps qs : List Piece) (a : IsFirst s text p ps e r) (b : IsFirst s text q qs f t) → AreAlike s p q (flat_map spelled ps ++ r) (flat_map spelled qs ++ t) a.next b.next
alike s e f text r t p q ps qs a b =
    let x = flat_map spelled ps ++ r in
    let y = flat_map spelled qs ++ t in
    let whole = sym a.text_is ∙ b.text_is in
    let n = next_same p q x y a.formed b.formed whole in
    let step = sym a.grows ∙ grows_so s p a.formed ∙ ap (take_part s) n.part ∙ sym (grows_so s q b.formed) ∙ b.grows in
    record {
      next = same_some a.next b.next step;
      rest = n.rest;
      long = omega (arith, length-append (spelled p) x, length-append (spelled q) y, ap length whole, ap length n.rest);
    }

-- two lists that spell one text to its end come to one standing
pub one_end : (ps qs : List Piece) (s e f : Standing) (text : List ℕ) → Begins s text ps e [] → Begins s text qs f [] → e ≡ f
one_end [] [] s e f text a b = sym (same_some s e a.stand) ∙ same_some s f b.stand
one_end [] (q ∷ qs) s e f text a b =
    let first = first_of_list s f text [] q qs b in
    absurd (omega (arith, spelled_some q, length-append (spelled q) (flat_map spelled qs ++ []), ap length first.text_is, ap length a.splits))
one_end (p ∷ ps) [] s e f text a b =
    let first = first_of_list s e text [] p ps a in
    absurd (omega (arith, spelled_some p, length-append (spelled p) (flat_map spelled ps ++ []), ap length first.text_is, ap length b.splits))
one_end (p ∷ ps) (q ∷ qs) s e f text a b =
    let first = first_of_list s e text [] p ps a in
    let second = first_of_list s f text [] q qs b in
    let both_are = alike s e f text [] [] p q ps qs first second in
    one_end ps qs first.next e f (flat_map spelled ps ++ []) (record { splits = refl; whole = first.others; stand = first.stand })
    (record { splits = both_are.rest; whole = second.others; stand = ap (λ t. grown t qs) both_are.next ∙ second.stand })

-- no piece goes on
pub record GoesNoFurther (s : Standing) (text : List ℕ) : Type 0 where
  pub none : (piece : Piece) (x : List ℕ) → is_piece piece ≡ true → text ≡ spelled piece ++ x → grow s piece ≡ None

pub no_longer : (ps qs : List Piece) (s e f : Standing) (text r t : List ℕ) → Begins s text ps e r → GoesNoFurther e r → Begins s text qs f t → length (flat_map spelled qs) ≤ length (flat_map spelled ps)
no_longer ps [] s e f text r t a no_more b = omega arith
no_longer [] (q ∷ qs) s e f text r t a no_more b =
    let second = first_of_list s f text t q qs b in
    let is = and_first (is_piece q) (list_all is_piece qs) b.whole in
    absurd (none_some second.next (sym (no_more.none q (flat_map spelled qs ++ t) is (sym a.splits ∙ second.text_is)) ∙ ap (λ u. grow u q) (sym (same_some s e a.stand)) ∙ second.grows))
no_longer (p ∷ ps) (q ∷ qs) s e f text r t a no_more b =
    let first = first_of_list s e text r p ps a in
    let second = first_of_list s f text t q qs b in
    let both_are = alike s e f text r t p q ps qs first second in
    let less = no_longer ps qs first.next e f (flat_map spelled ps ++ r) r t (record { splits = refl; whole = first.others; stand = first.stand }) no_more
    (record { splits = both_are.rest; whole = second.others; stand = ap (λ u. grown u qs) both_are.next ∙ second.stand }) in
    omega (arith, less, both_are.long, length-append (spelled p) (flat_map spelled ps), length-append (spelled q) (flat_map spelled qs))

-- one piece more behind a list
grown_more : (ps : List Piece) (s e t : Standing) (q : Piece) → grown s ps ≡ Some e → grow e q ≡ Some t → grown s (ps ++ q ∷ []) ≡ Some t
grown_more [] s e t q a b = ap (option_and_then (λ u. Some u)) (ap (λ u. grow u q) (same_some s e a) ∙ b)
grown_more (p ∷ ps) s e t q a b =
    let u = unbound (λ x. grown x ps) (grow s p) e a in
    ap (option_and_then (λ x. grown x (ps ++ q ∷ []))) u.is ∙ grown_more ps u.value e t q u.gives b

flat_more : (ps : List Piece) (q : Piece) → flat_map spelled (ps ++ q ∷ []) ≡ flat_map spelled ps ++ spelled q
flat_more [] q = append-nil (spelled q)
flat_more (p ∷ ps) q = ap (λ l. spelled p ++ l) (flat_more ps q) ∙ sym (append_assoc (spelled p) (flat_map spelled ps) (spelled q))

all_more : (ps : List Piece) (q : Piece) → list_all is_piece ps ≡ true → is_piece q ≡ true → list_all is_piece (ps ++ q ∷ []) ≡ true
all_more [] q a b = both b refl
all_more (p ∷ ps) q a b = both (and_first (is_piece p) (list_all is_piece ps) a) (all_more ps q (and_second (is_piece p) (list_all is_piece ps) a) b)

begins_more : (ps : List Piece) (s e t : Standing) (text r x : List ℕ) (q : Piece) → Begins s text ps e r → r ≡ spelled q ++ x → is_piece q ≡ true → grow e q ≡ Some t → Begins s text (ps ++ q ∷ []) t x
begins_more ps s e t text r x q b here is grows = record {
  splits = b.splits ∙ ap (λ l. flat_map spelled ps ++ l) here ∙ sym (append_assoc (flat_map spelled ps) (spelled q) x) ∙ ap (λ l. l ++ x) (sym (flat_more ps q));
  whole = all_more ps q b.whole is;
  stand = grown_more ps s e t q b.stand grows;
}

-- behind the longest list no piece goes on
pub longest_ends : (ps : List Piece) (s e : Standing) (text r : List ℕ) → BeginsLongest s text ps e r → GoesNoFurther e r
longest_ends ps s e text r b = record { none = λ q x is here. by q x is here (grow e q) refl }
  where
    by : (q : Piece) (x : List ℕ) → is_piece q ≡ true → r ≡ spelled q ++ x → (o : Option Standing) → grow e q ≡ o → grow e q ≡ None
    by q x is here None g = g
    by q x is here (Some t) g =
        let more = b.longest (ps ++ q ∷ []) t x (begins_more ps s e t text r x q b.begins here is g) in
        absurd (omega (arith, more, spelled_some q, ap length (flat_more ps q), length-append (flat_map spelled ps) (spelled q)))

-- What stands before the first of a mark.
use Rattle.std.proofs.Common.{◌≡◌, ℕ, ◌≤◌, Bool, true, false, not, nat_eq, List, [], ◌∷◌, ◌++◌, length, drop, Option, Some, None, option_map, refl, sym, ap, subst, ◌∙◌, arith, append_assoc, length-append, if◌then◌else◌}
use Rattle.std.proofs.lemmas.List.{take-append-le}
use Rattle.std.specs.Cmp.Lexicographic.{pointwise}
use Rattle.std.specs.List.{starts_with}
use Rattle.pom_text.specs.Grammar.{ends_first}
use Rattle.pom_text.specs.Reads.{after, first_of, longer, up_to}
use Rattle.pom_text.proofs.Fronts.{after_reads, after_splits, and_first, and_second, both, none_some, not_false, same_some}

-- whether a mark begins a text shows in as many characters as it has
starts_local : (mark text rest : List ℕ) → length mark ≤ length text → starts_with nat_eq (text ++ rest) mark ≡ starts_with nat_eq text mark
starts_local mark text rest room = ap (pointwise nat_eq mark) (take-append-le (length mark) text rest room)

no_start : (mark text : List ℕ) → starts_with nat_eq text mark ≡ false → after mark text ≡ None
unfolding after
no_start mark text e = ap (λ b. if b then Some (drop (length mark) text) else None) e

none_starts : (mark text : List ℕ) → after mark text ≡ None → starts_with nat_eq text mark ≡ false
unfolding after
none_starts mark text e = by (starts_with nat_eq text mark) refl
  where
    by : (b : Bool) → starts_with nat_eq text mark ≡ b → starts_with nat_eq text mark ≡ false
    by true s = absurd (none_some (drop (length mark) text) (sym e ∙ ap (λ b. if b then Some (drop (length mark) text) else None) s))
    by false s = s

room_for : (c : ℕ) (inside mark : List ℕ) → length mark ≤ length (c ∷ inside ++ mark)
room_for c inside mark = omega (arith, length-append inside mark)

pub up_to_reads : (m : ℕ) (mark inside rest : List ℕ) → ends_first (m ∷ mark) inside ≡ true → up_to (m ∷ mark) (inside ++ (m ∷ mark ++ rest)) ≡ Some (inside, rest)
up_to_reads m mark [] rest first = ap (λ o. first_of o (option_map (longer m) (up_to (m ∷ mark) (mark ++ rest)))) (after_reads (m ∷ mark) rest)
up_to_reads m mark (c ∷ inside) rest first =
    let head = not (starts_with nat_eq (c ∷ inside ++ m ∷ mark) (m ∷ mark)) in
    let away = not_false (starts_with nat_eq (c ∷ inside ++ m ∷ mark) (m ∷ mark)) (and_first head (ends_first (m ∷ mark) inside) first) in
    let text : c ∷ inside ++ (m ∷ mark ++ rest) ≡ (c ∷ inside ++ m ∷ mark) ++ rest = sym (append_assoc (c ∷ inside) (m ∷ mark) rest) in
    let none = no_start (m ∷ mark) (c ∷ inside ++ (m ∷ mark ++ rest)) (ap (λ t. starts_with nat_eq t (m ∷ mark)) text ∙ starts_local (m ∷ mark) (c ∷ inside ++ m ∷ mark) rest (room_for c inside (m ∷ mark)) ∙ away) in
    let next = up_to_reads m mark inside rest (and_second head (ends_first (m ∷ mark) inside) first) in
    ap (λ o. first_of o (option_map (longer c) (up_to (m ∷ mark) (inside ++ (m ∷ mark ++ rest))))) none ∙ ap (option_map (longer c)) next

pub record IsUpTo (mark text inside rest : List ℕ) : Type 0 where
  pub first : ends_first mark inside ≡ true
  pub splits : text ≡ inside ++ (mark ++ rest)

pub up_to_splits : (mark text : List ℕ) (e : List ℕ × List ℕ) → up_to mark text ≡ Some e → IsUpTo mark text e.0 e.1
up_to_splits mark [] e so = absurd (none_some e so)
up_to_splits mark (c ∷ text) e so = by (up_to_splits mark text) (after mark (c ∷ text)) refl
  where
    further : ((x : List ℕ × List ℕ) → up_to mark text ≡ Some x → IsUpTo mark text x.0 x.1) → (o : Option (List ℕ × List ℕ)) → up_to mark text ≡ o → after mark (c ∷ text) ≡ None → IsUpTo mark (c ∷ text) e.0 e.1
    further rest None s none = absurd (none_some e (sym (ap (λ o. first_of o (option_map (longer c) (up_to mark text))) none ∙ ap (option_map (longer c)) s) ∙ so))
    further rest (Some x) s none =
        let r = rest x s in
        let is = same_some (c ∷ x.0, x.1) e (sym (ap (λ o. first_of o (option_map (longer c) (up_to mark text))) none ∙ ap (option_map (longer c)) s) ∙ so) in
        let whole : c ∷ text ≡ (c ∷ x.0 ++ mark) ++ x.1 = ap (λ t. c ∷ t) r.splits ∙ sym (append_assoc (c ∷ x.0) mark x.1) in
        let away = sym (starts_local mark (c ∷ x.0 ++ mark) x.1 (room_for c x.0 mark)) ∙ ap (λ t. starts_with nat_eq t mark) (sym whole) ∙ none_starts mark (c ∷ text) none in
        subst (λ y. IsUpTo mark (c ∷ text) y.0 y.1) is (record { first = both (ap not away) r.first; splits = ap (λ t. c ∷ t) r.splits })

    by : ((x : List ℕ × List ℕ) → up_to mark text ≡ Some x → IsUpTo mark text x.0 x.1) → (o : Option (List ℕ)) → after mark (c ∷ text) ≡ o → IsUpTo mark (c ∷ text) e.0 e.1
    by rest (Some r) s = subst (λ y. IsUpTo mark (c ∷ text) y.0 y.1) (same_some ([], r) e (sym (ap (λ o. first_of o (option_map (longer c) (up_to mark text))) s) ∙ so)) (record { first = refl; splits = after_splits mark (c ∷ text) r s })
    by rest None s = further rest (up_to mark text) refl s

-- a mark that is nowhere is not here, and nowhere behind
pub record IsNowhere (mark : List ℕ) (c : ℕ) (text : List ℕ) : Type 0 where
  pub here : after mark (c ∷ text) ≡ None
  pub further : up_to mark text ≡ None

pub nowhere_more : (mark : List ℕ) (c : ℕ) (text : List ℕ) → up_to mark (c ∷ text) ≡ None → IsNowhere mark c text
nowhere_more mark c text none = by (after mark (c ∷ text)) refl none
  where
    the_rest : List ℕ → List ℕ × List ℕ
    the_rest r = ([], r)

    behind : (o : Option (List ℕ × List ℕ)) → option_map (longer c) o ≡ None → o ≡ None
    behind None e = refl
    behind (Some x) e = absurd (none_some (longer c x) (sym e))

    by : (o : Option (List ℕ)) → after mark (c ∷ text) ≡ o → first_of o (option_map (longer c) (up_to mark text)) ≡ None → IsNowhere mark c text
    by None e so = record { here = e; further = behind (up_to mark text) so }
    by (Some r) e so = absurd (none_some (the_rest r) (sym so))

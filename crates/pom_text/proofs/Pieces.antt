-- A piece is read where it is written, and nothing else is read as a piece.
use Rattle.std.proofs.Common.{◌≡◌, ℕ, Bool, true, false, not, ◌&&◌, ◌==◌, nat_eq, List, [], ◌∷◌, ◌++◌, flat_map, codes, length, take, drop, Option, Some, None, is_some, option_map, option_and_then, refl, sym, ap, subst, ◌∙◌, arith, append_assoc, if◌then◌else◌}
use Rattle.std.proofs.lemmas.Bool.{false≢true}
use Rattle.std.proofs.lemmas.Bool.Decides.{nat_tests}
use Rattle.std.specs.List.{list_all}
use Rattle.std.specs.Cmp.Lexicographic.{pointwise}
use Rattle.std.specs.Str.{encode_utf8_all}
use Rattle.pom_text.specs.Parts.{Part, Passed, Character, Section, Reference, lines}
use Rattle.pom_text.specs.Characters.{is_space, is_name_start}
use Rattle.pom_text.specs.Grammar.{Attribute, Piece, ends_first, is_attribute, is_formed, is_name, is_tag, spelled, written, comment, instruction, section, reference, start_tag, empty_tag, end_tag, character}
use Rattle.pom_text.specs.Growth.{code_of, part_of}
use Rattle.pom_text.specs.References.{referred}
use Rattle.pom_text.specs.Reads.{after, begins, behind, end_of, marked_of, meant, passed_of, piece_of, reference_of, section_of, tag_of, up_to}
use Rattle.pom_text.proofs.Fronts.{after_splits, and_first, and_second, both, name_begins, none_some, not_false, same_some, unbound}
use Rattle.pom_text.proofs.Tags.{IsRead, empty_reads, end_reads, end_splits, made, start_reads, tag_splits, unmapped}
use Rattle.pom_text.proofs.Ups.{up_to_reads, up_to_splits}

-- no mark begins what begins a name
no_mark : (m : ℕ) (mark text : List ℕ) → is_name_start m ≡ false → begins is_name_start text ≡ true → after (m ∷ mark) text ≡ None
unfolding after
no_mark m mark [] away name = absurd (false≢true name)
no_mark m mark (c ∷ text) away name = by (nat_eq m c) refl
  where
    by : (b : Bool) → nat_eq m c ≡ b → after (m ∷ mark) (c ∷ text) ≡ None
    by true s = absurd (false≢true (sym away ∙ ap is_name_start (grind (arith, nat_tests, s)) ∙ name))
    by false s = ap (λ b. if b && pointwise nat_eq mark (take (length mark) text) then Some (drop (length mark) text) else None) s

not_33 : is_name_start 33 ≡ false
unfolding is_name_start
not_33 = refl

not_63 : is_name_start 63 ≡ false
unfolding is_name_start
not_63 = refl

not_47 : is_name_start 47 ≡ false
unfolding is_name_start
not_47 = refl

pub tag_marked : (text : List ℕ) → begins is_name_start text ≡ true → marked_of text ≡ tag_of text
unfolding marked_of
tag_marked text name =
    ap (λ o. behind o (passed_of (codes "-->")) (behind (after (codes "![CDATA[") text) section_of (behind (after (codes "?") text) (passed_of (codes "?>")) (behind (after (codes "/") text) end_of (tag_of text))))) (no_mark 33 (codes "--") text not_33 name)
    ∙ ap (λ o. behind o section_of (behind (after (codes "?") text) (passed_of (codes "?>")) (behind (after (codes "/") text) end_of (tag_of text)))) (no_mark 33 (codes "[CDATA[") text not_33 name)
    ∙ ap (λ o. behind o (passed_of (codes "?>")) (behind (after (codes "/") text) end_of (tag_of text))) (no_mark 63 [] text not_63 name)
    ∙ ap (λ o. behind o end_of (tag_of text)) (no_mark 47 [] text not_47 name)

comment_marked : (text : List ℕ) → marked_of (codes "!--" ++ text) ≡ passed_of (codes "-->") text
unfolding marked_of after
comment_marked text = refl

section_marked : (text : List ℕ) → marked_of (codes "![CDATA[" ++ text) ≡ section_of text
unfolding marked_of after
section_marked text = refl

instruction_marked : (text : List ℕ) → marked_of (codes "?" ++ text) ≡ passed_of (codes "?>") text
unfolding marked_of after
instruction_marked text = refl

end_marked : (text : List ℕ) → marked_of (codes "/" ++ text) ≡ end_of text
unfolding marked_of after
end_marked text = refl

pub slash_marked : (text rest : List ℕ) → Some rest ≡ after (47 ∷ []) text → marked_of text ≡ end_of rest
slash_marked text rest e = ap marked_of (after_splits (47 ∷ []) text rest (sym e)) ∙ end_marked rest

-- each piece is read where it is written
comment_reads : (inside rest : List ℕ) → ends_first (codes "-->") inside ≡ true → piece_of (60 ∷ (codes "!--" ++ (inside ++ (codes "-->" ++ rest)))) ≡ Some (Passed, rest)
unfolding piece_of passed_of
comment_reads inside rest first = comment_marked (inside ++ (codes "-->" ++ rest)) ∙ ap (option_map (λ e. (Passed, e.1))) (up_to_reads 45 (codes "->") inside rest first)

instruction_reads : (inside rest : List ℕ) → ends_first (codes "?>") inside ≡ true → piece_of (60 ∷ (codes "?" ++ (inside ++ (codes "?>" ++ rest)))) ≡ Some (Passed, rest)
unfolding piece_of passed_of
instruction_reads inside rest first = instruction_marked (inside ++ (codes "?>" ++ rest)) ∙ ap (option_map (λ e. (Passed, e.1))) (up_to_reads 63 (codes ">") inside rest first)

section_reads : (inside rest : List ℕ) → ends_first (codes "]]>") inside ≡ true → piece_of (60 ∷ (codes "![CDATA[" ++ (inside ++ (codes "]]>" ++ rest)))) ≡ Some (Section (encode_utf8_all (lines false inside)), rest)
unfolding piece_of section_of
section_reads inside rest first = section_marked (inside ++ (codes "]]>" ++ rest)) ∙ ap (option_map (λ e. (Section (encode_utf8_all (lines false e.0)), e.1))) (up_to_reads 93 (codes "]>") inside rest first)

referred_some : (o : Option ℕ) → is_some o ≡ true → o ≡ Some (code_of o)
referred_some (Some c) e = refl
referred_some None e = absurd (false≢true e)

abbrev referring : ℕ × List ℕ → Part × List ℕ
referring e = (Reference e.0, e.1)

reference_reads : (name rest : List ℕ) → ends_first (codes ";") name ≡ true → is_some (referred name) ≡ true → piece_of (38 ∷ (name ++ (codes ";" ++ rest))) ≡ Some (Reference (code_of (referred name)), rest)
unfolding piece_of reference_of
reference_reads name rest first some =
    ap (λ o. option_map referring (option_and_then meant o)) (up_to_reads 59 [] name rest first)
    ∙ ap (λ o. option_map referring (option_map (λ c. (c, rest)) o)) (referred_some (referred name) some)

tag_piece : (text : List ℕ) → begins is_name_start text ≡ true → piece_of (60 ∷ text) ≡ tag_of text
unfolding piece_of
tag_piece text name = tag_marked text name

end_piece : (text : List ℕ) → piece_of (60 ∷ 47 ∷ text) ≡ end_of text
unfolding piece_of
end_piece text = end_marked text

named_tag : (name : List ℕ) (attributes : List Attribute) (space : List ℕ) → is_tag name attributes space ≡ true → is_name name ≡ true
named_tag name attributes space is = and_first (is_name name) (list_all is_attribute attributes) (and_first (is_name name && list_all is_attribute attributes) (list_all is_space space) is)

character_piece : (c : ℕ) (rest : List ℕ) → (not (c == 60) && not (c == 38)) ≡ true → piece_of (c ∷ rest) ≡ Some (Character c, rest)
unfolding piece_of
character_piece c rest is = rw (not_false (c == 60) (and_first (not (c == 60)) (not (c == 38)) is)) (rw (not_false (c == 38) (and_second (not (c == 60)) (not (c == 38)) is)) refl)

pub piece_reads : (piece : Piece) (rest : List ℕ) → is_formed piece ≡ true → piece_of (spelled piece ++ rest) ≡ Some (part_of piece, rest)
unfolding is_formed spelled part_of made
piece_reads (comment inside) rest is = ap piece_of (simp append_assoc refl) ∙ comment_reads inside rest is
piece_reads (instruction inside) rest is = ap piece_of (simp append_assoc refl) ∙ instruction_reads inside rest is
piece_reads (section inside) rest is = ap piece_of (simp append_assoc refl) ∙ section_reads inside rest is
piece_reads (reference name) rest is = ap piece_of (simp append_assoc refl) ∙ reference_reads name rest (and_first (ends_first (codes ";") name) (is_some (referred name)) is) (and_second (ends_first (codes ";") name) (is_some (referred name)) is)
piece_reads (start_tag name attributes space) rest is =
    ap piece_of (simp append_assoc refl) ∙ tag_piece (name ++ (flat_map written attributes ++ (space ++ 62 ∷ rest))) (name_begins name (flat_map written attributes ++ (space ++ 62 ∷ rest)) (named_tag name attributes space is)) ∙ start_reads name attributes space rest is
piece_reads (empty_tag name attributes space) rest is =
    ap piece_of (simp append_assoc refl) ∙ tag_piece (name ++ (flat_map written attributes ++ (space ++ 47 ∷ 62 ∷ rest))) (name_begins name (flat_map written attributes ++ (space ++ 47 ∷ 62 ∷ rest)) (named_tag name attributes space is)) ∙ empty_reads name attributes space rest is
piece_reads (end_tag name space) rest is =
    ap piece_of (simp append_assoc refl) ∙ end_piece (name ++ (space ++ 62 ∷ rest)) ∙ end_reads name space rest (and_first (is_name name) (list_all is_space space) is) (and_second (is_name name) (list_all is_space space) is)
piece_reads (character c) rest is = character_piece c rest is

-- and nothing else is read
passed_comment : (text : List ℕ) (e : Part × List ℕ) → passed_of (codes "-->") text ≡ Some e → IsRead (codes "<!--") text e.0 e.1
unfolding passed_of spelled is_formed part_of
passed_comment text e so =
    let m = unmapped (λ x. (Passed, x.1)) (up_to (codes "-->") text) e so in
    let u = up_to_splits (codes "-->") text m.value m.is in
    subst (λ x. IsRead (codes "<!--") text x.0 x.1) m.gives (written_comment m.value.0 text m.value.1 u.first u.splits)
  where
    written_comment : (inside text rest : List ℕ) → ends_first (codes "-->") inside ≡ true → text ≡ inside ++ (codes "-->" ++ rest) → IsRead (codes "<!--") text Passed rest
    written_comment inside text rest first splits = record { piece = comment inside; formed = first; says = refl; splits = ap (λ t. codes "<!--" ++ t) splits ∙ simp append_assoc refl }

passed_instruction : (text : List ℕ) (e : Part × List ℕ) → passed_of (codes "?>") text ≡ Some e → IsRead (codes "<?") text e.0 e.1
unfolding passed_of spelled is_formed part_of
passed_instruction text e so =
    let m = unmapped (λ x. (Passed, x.1)) (up_to (codes "?>") text) e so in
    let u = up_to_splits (codes "?>") text m.value m.is in
    subst (λ x. IsRead (codes "<?") text x.0 x.1) m.gives (written_instruction m.value.0 text m.value.1 u.first u.splits)
  where
    written_instruction : (inside text rest : List ℕ) → ends_first (codes "?>") inside ≡ true → text ≡ inside ++ (codes "?>" ++ rest) → IsRead (codes "<?") text Passed rest
    written_instruction inside text rest first splits = record { piece = instruction inside; formed = first; says = refl; splits = ap (λ t. codes "<?" ++ t) splits ∙ simp append_assoc refl }

section_splits : (text : List ℕ) (e : Part × List ℕ) → section_of text ≡ Some e → IsRead (codes "<![CDATA[") text e.0 e.1
unfolding section_of spelled is_formed part_of
section_splits text e so =
    let m = unmapped (λ x. (Section (encode_utf8_all (lines false x.0)), x.1)) (up_to (codes "]]>") text) e so in
    let u = up_to_splits (codes "]]>") text m.value m.is in
    subst (λ x. IsRead (codes "<![CDATA[") text x.0 x.1) m.gives (written_section m.value.0 text m.value.1 u.first u.splits)
  where
    written_section : (inside text rest : List ℕ) → ends_first (codes "]]>") inside ≡ true → text ≡ inside ++ (codes "]]>" ++ rest) → IsRead (codes "<![CDATA[") text (Section (encode_utf8_all (lines false inside))) rest
    written_section inside text rest first splits = record { piece = section inside; formed = first; says = refl; splits = ap (λ t. codes "<![CDATA[" ++ t) splits ∙ simp append_assoc refl }

reference_splits : (text : List ℕ) (e : Part × List ℕ) → option_map referring (reference_of text) ≡ Some e → IsRead (codes "&") text e.0 e.1
unfolding reference_of spelled is_formed part_of
reference_splits text e so =
    let m = unmapped referring (reference_of text) e so in
    let b = unbound meant (up_to (codes ";") text) m.value m.is in
    let r = unmapped (λ c. (c, b.value.1)) (referred b.value.0) m.value b.gives in
    let u = up_to_splits (codes ";") text b.value b.is in
    subst (λ x. IsRead (codes "&") text x.0 x.1) (ap referring r.gives ∙ m.gives) (written_reference b.value.0 text b.value.1 r.value u.first u.splits r.is)
  where
    written_reference : (name text rest : List ℕ) (c : ℕ) → ends_first (codes ";") name ≡ true → text ≡ name ++ (codes ";" ++ rest) → referred name ≡ Some c → IsRead (codes "&") text (Reference c) rest
    written_reference name text rest c first splits is = record { piece = reference name; formed = both first (ap is_some is); says = ap (λ o. Reference (code_of o)) is; splits = ap (λ t. codes "&" ++ t) splits ∙ simp append_assoc refl }

-- which function reads what stands behind a `<`
pub data Behind (A : Type 0) (o : Option (List ℕ)) (f : List ℕ → Option A) (other : Option A) (e : A) : Type 0 where
  taken : (rest : List ℕ) → o ≡ Some rest → f rest ≡ Some e → Behind A o f other e
  left : other ≡ Some e → Behind A o f other e

behind_which : {A : Type 0} → (o : Option (List ℕ)) (f : List ℕ → Option A) (other : Option A) (e : A) → behind o f other ≡ Some e → Behind A o f other e
behind_which (Some rest) f other e so = taken rest refl so
behind_which None f other e so = left so

-- what is read behind a longer front is read behind a shorter one
shorter_front : (front mark text rest : List ℕ) (e : Part × List ℕ) → text ≡ mark ++ rest → IsRead (front ++ mark) rest e.0 e.1 → IsRead front text e.0 e.1
shorter_front front mark text rest e splits r = record { piece = r.piece; formed = r.formed; says = r.says; splits = ap (λ t. front ++ t) splits ∙ sym (append_assoc front mark rest) ∙ r.splits }

marked_splits : (text : List ℕ) (e : Part × List ℕ) → marked_of text ≡ Some e → IsRead (60 ∷ []) text e.0 e.1
unfolding marked_of
marked_splits text e so = elim (behind_which (after (codes "!--") text) (passed_of (codes "-->")) (behind (after (codes "![CDATA[") text) section_of (behind (after (codes "?") text) (passed_of (codes "?>")) (behind (after (codes "/") text) end_of (tag_of text)))) e so) [
  | taken rest is gives ↦ shorter_front (60 ∷ []) (codes "!--") text rest e (after_splits (codes "!--") text rest is) (passed_comment rest e gives)
  | left so1 ↦ elim (behind_which (after (codes "![CDATA[") text) section_of (behind (after (codes "?") text) (passed_of (codes "?>")) (behind (after (codes "/") text) end_of (tag_of text))) e so1) [
    | taken rest is gives ↦ shorter_front (60 ∷ []) (codes "![CDATA[") text rest e (after_splits (codes "![CDATA[") text rest is) (section_splits rest e gives)
    | left so2 ↦ elim (behind_which (after (codes "?") text) (passed_of (codes "?>")) (behind (after (codes "/") text) end_of (tag_of text)) e so2) [
      | taken rest is gives ↦ shorter_front (60 ∷ []) (codes "?") text rest e (after_splits (codes "?") text rest is) (passed_instruction rest e gives)
      | left so3 ↦ elim (behind_which (after (codes "/") text) end_of (tag_of text) e so3) [
        | taken rest is gives ↦ shorter_front (60 ∷ []) (codes "/") text rest e (after_splits (codes "/") text rest is) (end_splits rest e gives)
        | left so4 ↦ tag_splits text e so4
      ]
    ]
  ]
]

read_character : (c : ℕ) (text : List ℕ) → (c == 60) ≡ false → (c == 38) ≡ false → IsRead [] (c ∷ text) (Character c) text
unfolding spelled is_formed part_of
read_character c text a b = record { piece = character c; formed = both (ap not a) (ap not b); says = refl; splits = refl }

pub piece_splits : (text : List ℕ) (e : Part × List ℕ) → piece_of text ≡ Some e → IsRead [] text e.0 e.1
unfolding piece_of
piece_splits [] e so = absurd (none_some e so)
piece_splits (c ∷ text) e so = by (c == 60) refl
  where
    other : Option (Part × List ℕ)
    other = if c == 38 then option_map referring (reference_of text) else Some (Character c, text)

    by_other : (b : Bool) → (c == 38) ≡ b → (c == 60) ≡ false → other ≡ Some e → IsRead [] (c ∷ text) e.0 e.1
    by_other true s away so1 =
        let same : c ∷ text ≡ 38 ∷ text = ap (λ x. x ∷ text) (grind (arith, nat_tests, s)) in
        shorter_front [] (38 ∷ []) (c ∷ text) text e same (reference_splits text e (sym (ap (λ b. if b then option_map referring (reference_of text) else Some (Character c, text)) s) ∙ so1))
    by_other false s away so1 =
        subst (λ x. IsRead [] (c ∷ text) x.0 x.1) (same_some (Character c, text) e (sym (ap (λ b. if b then option_map referring (reference_of text) else Some (Character c, text)) s) ∙ so1)) (read_character c text away s)

    by : (b : Bool) → (c == 60) ≡ b → IsRead [] (c ∷ text) e.0 e.1
    by true s =
        let same : c ∷ text ≡ 60 ∷ text = ap (λ x. x ∷ text) (grind (arith, nat_tests, s)) in
        shorter_front [] (60 ∷ []) (c ∷ text) text e same (marked_splits text e (sym (ap (λ b. if b then marked_of text else other) s) ∙ so))
    by false s = by_other (c == 38) refl s (sym (ap (λ b. if b then marked_of text else other) s) ∙ so)

-- What stands behind a declaration, in a text that is cut at the first character that may not stand in one.
use Rattle.std.proofs.Common.{◌≡◌, ℕ, ◌+◌, Bool, true, false, nat_eq, List, [], ◌∷◌, ◌++◌, codes, drop, Option, Some, None, refl, sym, ap, subst, ◌∙◌, arith, append_assoc, if◌then◌else◌}
use Rattle.std.proofs.lemmas.Bool.{false≢true}
use Rattle.std.proofs.lemmas.Bool.Decides.{nat_tests}
use Rattle.std.specs.List.{list_all, starts_with}
use Rattle.pom_text.specs.Characters.{is_allowed, is_space}
use Rattle.pom_text.specs.Encodings.{Names, Opens, announces, begins_space, declared, is_declaration, undeclared}
use Rattle.pom_text.specs.Grammar.{Attribute, declaration}
use Rattle.pom_text.specs.Openings.{behind_declaration, named_encoding, opening}
use Rattle.pom_text.specs.Reads.{begins}
use Rattle.pom_text.proofs.Chains.{within}
use Rattle.pom_text.proofs.Declarations.{declaration_parts, declaration_reads, declaration_splits, declaration_tail, named_none, named_reads, tail, tail_begins}
use Rattle.pom_text.proofs.Ends.{all_after, and_first_all}
use Rattle.pom_text.proofs.Fronts.{and_first, and_second, both, none_some, same_some, starts_front, starts_splits}

-- the encoding that bytes name is what is read
pub names_so : (bytes : List ℕ) → Names bytes (named_encoding bytes)
names_so bytes = by (behind_declaration bytes) refl
  where
    by : (o : Option (List ℕ)) → behind_declaration bytes ≡ o → Names bytes (named_encoding bytes)
    by None e = subst (Names bytes) (sym (named_none bytes e)) (undeclared (λ attributes space rest is splits. none_some rest (sym e ∙ ap behind_declaration splits ∙ declaration_reads attributes space rest is)))
    by (Some rest) e =
        let d = declaration_splits bytes rest e in
        let same = ap named_encoding d.splits ∙ named_reads d.attributes d.space rest d.is in
        subst (Names bytes) (sym same) (declared d.attributes d.space rest d.is d.splits)

pub names_once : (bytes : List ℕ) {named : Option (ℕ × List ℕ)} → Names bytes named → named_encoding bytes ≡ named
names_once bytes (declared attributes space rest is splits) = ap named_encoding splits ∙ named_reads attributes space rest is
names_once bytes (undeclared never) = by (behind_declaration bytes) refl
  where
    by : (o : Option (List ℕ)) → behind_declaration bytes ≡ o → named_encoding bytes ≡ None
    by None e = named_none bytes e
    by (Some rest) e =
        let d = declaration_splits bytes rest e in
        absurd (never d.attributes d.space rest d.is d.splits)

-- a declaration begins as one
spaced : (text : List ℕ) → begins_space text ≡ true → announces (codes "<?xml" ++ text) ≡ true
unfolding announces
spaced text e = both (starts_front (codes "<?xml") text) e

pub declaration_announces : (attributes : List Attribute) (space rest : List ℕ) → is_declaration attributes space ≡ true → announces (declaration attributes space ++ rest) ≡ true
declaration_announces attributes space rest is =
    let p = declaration_parts attributes space is in
    ap announces (declaration_tail attributes space rest) ∙ spaced (tail attributes space rest) (tail_begins attributes space rest p.all p.spaces p.filled)

-- its first six characters may stand in a text
space_allowed : (c : ℕ) → is_space c ≡ true → is_allowed c ≡ true
unfolding is_space is_allowed
space_allowed c e = grind (arith, nat_tests, e)

pub record IsAnnounced (text : List ℕ) : Type 0 where
  pub c : ℕ
  pub rest : List ℕ
  pub text_is : text ≡ (codes "<?xml" ++ c ∷ []) ++ rest
  pub space : is_space c ≡ true

announced : (text : List ℕ) → announces text ≡ true → IsAnnounced text
unfolding announces
announced text e =
    let front = starts_splits (codes "<?xml") text (and_first (starts_with nat_eq text (codes "<?xml")) (begins_space (drop 5 text)) e) in
    by (drop 5 text) front (and_second (starts_with nat_eq text (codes "<?xml")) (begins_space (drop 5 text)) e)
  where
    by : (l : List ℕ) → text ≡ codes "<?xml" ++ l → begins_space l ≡ true → IsAnnounced text
    by [] f s = absurd (false≢true s)
    by (c ∷ l) f s = record { c = c; rest = l; text_is = f; space = s }

opening_allowed : (c : ℕ) → is_allowed c ≡ true → list_all is_allowed (codes "<?xml" ++ c ∷ []) ≡ true
unfolding is_allowed
opening_allowed c e = both e refl

-- what stands behind the cut has no part in it
pub announces_far : (cut more : List ℕ) → begins is_allowed more ≡ false → announces (cut ++ more) ≡ announces cut
announces_far cut more stop = by (announces cut) (announces (cut ++ more)) refl refl
  where
    by : (a b : Bool) → announces cut ≡ a → announces (cut ++ more) ≡ b → announces (cut ++ more) ≡ announces cut
    by true true e f = f ∙ sym e
    by false false e f = f ∙ sym e
    by true false e f =
        let a = announced cut e in
        let whole = ap (λ l. l ++ more) a.text_is ∙ append_assoc (codes "<?xml" ++ a.c ∷ []) a.rest more in
        absurd (false≢true (sym f ∙ ap announces whole ∙ spaced (a.c ∷ (a.rest ++ more)) a.space))
    by false true e f =
        let a = announced (cut ++ more) f in
        let w = within (codes "<?xml" ++ a.c ∷ []) cut more a.rest (opening_allowed a.c (space_allowed a.c a.space)) stop a.text_is in
        absurd (false≢true (sym e ∙ ap announces w.cut_is ∙ spaced (a.c ∷ w.left) a.space))

-- a body that is read
opening_choice : (text : List ℕ) (b : Bool) → announces text ≡ b → opening text ≡ (if b then behind_declaration text else Some text)
unfolding opening
opening_choice text b e = ap (λ b. if b then behind_declaration text else Some text) e

pub opens_so : (cut more body : List ℕ) → list_all is_allowed cut ≡ true → begins is_allowed more ≡ false → opening cut ≡ Some body → Opens (cut ++ more) (body ++ more)
opens_so cut more body all stop so = by (announces cut) refl
  where
    by : (b : Bool) → announces cut ≡ b → Opens (cut ++ more) (body ++ more)
    by true e =
        let d = declaration_splits cut body (sym (opening_choice cut true e) ∙ so) in
        let front = declaration d.attributes d.space in
        declared d.attributes d.space (body ++ more) d.is (and_first_all front body (sym (ap (list_all is_allowed) d.splits) ∙ all)) (ap (λ l. l ++ more) d.splits ∙ append_assoc front body more)
    by false e =
        let same = same_some cut body (sym (opening_choice cut false e) ∙ so) in
        subst (λ l. Opens (cut ++ more) (l ++ more)) same (undeclared (announces_far cut more stop ∙ e))

-- and the other way round
pub record IsOpened (cut more body : List ℕ) : Type 0 where
  pub left : List ℕ
  pub body_is : body ≡ left ++ more
  pub same : opening cut ≡ Some left

pub opened_so : (text cut more : List ℕ) {body : List ℕ} → text ≡ cut ++ more → begins is_allowed more ≡ false → Opens text body → IsOpened cut more body
opened_so text cut more here stop (declared attributes space body is all splits) =
    let w = within (declaration attributes space) cut more body all stop (sym here ∙ splits) in
    let announced_here = ap announces w.cut_is ∙ declaration_announces attributes space w.left is in
    record { left = w.left; body_is = w.rest_is; same = opening_choice cut true announced_here ∙ ap behind_declaration w.cut_is ∙ declaration_reads attributes space w.left is }
opened_so text cut more here stop (undeclared none) =
    record { left = cut; body_is = here; same = opening_choice cut false (sym (announces_far cut more stop) ∙ sym (ap announces here) ∙ none) }

-- where none is read, none is written
pub record IsUnopened (text : List ℕ) : Type 0 where
  pub announced : announces text ≡ true
  pub never : (attributes : List Attribute) (space body : List ℕ) → is_declaration attributes space ≡ true → list_all is_allowed (declaration attributes space) ≡ true → text ≡ declaration attributes space ++ body → ⊥

pub unopened_so : (cut more : List ℕ) → begins is_allowed more ≡ false → opening cut ≡ None → IsUnopened (cut ++ more)
unopened_so cut more stop so = by (announces cut) refl
  where
    by : (b : Bool) → announces cut ≡ b → IsUnopened (cut ++ more)
    by true e = record {
      announced = announces_far cut more stop ∙ e;
      never = λ attributes space body is all splits.
          let w = within (declaration attributes space) cut more body all stop splits in
          none_some w.left (sym so ∙ opening_choice cut true e ∙ ap behind_declaration w.cut_is ∙ declaration_reads attributes space w.left is);
    }
    by false e = absurd (none_some cut (sym so ∙ opening_choice cut false e))

pub unopened_once : (cut more : List ℕ) → list_all is_allowed cut ≡ true → begins is_allowed more ≡ false → IsUnopened (cut ++ more) → opening cut ≡ None
unopened_once cut more all stop u = opening_choice cut true here ∙ by (behind_declaration cut) refl
  where
    here : announces cut ≡ true
    here = sym (announces_far cut more stop) ∙ u.announced

    by : (o : Option (List ℕ)) → behind_declaration cut ≡ o → behind_declaration cut ≡ None
    by None e = e
    by (Some body) e =
        let d = declaration_splits cut body e in
        let front = declaration d.attributes d.space in
        absurd (u.never d.attributes d.space (body ++ more) d.is (and_first_all front body (sym (ap (list_all is_allowed) d.splits) ∙ all)) (ap (λ l. l ++ more) d.splits ∙ append_assoc front body more))

-- each character of a body may stand in a text
pub body_allowed : (cut body : List ℕ) → list_all is_allowed cut ≡ true → opening cut ≡ Some body → list_all is_allowed body ≡ true
body_allowed cut body all so = by (announces cut) refl
  where
    by : (b : Bool) → announces cut ≡ b → list_all is_allowed body ≡ true
    by true e =
        let d = declaration_splits cut body (sym (opening_choice cut true e) ∙ so) in
        all_after (declaration d.attributes d.space) body (sym (ap (list_all is_allowed) d.splits) ∙ all)
    by false e = ap (list_all is_allowed) (sym (same_some cut body (sym (opening_choice cut false e) ∙ so))) ∙ all

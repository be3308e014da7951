-- Where the reading comes to is where the grammar says, and the other way round.
use Rattle.std.proofs.Common.{◌≡◌, ℕ, zero, suc, ◌≤◌, Bool, true, false, not, ◌&&◌, ◌==◌, nat_eq, List, [], ◌∷◌, ◌++◌, flat_map, codes, length, drop, Option, Some, None, is_some, option_and_then, refl, sym, ap, subst, ◌∙◌, arith, append_assoc, length-append, if◌then◌else◌}
use Rattle.std.proofs.lemmas.Bool.{false≢true}
use Rattle.std.specs.List.{list_all, starts_with}
use Rattle.mvn_base.specs.declared.rule.Rule.{Rule}
use Rattle.mvn_base.specs.declared.rule.Rule.TheVariants.{TooLarge, NotPomText, Doctype}
use Rattle.pom_text.specs.declared.node.Node.{Node}
use Rattle.pom_text.specs.Parts.{Part, is_empty}
use Rattle.pom_text.specs.Characters.{is_allowed, is_name_start}
use Rattle.pom_text.specs.Grammar.{Piece, is_formed, is_piece, spelled}
use Rattle.pom_text.specs.Growth.{part_of, take_part}
use Rattle.pom_text.specs.Reads.{after, begins, marked_of, name_of, piece_of, tag_of}
use Rattle.pom_text.specs.Running.{Outcome, begins_element, finish, go, halted, read, run, run_within, turn}
use Rattle.pom_text.specs.Spells.{Begins, Spells, Stops, doctype, from_there, grown, is_doctype, is_done, is_shallow, nests, not_text, too_deep}
use Rattle.pom_text.specs.Tree.{Standing, grow}
use Rattle.pom_text.proofs.Chains.{GoesNoFurther, element_so, follows, grows_so, longest_ends, no_longer, within}
use Rattle.pom_text.proofs.Fronts.{and_first, and_second, both, none_some, not_false, same_some, starts_front, starts_splits}
use Rattle.pom_text.proofs.Pieces.{piece_reads, piece_splits}
use Rattle.pom_text.proofs.Runs.{piece_shorter, run_deep, run_end, run_unfit}

-- no piece begins as a `<!DOCTYPE` does
doctype_here : (rest : List ℕ) → piece_of (codes "<!DOCTYPE" ++ rest) ≡ None
unfolding piece_of marked_of after tag_of name_of is_name_start
doctype_here rest = refl

doctype_none : (s : Standing) (text : List ℕ) → is_doctype s text ≡ true → piece_of text ≡ None
doctype_none s text is = ap piece_of (starts_splits (codes "<!DOCTYPE") text (and_second (is_empty s.nodes) (starts_with nat_eq text (codes "<!DOCTYPE")) is)) ∙ doctype_here (drop 9 text)

doctype_allowed : list_all is_allowed (codes "<!DOCTYPE") ≡ true
unfolding is_allowed
doctype_allowed = refl

doctype_far : (s : Standing) (left more : List ℕ) → begins is_allowed more ≡ false → is_doctype s (left ++ more) ≡ is_doctype s left
doctype_far s left more stop = ap (λ b. is_empty s.nodes && b) (by (starts_with nat_eq left (codes "<!DOCTYPE")) (starts_with nat_eq (left ++ more) (codes "<!DOCTYPE")) refl refl)
  where
    by : (a b : Bool) → starts_with nat_eq left (codes "<!DOCTYPE") ≡ a → starts_with nat_eq (left ++ more) (codes "<!DOCTYPE") ≡ b → starts_with nat_eq (left ++ more) (codes "<!DOCTYPE") ≡ starts_with nat_eq left (codes "<!DOCTYPE")
    by true true e f = f ∙ sym e
    by false false e f = f ∙ sym e
    by true false e f =
        let splits = ap (λ l. l ++ more) (starts_splits (codes "<!DOCTYPE") left e) in
        absurd (false≢true (sym f ∙ ap (λ t. starts_with nat_eq t (codes "<!DOCTYPE")) splits ∙ starts_front (codes "<!DOCTYPE") (drop 9 left ++ more)))
    by false true e f =
        let w = within (codes "<!DOCTYPE") left more (drop 9 (left ++ more)) doctype_allowed stop (starts_splits (codes "<!DOCTYPE") (left ++ more) f) in
        absurd (false≢true (sym e ∙ ap (λ t. starts_with nat_eq t (codes "<!DOCTYPE")) w.cut_is ∙ starts_front (codes "<!DOCTYPE") w.left))

-- nothing is left of an empty text
left_empty : (left more : List ℕ) → [] ≡ left ++ more → is_empty left ≡ true
left_empty [] more e = refl
left_empty (c ∷ left) more e = absurd (omega (arith, ap length e))

more_empty : (left more : List ℕ) → [] ≡ left ++ more → is_empty more ≡ true
more_empty left [] e = refl
more_empty left (c ∷ more) e = absurd (omega (arith, ap length e, length-append left (c ∷ more)))

empty_is : (text : List ℕ) → is_empty text ≡ true → text ≡ []
empty_is [] e = refl
empty_is (c ∷ text) e = absurd (false≢true e)

none_at_end : piece_of [] ≡ None
unfolding piece_of
none_at_end = refl

no_doctype_done : (s : Standing) (text : List ℕ) → is_done s ≡ true → is_doctype s text ≡ false
no_doctype_done s text is = ap (λ b. b && starts_with nat_eq text (codes "<!DOCTYPE")) (not_false (is_empty s.nodes) (and_first (not (is_empty s.nodes)) (is_empty s.path) is))

finish_done : (whole : Bool) (s : Standing) → is_done s ≡ true → whole ≡ true → finish whole s [] ≡ read s.nodes
unfolding finish
finish_done whole s is w = rw (no_doctype_done s [] is) (rw is (rw w refl))

-- a text that is spelled is read
pub spelled_run : (whole : Bool) (more : List ℕ) → begins is_allowed more ≡ false → whole ≡ is_empty more → (s : Standing) (cut : List ℕ) (nodes : List Node) → list_all is_allowed cut ≡ true → (sp : Spells s (cut ++ more) nodes) → is_shallow s sp.pieces ≡ true
    → run whole s cut ≡ read nodes
spelled_run whole more stop w s cut nodes all sp shallow =
    let f = follows whole more stop sp.pieces s sp.end cut [] all sp.begins shallow in
    let none = empty_is f.left (left_empty f.left more f.rest_is) in
    f.same ∙ ap (run whole sp.end) none ∙ run_end whole sp.end [] none_at_end ∙ finish_done whole sp.end sp.done (w ∙ more_empty f.left more f.rest_is) ∙ ap read (sym sp.same)

-- where a text stops, the reading stops
pub record IsHalted (whole : Bool) (s : Standing) (cut more : List ℕ) (rule : Rule) (rest : List ℕ) : Type 0 where
  pub left : List ℕ
  pub rest_is : rest ≡ left ++ more
  pub same : run whole s cut ≡ halted rule left

finish_not : (whole : Bool) (s : Standing) (text : List ℕ) → is_doctype s text ≡ false → ((is_empty text && is_done s) && whole) ≡ false → finish whole s text ≡ halted NotPomText text
unfolding finish
finish_not whole s text a b = rw a (rw b refl)

finish_whole : (whole : Bool) (s : Standing) (text : List ℕ) → is_doctype s text ≡ false → ((is_empty text && is_done s) && whole) ≡ true → finish whole s text ≡ read s.nodes
unfolding finish
finish_whole whole s text a b = rw a (rw b refl)

finish_doctype : (whole : Bool) (s : Standing) (text : List ℕ) → is_doctype s text ≡ true → finish whole s text ≡ halted Doctype text
unfolding finish
finish_doctype whole s text a = rw a refl

-- neither done nor whole
not_whole : (whole : Bool) (s : Standing) (left more : List ℕ) → whole ≡ is_empty more → (is_empty (left ++ more) && is_done s) ≡ false → ((is_empty left && is_done s) && whole) ≡ false
not_whole whole s [] [] w e = ap (λ b. b && whole) e
not_whole whole s [] (c ∷ more) w e = by (is_done s)
  where
    by : (b : Bool) → (b && whole) ≡ false
    by true = w
    by false = refl
not_whole whole s (c ∷ left) more w e = refl

pub and_first_all : (front behind : List ℕ) → list_all is_allowed (front ++ behind) ≡ true → list_all is_allowed front ≡ true
and_first_all [] behind e = refl
and_first_all (c ∷ front) behind e = both (and_first (is_allowed c) (list_all is_allowed (front ++ behind)) e) (and_first_all front behind (and_second (is_allowed c) (list_all is_allowed (front ++ behind)) e))

-- the end of the longest list is the end of the reading
stuck_run : (whole : Bool) (end : Standing) (left more : List ℕ) → begins is_allowed more ≡ false → whole ≡ is_empty more → list_all is_allowed left ≡ true → GoesNoFurther end (left ++ more) → is_doctype end (left ++ more) ≡ false
    → (is_empty (left ++ more) && is_done end) ≡ false → run whole end left ≡ halted NotPomText left
stuck_run whole end left more stop w all no_more no_doctype open_still = by (piece_of left) refl
  where
    on : (e : Part × List ℕ) → piece_of left ≡ Some e → run whole end left ≡ halted NotPomText left
    on e s =
        let r = piece_splits left e s in
        let whole_all = and_first_all (spelled r.piece) e.1 (sym (ap (list_all is_allowed) r.splits) ∙ all) in
        let none = no_more.none r.piece (e.1 ++ more) (both r.formed whole_all) (ap (λ l. l ++ more) r.splits ∙ append_assoc (spelled r.piece) e.1 more) in
        run_unfit whole end left e s (ap (take_part end) (sym r.says) ∙ sym (grows_so end r.piece r.formed) ∙ none)

    by : (o : Option (Part × List ℕ)) → piece_of left ≡ o → run whole end left ≡ halted NotPomText left
    by None s = run_end whole end left s ∙ finish_not whole end left (sym (doctype_far end left more stop) ∙ no_doctype) (not_whole whole end left more w open_still)
    by (Some e) s = on e s

some_there : (o : Option Standing) → is_some o ≡ true → Standing
some_there (Some s) e = s
some_there None e = absurd (false≢true e)

some_is : (o : Option Standing) (e : is_some o ≡ true) → o ≡ Some (some_there o e)
unfolding some_there
some_is (Some s) e = refl
some_is None e = absurd (false≢true e)

pub stops_run : (whole : Bool) (more : List ℕ) → begins is_allowed more ≡ false → whole ≡ is_empty more → (s : Standing) (cut : List ℕ) {rule : Rule} {rest : List ℕ} → list_all is_allowed cut ≡ true → Stops s (cut ++ more) rule rest → IsHalted whole s cut more rule rest
stops_run whole more stop w s cut all (too_deep pieces end piece behind rest b shallow here is grows deep) =
    let f = follows whole more stop pieces s end cut rest all b shallow in
    let formed = and_first (is_formed piece) (list_all is_allowed (spelled piece)) is in
    let v = within (spelled piece) f.left more behind (and_second (is_formed piece) (list_all is_allowed (spelled piece)) is) stop (sym f.rest_is ∙ here) in
    let reads = ap piece_of v.cut_is ∙ piece_reads piece v.left formed in
    let takes = sym (grows_so end piece formed) ∙ some_is (grow end piece) grows in
    let nested = ap (λ x. length end.path == 64 && x) (sym (element_so piece)) ∙ deep in
    record { left = f.left; rest_is = f.rest_is; same = f.same ∙ run_deep whole end (some_there (grow end piece) grows) f.left (part_of piece, v.left) reads takes nested }
stops_run whole more stop w s cut all (doctype pieces end rest b shallow is) =
    let f = follows whole more stop pieces s end cut rest all b shallow in
    let here = sym (doctype_far end f.left more stop) ∙ ap (is_doctype end) (sym f.rest_is) ∙ is in
    record { left = f.left; rest_is = f.rest_is; same = f.same ∙ run_end whole end f.left (doctype_none end f.left here) ∙ finish_doctype whole end f.left here }
stops_run whole more stop w s cut all (not_text pieces end rest b shallow no_doctype open_still) =
    let f = follows whole more stop pieces s end cut rest all b.begins shallow in
    let no_more = longest_ends pieces s end (cut ++ more) rest b in
    let there : GoesNoFurther end (f.left ++ more) = record { none = λ q x is e. no_more.none q x is (f.rest_is ∙ e) } in
    record {
      left = f.left;
      rest_is = f.rest_is;
      same = f.same ∙ stuck_run whole end f.left more stop w f.allowed there (ap (is_doctype end) (sym f.rest_is) ∙ no_doctype) (ap (λ t. is_empty t && is_done end) (sym f.rest_is) ∙ open_still);
    }

-- what an outcome of the reading says of a text
pub record IsSpelled (s : Standing) (text : List ℕ) (nodes : List Node) : Type 0 where
  pub spells : Spells s text nodes
  pub shallow : is_shallow s spells.pieces ≡ true

abbrev pub Sound : Standing → List ℕ → List ℕ → Outcome → Type 0
Sound s text more (read nodes) = IsSpelled s text nodes
Sound s text more (halted rule left) = Stops s text rule (left ++ more)

begins_nothing : (s : Standing) (text : List ℕ) → Begins s text [] s text
begins_nothing s text = record { splits = refl; whole = refl; stand = refl }

begins_before : (s t e : Standing) (text x r : List ℕ) (p : Piece) (ps : List Piece) → is_piece p ≡ true → grow s p ≡ Some t → text ≡ spelled p ++ x → Begins t x ps e r → Begins s text (p ∷ ps) e r
begins_before s t e text x r p ps is grows here b = record {
  splits = here ∙ ap (λ l. spelled p ++ l) b.splits ∙ sym (append_assoc (spelled p) (flat_map spelled ps) r);
  whole = both is b.whole;
  stand = ap (option_and_then (λ u. grown u ps)) grows ∙ b.stand;
}

shallow_before : (s t : Standing) (p : Piece) (ps : List Piece) → grow s p ≡ Some t → nests s p ≡ false → is_shallow t ps ≡ true → is_shallow s (p ∷ ps) ≡ true
shallow_before s t p ps grows flat shallow = both (ap not flat) (ap (from_there (λ u. is_shallow u ps)) grows ∙ shallow)

stops_before : (s t : Standing) (text x : List ℕ) {rule : Rule} {rest : List ℕ} (p : Piece) → is_piece p ≡ true → grow s p ≡ Some t → nests s p ≡ false → text ≡ spelled p ++ x → Stops t x rule rest → Stops s text rule rest
stops_before s t text x p is grows flat here (too_deep pieces end piece behind rest b shallow e f g h) =
    too_deep (p ∷ pieces) end piece behind rest (begins_before s t end text x rest p pieces is grows here b) (shallow_before s t p pieces grows flat shallow) e f g h
stops_before s t text x p is grows flat here (doctype pieces end rest b shallow e) =
    doctype (p ∷ pieces) end rest (begins_before s t end text x rest p pieces is grows here b) (shallow_before s t p pieces grows flat shallow) e
stops_before s t text x p is grows flat here (not_text pieces end rest b shallow e f) =
    let first = begins_before s t end text x rest p pieces is grows here b.begins in
    let no_more = longest_ends pieces t end x rest b in
    not_text (p ∷ pieces) end rest (record { begins = first; longest = λ others at behind o. no_longer (p ∷ pieces) others s end at text rest behind first no_more o }) (shallow_before s t p pieces grows flat shallow) e f

sound_before : (s t : Standing) (text x more : List ℕ) (p : Piece) (o : Outcome) → is_piece p ≡ true → grow s p ≡ Some t → nests s p ≡ false → text ≡ spelled p ++ x → Sound t x more o → Sound s text more o
sound_before s t text x more p (read nodes) is grows flat here r = record {
  spells = record { pieces = p ∷ r.spells.pieces; end = r.spells.end; begins = begins_before s t r.spells.end text x [] p r.spells.pieces is grows here r.spells.begins; done = r.spells.done; same = r.spells.same };
  shallow = shallow_before s t p r.spells.pieces grows flat r.shallow;
}
sound_before s t text x more p (halted rule left) is grows flat here r = stops_before s t text x p is grows flat here r

-- no piece goes on, if none stands next in what is read
no_further : (s : Standing) (cut more : List ℕ) → begins is_allowed more ≡ false → ((q : Piece) (l : List ℕ) → is_formed q ≡ true → cut ≡ spelled q ++ l → grow s q ≡ None) → GoesNoFurther s (cut ++ more)
no_further s cut more stop none = record { none = λ q x is e. by q x is e }
  where
    by : (q : Piece) (x : List ℕ) → is_piece q ≡ true → cut ++ more ≡ spelled q ++ x → grow s q ≡ None
    by q x is e =
        let w = within (spelled q) cut more x (and_second (is_formed q) (list_all is_allowed (spelled q)) is) stop e in
        none q w.left (and_first (is_formed q) (list_all is_allowed (spelled q)) is) w.cut_is

stuck_here : (s : Standing) (text : List ℕ) → GoesNoFurther s text → is_doctype s text ≡ false → (is_empty text && is_done s) ≡ false → Stops s text NotPomText text
stuck_here s text no_more a b = not_text [] s text (record { begins = begins_nothing s text; longest = λ others at behind o. no_longer [] others s s at text text behind (begins_nothing s text) no_more o }) refl a b

still_open : (whole : Bool) (s : Standing) (cut more : List ℕ) → whole ≡ is_empty more → ((is_empty cut && is_done s) && whole) ≡ false → (is_empty (cut ++ more) && is_done s) ≡ false
still_open whole s [] [] w e = by (is_done s) refl
  where
    by : (b : Bool) → is_done s ≡ b → is_done s ≡ false
    by true d = absurd (false≢true (sym e ∙ both d w))
    by false d = d
still_open whole s [] (c ∷ more) w e = refl
still_open whole s (c ∷ cut) more w e = refl

finish_sound : (whole : Bool) (more : List ℕ) → begins is_allowed more ≡ false → whole ≡ is_empty more → (s : Standing) (cut : List ℕ) → GoesNoFurther s (cut ++ more) → Sound s (cut ++ more) more (finish whole s cut)
finish_sound whole more stop w s cut no_more = by (is_doctype s cut) ((is_empty cut && is_done s) && whole) refl refl
  where
    ended : ((is_empty cut && is_done s) && whole) ≡ true → IsSpelled s (cut ++ more) s.nodes
    ended e =
        let first = and_first (is_empty cut && is_done s) whole e in
        let cut_is = empty_is cut (and_first (is_empty cut) (is_done s) first) in
        let more_is = empty_is more (sym w ∙ and_second (is_empty cut && is_done s) whole e) in
        record { spells = record { pieces = []; end = s; begins = record { splits = ap (λ l. l ++ more) cut_is ∙ more_is; whole = refl; stand = refl }; done = and_second (is_empty cut) (is_done s) first; same = refl }; shallow = refl }

    by : (a b : Bool) → is_doctype s cut ≡ a → ((is_empty cut && is_done s) && whole) ≡ b → Sound s (cut ++ more) more (finish whole s cut)
    by true b e f = subst (Sound s (cut ++ more) more) (sym (finish_doctype whole s cut e)) (doctype [] s (cut ++ more) (begins_nothing s (cut ++ more)) refl (doctype_far s cut more stop ∙ e))
    by false true e f = subst (Sound s (cut ++ more) more) (sym (finish_whole whole s cut e f)) (ended f)
    by false false e f = subst (Sound s (cut ++ more) more) (sym (finish_not whole s cut e f)) (stuck_here s (cut ++ more) no_more (doctype_far s cut more stop ∙ e) (still_open whole s cut more w f))

never_doctype : (s : Standing) (text : List ℕ) (e : Part × List ℕ) → piece_of text ≡ Some e → is_doctype s text ≡ false
never_doctype s text e so = by (is_doctype s text) refl
  where
    by : (b : Bool) → is_doctype s text ≡ b → is_doctype s text ≡ false
    by true d = absurd (none_some e (sym (doctype_none s text d) ∙ so))
    by false d = d

never_ended : (s : Standing) (cut more : List ℕ) (e : Part × List ℕ) → piece_of cut ≡ Some e → (is_empty (cut ++ more) && is_done s) ≡ false
never_ended s [] more e so = absurd (none_some e (sym none_at_end ∙ so))
never_ended s (c ∷ cut) more e so = refl

-- where a part may not stand, no piece goes on
unfit_further : (s : Standing) (cut : List ℕ) (e : Part × List ℕ) → piece_of cut ≡ Some e → take_part s e.0 ≡ None → (q : Piece) (l : List ℕ) → is_formed q ≡ true → cut ≡ spelled q ++ l → grow s q ≡ None
unfit_further s cut e so none q l is here =
    let same = same_some (part_of q, l) e (sym (ap piece_of here ∙ piece_reads q l is) ∙ so) in
    grows_so s q is ∙ ap (λ x. take_part s x.0) same ∙ none

none_further : (s : Standing) (cut : List ℕ) → piece_of cut ≡ None → (q : Piece) (l : List ℕ) → is_formed q ≡ true → cut ≡ spelled q ++ l → grow s q ≡ None
none_further s cut none q l is here = absurd (none_some (part_of q, l) (sym none ∙ ap piece_of here ∙ piece_reads q l is))

-- what the reading comes to
go_sound : (whole : Bool) (more : List ℕ) → begins is_allowed more ≡ false → (further : Standing → List ℕ → Outcome) (s : Standing) (cut : List ℕ) (e : Part × List ℕ) (p : Piece) → piece_of cut ≡ Some e → is_piece p ≡ true → part_of p ≡ e.0
    → cut ≡ spelled p ++ e.1 → ((t : Standing) → Sound t (e.1 ++ more) more (further t e.1)) → (o : Option Standing) → take_part s e.0 ≡ o → Sound s (cut ++ more) more (go whole further s cut e o)
go_sound whole more stop further s cut e p so is says here next None none =
    stuck_here s (cut ++ more) (no_further s cut more stop (unfit_further s cut e so none)) (doctype_far s cut more stop ∙ never_doctype s cut e so) (never_ended s cut more e so)
go_sound whole more stop further s cut e p so is says here next (Some t) some = by (length s.path == 64 && begins_element e.0) refl
  where
    formed : is_formed p ≡ true
    formed = and_first (is_formed p) (list_all is_allowed (spelled p)) is

    grows : grow s p ≡ Some t
    grows = grows_so s p formed ∙ ap (take_part s) says ∙ some

    nested : nests s p ≡ (length s.path == 64 && begins_element e.0)
    nested = ap (λ x. length s.path == 64 && x) (element_so p ∙ ap begins_element says)

    splits : cut ++ more ≡ spelled p ++ (e.1 ++ more)
    splits = ap (λ l. l ++ more) here ∙ append_assoc (spelled p) e.1 more

    by : (b : Bool) → (length s.path == 64 && begins_element e.0) ≡ b → Sound s (cut ++ more) more (if b then halted TooLarge cut else further t e.1)
    by true d = too_deep [] s p (e.1 ++ more) (cut ++ more) (begins_nothing s (cut ++ more)) refl splits is (ap is_some grows) (nested ∙ d)
    by false d = sound_before s t (cut ++ more) (e.1 ++ more) more p (further t e.1) is grows (nested ∙ d) splits (next t)

pub all_after : (front behind : List ℕ) → list_all is_allowed (front ++ behind) ≡ true → list_all is_allowed behind ≡ true
all_after [] behind e = e
all_after (c ∷ front) behind e = all_after front behind (and_second (is_allowed c) (list_all is_allowed (front ++ behind)) e)

run_sound_within : (whole : Bool) (more : List ℕ) → begins is_allowed more ≡ false → whole ≡ is_empty more → (fuel : ℕ) (s : Standing) (cut : List ℕ) → length cut ≤ fuel → list_all is_allowed cut ≡ true → Sound s (cut ++ more) more (run_within whole fuel s cut)
run_sound_within whole more stop w zero s [] room all = finish_sound whole more stop w s [] (no_further s [] more stop (none_further s [] none_at_end))
run_sound_within whole more stop w zero s (c ∷ cut) room all = absurd (omega (arith, room))
run_sound_within whole more stop w (suc fuel) s cut room all = by (run_sound_within whole more stop w fuel) (piece_of cut) refl
  where
    by : ((t : Standing) (rest : List ℕ) → length rest ≤ fuel → list_all is_allowed rest ≡ true → Sound t (rest ++ more) more (run_within whole fuel t rest)) → (o : Option (Part × List ℕ)) → piece_of cut ≡ o
        → Sound s (cut ++ more) more (turn whole (run_within whole fuel) s cut o)
    by further None e = finish_sound whole more stop w s cut (no_further s cut more stop (none_further s cut e))
    by further (Some x) e =
        let r = piece_splits cut x e in
        let parted = sym (ap (list_all is_allowed) r.splits) ∙ all in
        let low = piece_shorter cut x e in
        go_sound whole more stop (run_within whole fuel) s cut x r.piece e (both r.formed (and_first_all (spelled r.piece) x.1 parted)) r.says r.splits
        (λ t. further t x.1 (omega (arith, low, room)) (all_after (spelled r.piece) x.1 parted)) (take_part s x.0) refl

pub run_sound : (whole : Bool) (more : List ℕ) → begins is_allowed more ≡ false → whole ≡ is_empty more → (s : Standing) (cut : List ℕ) → list_all is_allowed cut ≡ true → Sound s (cut ++ more) more (run whole s cut)
unfolding run
run_sound whole more stop w s cut all = run_sound_within whole more stop w (length cut) s cut (omega arith) all

-- A run of characters at once.
use Rattle.std.proofs.Common.{◌≡◌, ℕ, zero, suc, ◌+◌, ◌<◌, ◌≤◌, Bool, true, false, not, ◌&&◌, ◌==◌, List, [], ◌∷◌, ◌++◌, length, drop, Option, Some, None, option_and_then, refl, sym, ap, ◌∙◌, arith, append_assoc, append-nil, length-append, if◌then◌else◌}
use Rattle.std.proofs.lemmas.Bool.{and_parts, and_right, false≢true, not-true}
use Rattle.std.proofs.lemmas.Str.{encodes-append}
use Rattle.std.specs.List.{list_all, prefix_len}
use Rattle.std.specs.Str.{encode_utf8_all}
use Rattle.mvn_base.specs.declared.rule.Rule.TheVariants.{NotPomText}
use Rattle.pom_text.specs.declared.node.Node.{Node}
use Rattle.pom_text.specs.Characters.{is_space}
use Rattle.pom_text.specs.Growth.{fitting, take_part}
use Rattle.pom_text.specs.Parts.{Character, line_part, lines, is_empty}
use Rattle.pom_text.specs.Reads.{begins, piece_of, skip_space}
use Rattle.pom_text.specs.Running.{halted, run}
use Rattle.pom_text.specs.Lent.{IsRunOf, is_run, unfed}
use Rattle.pom_text.specs.Runs.{grown_run}
use Rattle.pom_text.specs.Tree.{Standing, add_text, changed, in_innermost, innermost, passed, with_text}
use Rattle.pom_text.proofs.Fronts.{none_some, same_some}
use Rattle.pom_text.proofs.Runs.{length_changed, run_more, run_unfit}

-- what a character of a run is not
record IsApart (c : ℕ) : Type 0 where
  pub mark : (c == 60) ≡ false
  pub reference : (c == 38) ≡ false
  pub returns : (c == 13) ≡ false

apart : (c : ℕ) → is_run c ≡ true → IsApart c
unfolding is_run
apart c is =
    let outer = and_parts (not (c == 60) && not (c == 38)) (not (c == 13)) is in
    let inner = and_parts (not (c == 60)) (not (c == 38)) outer.0 in
    record { mark = not-true (c == 60) inner.0; reference = not-true (c == 38) inner.1; returns = not-true (c == 13) outer.1 }

run_piece : (c : ℕ) (text : List ℕ) → is_run c ≡ true → piece_of (c ∷ text) ≡ Some (Character c, text)
unfolding piece_of
run_piece c text is = rw ((apart c is).mark, (apart c is).reference) refl

run_one : (whole : Bool) (s t : Standing) (c : ℕ) (text : List ℕ) → is_run c ≡ true → take_part s (Character c) ≡ Some t → run whole s (c ∷ text) ≡ run whole t text
run_one whole s t c text is some = run_more whole s t (c ∷ text) (Character c, text) (run_piece c text is) some (and_right (length s.path == 64) false refl)

-- where a run may stand, the reading goes on behind it
pub run_run : (whole : Bool) (s t : Standing) (cs rest : List ℕ) → list_all is_run cs ≡ true → grown_run s cs ≡ Some t → run whole s (cs ++ rest) ≡ run whole t rest
run_run whole s t [] rest all so = ap (λ u. run whole u rest) (same_some s t so)
run_run whole s t (c ∷ cs) rest all so = by (take_part s (Character c)) refl (λ u. run_run whole u t cs rest parts.1)
  where
    parts : (is_run c ≡ true) × (list_all is_run cs ≡ true)
    parts = and_parts (is_run c) (list_all is_run cs) all

    by : (o : Option Standing) → take_part s (Character c) ≡ o → ((u : Standing) → grown_run u cs ≡ Some t → run whole u (cs ++ rest) ≡ run whole t rest) → run whole s (c ∷ cs ++ rest) ≡ run whole t rest
    by None none further = absurd (none_some t (sym (ap (option_and_then (λ u. grown_run u cs)) none) ∙ so))
    by (Some u) some further = run_one whole s u c (cs ++ rest) parts.0 some ∙ further u (sym (ap (option_and_then (λ x. grown_run x cs)) some) ∙ so)

-- in an element a run is its lines
twice : (xs ys : List ℕ) (k : ℕ) (nodes : List Node) → changed (add_text ys) k (changed (add_text xs) k nodes) ≡ changed (add_text (xs ++ ys)) k nodes
twice xs ys k [] = refl
twice xs ys zero (node ∷ nodes) = ap (λ l. record { name = node.name; attributes = node.attributes; text = l; children = node.children } ∷ nodes) (append_assoc node.text xs ys)
twice xs ys (suc k) (node ∷ nodes) = ap (λ l. node ∷ l) (twice xs ys k nodes)

none_more : (k : ℕ) (nodes : List Node) → nodes ≡ changed (add_text []) k nodes
none_more k [] = refl
none_more zero (node ∷ nodes) = ap (λ l. record { name = node.name; attributes = node.attributes; text = l; children = node.children } ∷ nodes) (sym (append-nil node.text))
none_more (suc k) (node ∷ nodes) = ap (λ l. node ∷ l) (none_more k nodes)

abbrev pub is_returned : Bool → List ℕ → Bool
is_returned returned [] = returned
is_returned returned (c ∷ cs) = is_returned (c == 13) cs

taken : (s : Standing) (k d : ℕ) → innermost s.path ≡ Some k → take_part s (Character d) ≡ Some (record { nodes = changed (add_text (encode_utf8_all (line_part s.returned d))) k s.nodes; path = s.path; returned = d == 13 })
unfolding take_part with_text
taken s k d here = ap (λ o. in_innermost (line_part s.returned d) (d == 13) s o (if is_space d then Some (passed s) else None)) here

grown_within : (s : Standing) (k : ℕ) (cs : List ℕ) → innermost s.path ≡ Some k
    → grown_run s cs ≡ Some (record { nodes = changed (add_text (encode_utf8_all (lines s.returned cs))) k s.nodes; path = s.path; returned = is_returned s.returned cs })
grown_within s k [] here = ap (λ n. Some (record { nodes = n; path = s.path; returned = s.returned })) (none_more k s.nodes)
grown_within s k (c ∷ cs) here =
    let t : Standing = record { nodes = changed (add_text (encode_utf8_all (line_part s.returned c))) k s.nodes; path = s.path; returned = c == 13 } in
    ap (option_and_then (λ u. grown_run u cs)) (taken s k c here) ∙ grown_within t k cs here
    ∙ ap (λ n. Some (record { nodes = n; path = s.path; returned = is_returned (c == 13) cs }))
    (twice (encode_utf8_all (line_part s.returned c)) (encode_utf8_all (lines (c == 13) cs)) k s.nodes
    ∙ ap (λ l. changed (add_text l) k s.nodes) (sym (encodes-append (line_part s.returned c) (lines (c == 13) cs))))

-- where no carriage return is, lines are the characters but for a line feed at the front
abbrev pub has_no_return : List ℕ → Bool
has_no_return cs = list_all (λ c. not (c == 13)) cs

line_same : (c : ℕ) → (c == 13) ≡ false → line_part false c ≡ c ∷ []
unfolding line_part
line_same c at = rw at refl

line_unfed : (c : ℕ) → (c == 13) ≡ false → line_part true c ≡ (if c == 10 then [] else c ∷ [])
unfolding line_part
line_unfed c at = rw at refl

lines_same : (cs : List ℕ) → has_no_return cs ≡ true → lines false cs ≡ cs
lines_same [] at = refl
lines_same (c ∷ cs) at =
    let parts = and_parts (not (c == 13)) (has_no_return cs) at in
    let here = not-true (c == 13) parts.0 in
    ap (λ l. l ++ lines (c == 13) cs) (line_same c here) ∙ ap (λ b. c ∷ lines b cs) here ∙ ap (λ l. c ∷ l) (lines_same cs parts.1)

pub lines_unfed : (returned : Bool) (cs : List ℕ) → has_no_return cs ≡ true → lines returned cs ≡ unfed returned cs
lines_unfed false cs at = lines_same cs at
lines_unfed true [] at = refl
lines_unfed true (c ∷ cs) at =
    let parts = and_parts (not (c == 13)) (has_no_return cs) at in
    let here = not-true (c == 13) parts.0 in
    ap (λ l. l ++ lines (c == 13) cs) (line_unfed c here) ∙ ap (λ b. (if c == 10 then [] else c ∷ []) ++ lines b cs) here
    ∙ ap (λ l. (if c == 10 then [] else c ∷ []) ++ l) (lines_same cs parts.1) ∙ by (c == 10)
  where
    by : (b : Bool) → (if b then [] else c ∷ []) ++ cs ≡ (if b then cs else c ∷ cs)
    by true = refl
    by false = refl

run_no_return : (cs : List ℕ) → list_all is_run cs ≡ true → has_no_return cs ≡ true
run_no_return [] all = refl
run_no_return (c ∷ cs) all =
    let parts = and_parts (is_run c) (list_all is_run cs) all in
    ap (λ b. not b && has_no_return cs) (apart c parts.0).returns ∙ run_no_return cs parts.1

pub run_lines : (returned : Bool) (cs : List ℕ) → list_all is_run cs ≡ true → lines returned cs ≡ unfed returned cs
run_lines returned cs all = lines_unfed returned cs (run_no_return cs all)

not_returned : (returned : Bool) (cs : List ℕ) → list_all is_run cs ≡ true → 0 < length cs → is_returned returned cs ≡ false
not_returned returned [] all some = absurd (omega (arith, some))
not_returned returned (c ∷ []) all some = (apart c (and_parts (is_run c) true all).0).returns
not_returned returned (c ∷ d ∷ cs) all some = not_returned (c == 13) (d ∷ cs) (and_parts (is_run c) (list_all is_run (d ∷ cs)) all).1 (omega arith)

pub grown_inside : (s : Standing) (k : ℕ) (cs : List ℕ) (nodes : List Node) (path : List ℕ) → innermost s.path ≡ Some k → list_all is_run cs ≡ true → 0 < length cs
    → nodes ≡ changed (add_text (encode_utf8_all (unfed s.returned cs))) k s.nodes → path ≡ s.path → grown_run s cs ≡ Some (record { nodes = nodes; path = path; returned = false })
grown_inside s k cs nodes path here all some grown kept =
    grown_within s k cs here
    ∙ ap (λ b. Some (record { nodes = changed (add_text (encode_utf8_all (lines s.returned cs))) k s.nodes; path = s.path; returned = b })) (not_returned s.returned cs all some)
    ∙ ap (λ p. Some (record { nodes = changed (add_text (encode_utf8_all (lines s.returned cs))) k s.nodes; path = p; returned = false })) (sym kept)
    ∙ ap (λ l. Some (record { nodes = changed (add_text (encode_utf8_all l)) k s.nodes; path = path; returned = false })) (run_lines s.returned cs all)
    ∙ ap (λ n. Some (record { nodes = n; path = path; returned = false })) (sym grown)

-- outside the root it may stand where it is white space
taken_outside : (s : Standing) (d : ℕ) → innermost s.path ≡ None → take_part s (Character d) ≡ (if is_space d then Some (passed s) else None)
unfolding take_part with_text
taken_outside s d here = ap (λ o. in_innermost (line_part s.returned d) (d == 13) s o (if is_space d then Some (passed s) else None)) here

abbrev pub if_space : Bool → Standing → Option Standing
if_space true s = Some s
if_space false s = None

grown_without : (s : Standing) (cs : List ℕ) → innermost s.path ≡ None → grown_run (passed s) cs ≡ if_space (list_all is_space cs) (passed s)
grown_without s [] here = refl
grown_without s (c ∷ cs) here = ap (option_and_then (λ u. grown_run u cs)) (taken_outside (passed s) c here) ∙ by (is_space c) (grown_without s cs here)
  where
    by : (b : Bool) → grown_run (passed s) cs ≡ if_space (list_all is_space cs) (passed s)
        → option_and_then (λ u. grown_run u cs) (if b then Some (passed s) else None) ≡ if_space (b && list_all is_space cs) (passed s)
    by true further = further
    by false further = refl

pub grown_outside : (s : Standing) (cs : List ℕ) → innermost s.path ≡ None → 0 < length cs → grown_run s cs ≡ if_space (list_all is_space cs) (passed s)
grown_outside s [] here some = absurd (omega (arith, some))
grown_outside s (c ∷ cs) here some = ap (option_and_then (λ u. grown_run u cs)) (taken_outside s c here) ∙ by (is_space c) (grown_without s cs here)
  where
    by : (b : Bool) → grown_run (passed s) cs ≡ if_space (list_all is_space cs) (passed s)
        → option_and_then (λ u. grown_run u cs) (if b then Some (passed s) else None) ≡ if_space (b && list_all is_space cs) (passed s)
    by true further = further
    by false further = refl

-- where it may not stand, the reading stops at its first character that is no white space
skips_one : (c : ℕ) (text : List ℕ) → is_space c ≡ true → skip_space (c ∷ text) ≡ skip_space text
unfolding skip_space
skips_one c text is =
    let one : 1 + prefix_len is_space text ≡ suc (prefix_len is_space text) = omega arith in
    ap (λ b. drop (if b then 1 + prefix_len is_space text else 0) (c ∷ text)) is ∙ ap (λ k. drop k (c ∷ text)) one

skips_none : (c : ℕ) (text : List ℕ) → is_space c ≡ false → skip_space (c ∷ text) ≡ c ∷ text
unfolding skip_space
skips_none c text is = ap (λ b. drop (if b then 1 + prefix_len is_space text else 0) (c ∷ text)) is

halts_outside : (whole : Bool) (s : Standing) (cs rest : List ℕ) → innermost s.path ≡ None → list_all is_run cs ≡ true → grown_run s cs ≡ None → run whole s (cs ++ rest) ≡ halted NotPomText (skip_space (cs ++ rest))
halts_outside whole s [] rest here all none = absurd (none_some s (sym none))
halts_outside whole s (c ∷ cs) rest here all none = by (is_space c) refl (halts_outside whole (passed s) cs rest here parts.1)
  where
    parts : (is_run c ≡ true) × (list_all is_run cs ≡ true)
    parts = and_parts (is_run c) (list_all is_run cs) all

    by : (b : Bool) → is_space c ≡ b → (grown_run (passed s) cs ≡ None → run whole (passed s) (cs ++ rest) ≡ halted NotPomText (skip_space (cs ++ rest))) → run whole s (c ∷ cs ++ rest) ≡ halted NotPomText (skip_space (c ∷ cs ++ rest))
    by true e further =
        let some = taken_outside s c here ∙ ap (λ b. if b then Some (passed s) else None) e in
        run_one whole s (passed s) c (cs ++ rest) parts.0 some
        ∙ further (sym (ap (option_and_then (λ u. grown_run u cs)) some) ∙ none)
        ∙ ap (halted NotPomText) (sym (skips_one c (cs ++ rest) e))
    by false e further =
        let nowhere = taken_outside s c here ∙ ap (λ b. if b then Some (passed s) else None) e in
        run_unfit whole s (c ∷ cs ++ rest) (Character c, cs ++ rest) (run_piece c (cs ++ rest) parts.0) nowhere
        ∙ ap (halted NotPomText) (sym (skips_none c (cs ++ rest) e))

pub run_halts : (whole : Bool) (s : Standing) (cs rest : List ℕ) → list_all is_run cs ≡ true → grown_run s cs ≡ None → run whole s (cs ++ rest) ≡ halted NotPomText (skip_space (cs ++ rest))
run_halts whole s cs rest all none = by (innermost s.path) refl
  where
    by : (o : Option ℕ) → innermost s.path ≡ o → run whole s (cs ++ rest) ≡ halted NotPomText (skip_space (cs ++ rest))
    by None here = halts_outside whole s cs rest here all none
    by (Some k) here =
        let t : Standing = record { nodes = changed (add_text (encode_utf8_all (lines s.returned cs))) k s.nodes; path = s.path; returned = is_returned s.returned cs } in
        absurd (none_some t (sym none ∙ grown_within s k cs here))

-- the reading at a text that is cut behind its run
pub goes_on : (whole : Bool) (s t : Standing) (text cs rest : List ℕ) → IsRunOf text cs rest → grown_run s cs ≡ Some t → run whole s text ≡ run whole t rest
goes_on whole s t text cs rest cut so = ap (run whole s) cut.splits ∙ run_run whole s t cs rest cut.all so

pub halts_there : (whole : Bool) (s : Standing) (text cs rest : List ℕ) → IsRunOf text cs rest → grown_run s cs ≡ None → run whole s text ≡ halted NotPomText (skip_space text)
halts_there whole s text cs rest cut none = ap (run whole s) cut.splits ∙ run_halts whole s cs rest cut.all none ∙ ap (λ t. halted NotPomText (skip_space t)) (sym cut.splits)

-- a run begins no element
few_without : (b : Bool) (s t : Standing) → if_space b (passed s) ≡ Some t → length t.nodes ≡ length s.nodes
few_without true s t so = ap (λ u. length u.nodes) (sym (same_some (passed s) t so))
few_without false s t so = absurd (none_some t so)

pub same_count : (s t : Standing) (cs : List ℕ) → grown_run s cs ≡ Some t → length t.nodes ≡ length s.nodes
same_count s t [] so = ap (λ u. length u.nodes) (sym (same_some s t so))
same_count s t (c ∷ cs) so = by (innermost s.path) refl
  where
    by : (o : Option ℕ) → innermost s.path ≡ o → length t.nodes ≡ length s.nodes
    by None here = few_without (list_all is_space (c ∷ cs)) s t (sym (grown_outside s (c ∷ cs) here (omega arith)) ∙ so)
    by (Some k) here =
        let u : Standing = record { nodes = changed (add_text (encode_utf8_all (lines s.returned (c ∷ cs)))) k s.nodes; path = s.path; returned = is_returned s.returned (c ∷ cs) } in
        ap (λ x. length x.nodes) (sym (same_some u t (sym (grown_within s k (c ∷ cs) here) ∙ so))) ∙ length_changed (add_text (encode_utf8_all (lines s.returned (c ∷ cs)))) k s.nodes

pub few_behind : (s t : Standing) (text cs rest : List ℕ) (total : ℕ) → IsRunOf text cs rest → grown_run s cs ≡ Some t → length s.nodes + length text ≤ total → length t.nodes + length rest ≤ total
few_behind s t text cs rest total cut so few = omega (arith, same_count s t cs so, ap length cut.splits, length-append cs rest, few)

pub shorter_behind : (text cs rest : List ℕ) → IsRunOf text cs rest → length rest ≤ length text
shorter_behind text cs rest cut = omega (arith, ap length cut.splits, length-append cs rest)

-- what is left of a run that is white space
no_space_skipped : true ≡ is_empty (skip_space [])
unfolding skip_space
no_space_skipped = refl

space_all : (text : List ℕ) → list_all is_space text ≡ is_empty (skip_space text)
space_all [] = no_space_skipped
space_all (c ∷ text) = by (is_space c) refl (space_all text)
  where
    by : (b : Bool) → is_space c ≡ b → list_all is_space text ≡ is_empty (skip_space text) → list_all is_space (c ∷ text) ≡ is_empty (skip_space (c ∷ text))
    by true e further = ap (λ b. b && list_all is_space text) e ∙ further ∙ ap is_empty (sym (skips_one c text e))
    by false e further = ap (λ b. b && list_all is_space text) e ∙ ap is_empty (sym (skips_none c text e))

fits_outside : (b : Bool) (s : Standing) → fitting b s ≡ if_space b s
fits_outside true s = refl
fits_outside false s = refl

pub empty_run : (s : Standing) (run : List ℕ) → is_empty run ≡ true → Some s ≡ grown_run s run
empty_run s [] none = refl
empty_run s (c ∷ run) none = absurd (false≢true none)

pub some_run : (run : List ℕ) → is_empty run ≡ false → 0 < length run
some_run [] some = absurd (false≢true (sym some))
some_run (c ∷ run) some = omega arith

pub outside_run : (s : Standing) (run rest : List ℕ) (fits : Bool) → is_empty run ≡ false → innermost s.path ≡ None → rest ≡ skip_space run → fits ≡ is_empty rest → fitting fits (passed s) ≡ grown_run s run
outside_run s run rest fits some here behind is =
    fits_outside fits (passed s) ∙ ap (λ b. if_space b (passed s)) (is ∙ ap is_empty behind ∙ sym (space_all run)) ∙ sym (grown_outside s run here (some_run run some))

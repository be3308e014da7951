-- The step by step answer is what the definitions say, and the other way round.
use Rattle.std.proofs.Common.{◌≡◌, ◌↔◌, ℕ, ◌+◌, ◌-◌, ◌<◌, ◌≤◌, Bool, true, false, nat_lt, List, [], ◌++◌, flat_map, length, take, drop, Option, Some, None, Result, Ok, Err, refl, sym, ap, subst, ◌∙◌, arith, append_assoc, length-append, if◌then◌else◌}
use Rattle.std.proofs.lemmas.Bool.Decides.{nat_tests}
use Rattle.std.specs.List.{list_all, prefix_len}
use Rattle.mvn_base.specs.Limits.{pom_limit}
use Rattle.mvn_base.specs.declared.rule.Rule.{Rule}
use Rattle.mvn_base.specs.declared.rule.Rule.TheVariants.{NotPomText, TooLarge}
use Rattle.pom_text.specs.declared.encoding.Encoding as encoding_type
use Rattle.pom_text.specs.declared.fault.TextFault.{TextFault}
use Rattle.pom_text.specs.declared.fault.TextFault.TheVariants.{Refused, Memory}
use Rattle.pom_text.specs.declared.node.Node.{Node}
use Rattle.pom_text.specs.declared.node.PomText.{PomText}
use Rattle.pom_text.specs.Answers.{Agrees, Answer, answer, decoded_answer, encoding_answer, opened, placed, text_answer}
use Rattle.pom_text.specs.Characters.{is_allowed}
use Rattle.pom_text.specs.Encodings.{Opens, behind_mark, chosen, declared, decoded, encoded, mark_len, undeclared}
use Rattle.pom_text.specs.Grammar.{declaration, spelled}
use Rattle.pom_text.specs.Openings.{named_encoding, opening}
use Rattle.pom_text.specs.Reads.{begins}
use Rattle.pom_text.specs.Running.{Outcome, halted, read, run}
use Rattle.pom_text.specs.Runs.{EndsWith, HasFront}
use Rattle.pom_text.specs.Spells.{Begins, Spells, Stops, doctype, not_text, too_deep}
use Rattle.pom_text.specs.Texts.{AreElements, HasEncoding, IsAnswered, IsDecoded, IsRefusal, IsText, Refuses, SpellsElements, bad_declaration, not_encoded, stops, too_long, unknown_encoding}
use Rattle.pom_text.specs.Parts.{is_empty}
use Rattle.pom_text.specs.Tree.{nothing_yet}
use Rattle.pom_text.proofs.Bounds.{ok_err, same_err, same_ok}
use Rattle.pom_text.proofs.Chains.{one_end}
use Rattle.pom_text.proofs.Ends.{Sound, run_sound, spelled_run, stops_run}
use Rattle.pom_text.proofs.Fronts.{run_all, run_splits, same_some, take_front}
use Rattle.pom_text.proofs.Opens.{IsUnopened, body_allowed, names_once, names_so, opened_so, opens_so, unopened_once, unopened_so}
use Rattle.pom_text.proofs.RunCuts.{run_stops}

-- an answer is right
abbrev pub Right : List ℕ → Answer → Type 0
Right bytes (Ok nodes) = IsText bytes nodes
Right bytes (Err e) = Refuses bytes e.0 e.1

-- a text that is cut at the first character that may not stand in one
unfoldable pub cut_of : List ℕ → List ℕ
cut_of text = take (prefix_len is_allowed text) text

unfoldable pub more_of : List ℕ → List ℕ
more_of text = drop (prefix_len is_allowed text) text

cut_splits : (text : List ℕ) → text ≡ cut_of text ++ more_of text
unfolding cut_of more_of
cut_splits text = run_splits is_allowed text

cut_allowed : (text : List ℕ) → list_all is_allowed (cut_of text) ≡ true
unfolding cut_of
cut_allowed text = run_all is_allowed text

cut_stops : (text : List ℕ) → begins is_allowed (more_of text) ≡ false
unfolding more_of
cut_stops text = run_stops is_allowed text

cut_answer : (mark : ℕ) (encoding : encoding_type.Encoding) (text : List ℕ) → text_answer mark encoding text ≡ opened mark encoding text (more_of text) (opening (cut_of text))
unfolding text_answer cut_of more_of
cut_answer mark encoding text = refl

-- what stands before a rest
behind_opening : (text : List ℕ) {body : List ℕ} → Opens text body → HasFront text body
behind_opening text (declared attributes space body is all splits) = record { front = declaration attributes space; here = splits }
behind_opening text (undeclared none) = record { front = []; here = refl }

behind_stop : (text : List ℕ) {rule : Rule} {rest : List ℕ} → Stops nothing_yet text rule rest → HasFront text rest
behind_stop text (too_deep pieces end piece behind rest b shallow here is grows deep) = record { front = flat_map spelled pieces; here = b.splits }
behind_stop text (doctype pieces end rest b shallow is) = record { front = flat_map spelled pieces; here = b.splits }
behind_stop text (not_text pieces end rest b shallow no_doctype open_still) = record { front = flat_map spelled pieces; here = b.begins.splits }

placed_front : (text front left more : List ℕ) → text ≡ front ++ (left ++ more) → take (length text - length more - length left) text ≡ front
placed_front text front left more here =
    let long : length text - length more - length left ≡ length front = omega (arith, ap length here, length-append front (left ++ more), length-append left more) in
    ap (λ k. take k text) long ∙ ap (take (length front)) here ∙ take_front front (left ++ more)

-- what is not read stands at the end
pub ends_so : (text body : List ℕ) (o : Outcome) → opening (cut_of text) ≡ Some body → run (is_empty (more_of text)) nothing_yet body ≡ o → EndsWith text (more_of text) o
ends_so text body (read nodes) opens so = record {}
ends_so text body (halted rule left) opens so =
    let cut = cut_of text in
    let more = more_of text in
    let behind = subst (λ t. Opens t (body ++ more)) (sym (cut_splits text)) (opens_so cut more body (cut_allowed text) (cut_stops text) opens) in
    let sound = subst (Sound nothing_yet (body ++ more) more) so (run_sound (is_empty more) more (cut_stops text) refl nothing_yet body (body_allowed cut body (cut_allowed text) opens)) in
    let a = behind_opening text behind in
    let b = behind_stop (body ++ more) sound in
    record { front = a.front ++ b.front; here = a.here ∙ ap (λ l. a.front ++ l) b.here ∙ sym (append_assoc a.front b.front (left ++ more)) }

pub ends_there : (text cut more body : List ℕ) (o : Outcome) → cut ≡ take (prefix_len is_allowed text) text → more ≡ drop (prefix_len is_allowed text) text → opening cut ≡ Some body → o ≡ run (is_empty more) nothing_yet body → EndsWith text more o
unfolding cut_of more_of
ends_there text cut more body o c m opens so =
    subst (λ l. EndsWith text l o) (sym m) (ends_so text body o (ap opening (sym c) ∙ opens) (ap (λ l. run (is_empty l) nothing_yet body) (sym m) ∙ sym so))

-- the answer of a text, by its parts
pub answer_so : (mark : ℕ) (encoding : encoding_type.Encoding) (text cut more body : List ℕ) (o : Outcome) → cut ≡ take (prefix_len is_allowed text) text → more ≡ drop (prefix_len is_allowed text) text → opening cut ≡ Some body
    → o ≡ run (is_empty more) nothing_yet body → placed mark encoding text (length more) o ≡ text_answer mark encoding text
unfolding text_answer
answer_so mark encoding text cut more body o c m opens so =
    ap (placed mark encoding text (length more)) so ∙ sym (ap (opened mark encoding text more) opens)
    ∙ ap (λ l. opened mark encoding text more (opening l)) c ∙ ap (λ l. opened mark encoding text l (opening (take (prefix_len is_allowed text) text))) m

pub no_answer_so : (mark : ℕ) (encoding : encoding_type.Encoding) (text cut : List ℕ) → cut ≡ take (prefix_len is_allowed text) text → opening cut ≡ None → (let a : Answer = Err (NotPomText, mark) in a) ≡ text_answer mark encoding text
unfolding text_answer
no_answer_so mark encoding text cut c opens =
    let more = drop (prefix_len is_allowed text) text in
    sym (ap (opened mark encoding text more) opens) ∙ ap (λ l. opened mark encoding text more (opening l)) c

-- what is answered is right
outcome_right : (bytes : List ℕ) (encoding : encoding_type.Encoding) (text body more : List ℕ) → length bytes ≤ pom_limit → IsDecoded bytes encoding text → Opens text (body ++ more) → (o : Outcome) → Sound nothing_yet (body ++ more) more o
    → Right bytes (placed (mark_len bytes) encoding text (length more) o)
outcome_right bytes encoding text body more short decodes opens (read nodes) s =
    record { elements = record { encoding = encoding; text = text; body = body ++ more; decodes = decodes; opens = opens; spells = s.spells }; short = short; shallow = s.shallow }
outcome_right bytes encoding text body more short decodes opens (halted rule left) s =
    let a = behind_opening text opens in
    let b = behind_stop (body ++ more) s in
    let here = a.here ∙ ap (λ l. a.front ++ l) b.here ∙ sym (append_assoc a.front b.front (left ++ more)) in
    subst (λ l. Refuses bytes rule (mark_len bytes + length (encoded encoding l))) (sym (placed_front text (a.front ++ b.front) left more here))
    (stops encoding text (body ++ more) (a.front ++ b.front) (left ++ more) rule short decodes opens s here)

opened_right : (bytes : List ℕ) (encoding : encoding_type.Encoding) (text : List ℕ) → length bytes ≤ pom_limit → IsDecoded bytes encoding text → (o : Option (List ℕ)) → opening (cut_of text) ≡ o
    → Right bytes (opened (mark_len bytes) encoding text (more_of text) o)
opened_right bytes encoding text short decodes (Some body) e =
    let cut = cut_of text in
    let more = more_of text in
    let opens = subst (λ t. Opens t (body ++ more)) (sym (cut_splits text)) (opens_so cut more body (cut_allowed text) (cut_stops text) e) in
    let sound = run_sound (is_empty more) more (cut_stops text) refl nothing_yet body (body_allowed cut body (cut_allowed text) e) in
    outcome_right bytes encoding text body more short decodes opens (run (is_empty more) nothing_yet body) sound
opened_right bytes encoding text short decodes None e =
    let u = subst IsUnopened (sym (cut_splits text)) (unopened_so (cut_of text) (more_of text) (cut_stops text) e) in
    bad_declaration encoding text short decodes u.announced u.never

decoded_right : (bytes : List ℕ) (encoding : encoding_type.Encoding) → length bytes ≤ pom_limit → HasEncoding bytes (Ok encoding) → (r : Result (List ℕ) ℕ) → decoded encoding (behind_mark bytes) ≡ r → Right bytes (decoded_answer (mark_len bytes) encoding r)
decoded_right bytes encoding short has (Ok text) e =
    subst (Right bytes) (sym (cut_answer (mark_len bytes) encoding text)) (opened_right bytes encoding text short (record { has = has; text_is = e }) (opening (cut_of text)) refl)
decoded_right bytes encoding short has (Err place) e = not_encoded encoding place short has e

encoding_right : (bytes : List ℕ) → length bytes ≤ pom_limit → (r : Result encoding_type.Encoding ℕ) → chosen (named_encoding (behind_mark bytes)) ≡ r → Right bytes (encoding_answer (mark_len bytes) (behind_mark bytes) r)
encoding_right bytes short (Ok encoding) e =
    decoded_right bytes encoding short (record { named = named_encoding (behind_mark bytes); names = names_so (behind_mark bytes); answers = e }) (decoded encoding (behind_mark bytes)) refl
encoding_right bytes short (Err place) e = unknown_encoding place short (record { named = named_encoding (behind_mark bytes); names = names_so (behind_mark bytes); answers = e })

pub answer_right : (bytes : List ℕ) → Right bytes (answer bytes)
unfolding answer
answer_right bytes = by (nat_lt pom_limit (length bytes)) refl
  where
    on : Bool → Answer
    on b = if b then Err (TooLarge, pom_limit) else encoding_answer (mark_len bytes) (behind_mark bytes) (chosen (named_encoding (behind_mark bytes)))

    by : (b : Bool) → nat_lt pom_limit (length bytes) ≡ b → Right bytes (on b)
    by true e = too_long (grind (arith, nat_tests, e))
    by false e = encoding_right bytes (grind (arith, nat_tests, e)) (chosen (named_encoding (behind_mark bytes))) refl

-- what is right is answered
long_answer : (bytes : List ℕ) → pom_limit < length bytes → answer bytes ≡ Err (TooLarge, pom_limit)
unfolding answer
long_answer bytes long =
    let test : nat_lt pom_limit (length bytes) ≡ true = grind (arith, nat_tests, long) in
    ap (λ b. if b then Err (TooLarge, pom_limit) else encoding_answer (mark_len bytes) (behind_mark bytes) (chosen (named_encoding (behind_mark bytes)))) test

short_answer : (bytes : List ℕ) → length bytes ≤ pom_limit → answer bytes ≡ encoding_answer (mark_len bytes) (behind_mark bytes) (chosen (named_encoding (behind_mark bytes)))
unfolding answer
short_answer bytes short =
    let test : nat_lt pom_limit (length bytes) ≡ false = grind (arith, nat_tests, short) in
    ap (λ b. if b then Err (TooLarge, pom_limit) else encoding_answer (mark_len bytes) (behind_mark bytes) (chosen (named_encoding (behind_mark bytes)))) test

has_chosen : (bytes : List ℕ) (r : Result encoding_type.Encoding ℕ) → HasEncoding bytes r → chosen (named_encoding (behind_mark bytes)) ≡ r
has_chosen bytes r has = ap chosen (names_once (behind_mark bytes) has.names) ∙ has.answers

named_answer : (bytes : List ℕ) (r : Result encoding_type.Encoding ℕ) → length bytes ≤ pom_limit → HasEncoding bytes r → answer bytes ≡ encoding_answer (mark_len bytes) (behind_mark bytes) r
named_answer bytes r short has = short_answer bytes short ∙ ap (encoding_answer (mark_len bytes) (behind_mark bytes)) (has_chosen bytes r has)

decodes_answer : (bytes : List ℕ) (encoding : encoding_type.Encoding) (text : List ℕ) → length bytes ≤ pom_limit → IsDecoded bytes encoding text → answer bytes ≡ opened (mark_len bytes) encoding text (more_of text) (opening (cut_of text))
decodes_answer bytes encoding text short d =
    named_answer bytes (Ok encoding) short d.has ∙ ap (decoded_answer (mark_len bytes) encoding) d.text_is ∙ cut_answer (mark_len bytes) encoding text

record IsOpen (text body : List ℕ) : Type 0 where
  pub left : List ℕ
  pub body_is : body ≡ left ++ more_of text
  pub allowed : list_all is_allowed left ≡ true
  pub same : opening (cut_of text) ≡ Some left

opens_text : (text body : List ℕ) → Opens text body → IsOpen text body
opens_text text body opens =
    let o = opened_so text (cut_of text) (more_of text) (cut_splits text) (cut_stops text) opens in
    record { left = o.left; body_is = o.body_is; allowed = body_allowed (cut_of text) o.left (cut_allowed text) o.same; same = o.same }

pub text_answered : (bytes : List ℕ) (nodes : List Node) → IsText bytes nodes → answer bytes ≡ Ok nodes
text_answered bytes nodes t =
    let e = t.elements in
    let o = opens_text e.text e.body e.opens in
    let more = more_of e.text in
    let begins_here = subst (λ b. Begins nothing_yet b e.spells.pieces e.spells.end []) o.body_is e.spells.begins in
    let spells : Spells nothing_yet (o.left ++ more) nodes = record { pieces = e.spells.pieces; end = e.spells.end; begins = begins_here; done = e.spells.done; same = e.spells.same } in
    decodes_answer bytes e.encoding e.text t.short e.decodes ∙ ap (opened (mark_len bytes) e.encoding e.text more) o.same
    ∙ ap (placed (mark_len bytes) e.encoding e.text (length more)) (spelled_run (is_empty more) more (cut_stops e.text) refl nothing_yet o.left nodes o.allowed spells t.shallow)

stops_answer : (bytes : List ℕ) (encoding : encoding_type.Encoding) (text body front rest : List ℕ) (rule : Rule) → length bytes ≤ pom_limit → IsDecoded bytes encoding text → Opens text body → Stops nothing_yet body rule rest → text ≡ front ++ rest
    → answer bytes ≡ Err (rule, mark_len bytes + length (encoded encoding front))
stops_answer bytes encoding text body front rest rule short decodes opens s here =
    let o = opens_text text body opens in
    let more = more_of text in
    let h = stops_run (is_empty more) more (cut_stops text) refl nothing_yet o.left o.allowed (subst (λ b. Stops nothing_yet b rule rest) o.body_is s) in
    decodes_answer bytes encoding text short decodes ∙ ap (opened (mark_len bytes) encoding text more) o.same
    ∙ ap (placed (mark_len bytes) encoding text (length more)) h.same
    ∙ ap (λ l. Err (rule, mark_len bytes + length (encoded encoding l))) (placed_front text front h.left more (here ∙ ap (λ r. front ++ r) h.rest_is))

pub refusal_answered : (bytes : List ℕ) {rule : Rule} {place : ℕ} → Refuses bytes rule place → answer bytes ≡ Err (rule, place)
refusal_answered bytes (too_long long) = long_answer bytes long
refusal_answered bytes (unknown_encoding place short has) = named_answer bytes (Err place) short has
refusal_answered bytes (not_encoded encoding place short has bad) = named_answer bytes (Ok encoding) short has ∙ ap (decoded_answer (mark_len bytes) encoding) bad
refusal_answered bytes (bad_declaration encoding text short decodes announced never) =
    let u = subst IsUnopened (cut_splits text) (record { announced = announced; never = never }) in
    decodes_answer bytes encoding text short decodes ∙ ap (opened (mark_len bytes) encoding text (more_of text)) (unopened_once (cut_of text) (more_of text) (cut_allowed text) (cut_stops text) u)
refusal_answered bytes (stops encoding text body front rest rule short decodes opens s here) = stops_answer bytes encoding text body front rest rule short decodes opens s here

-- bytes spell one tree at most
spells_once : (body : List ℕ) (one other : List Node) → Spells nothing_yet body one → Spells nothing_yet body other → one ≡ other
spells_once body one other a b = a.same ∙ ap (λ s. s.nodes) (one_end a.pieces b.pieces nothing_yet a.end b.end body a.begins b.begins) ∙ sym b.same

opens_once : (text one other : List ℕ) → Opens text one → Opens text other → one ≡ other
opens_once text one other a b =
    let o = opens_text text one a in
    let p = opens_text text other b in
    o.body_is ∙ ap (λ l. l ++ more_of text) (same_some o.left p.left (sym o.same ∙ p.same)) ∙ sym p.body_is

pub elements_once : (bytes : List ℕ) (one other : List Node) → SpellsElements bytes one → SpellsElements bytes other → one ≡ other
elements_once bytes one other a b =
    let encoding = same_ok a.encoding b.encoding (sym (has_chosen bytes (Ok a.encoding) a.decodes.has) ∙ has_chosen bytes (Ok b.encoding) b.decodes.has) in
    let text = same_ok a.text b.text (sym a.decodes.text_is ∙ ap (λ e. decoded e (behind_mark bytes)) encoding ∙ b.decodes.text_is) in
    let body = opens_once a.text a.body b.body a.opens (subst (λ t. Opens t b.body) (sym text) b.opens) in
    spells_once a.body one other a.spells (subst (λ t. Spells nothing_yet t other) (sym body) b.spells)

-- what a result says of its bytes
pub answered : (bytes : List ℕ) (result : Result PomText TextFault) → Agrees (answer bytes) result → IsAnswered bytes result
answered bytes (Ok text) e = subst (Right bytes) e (answer_right bytes)
answered bytes (Err (Refused rule place)) e = subst (Right bytes) e (answer_right bytes)
answered bytes (Err Memory) e = record {}

pub elements_answered : (bytes : List ℕ) (result : Result PomText TextFault) → Agrees (answer bytes) result → (nodes : List Node) → IsText bytes nodes → AreElements nodes result
elements_answered bytes (Ok text) e nodes t = same_ok text.nodes nodes (sym e ∙ text_answered bytes nodes t)
elements_answered bytes (Err (Refused rule place)) e nodes t = absurd (ok_err nodes (rule, place) (sym (text_answered bytes nodes t) ∙ e))
elements_answered bytes (Err Memory) e nodes t = record {}

pub refused_answered : (bytes : List ℕ) (result : Result PomText TextFault) → Agrees (answer bytes) result → (rule : Rule) (place : ℕ) → Refuses bytes rule place → IsRefusal rule place result
refused_answered bytes (Ok text) e rule place r = absurd (ok_err text.nodes (rule, place) (sym e ∙ refusal_answered bytes r))
refused_answered bytes (Err (Refused other at)) e rule place r =
    let same = same_err (other, at) (rule, place) (sym e ∙ refusal_answered bytes r) in
    (ap (λ p. p.0) same, ap (λ p. p.1) same)
refused_answered bytes (Err Memory) e rule place r = record {}

-- bytes are refused once, and are not a text too
refused_once : (bytes : List ℕ) (one other : Rule) (place at : ℕ) → Refuses bytes one place → Refuses bytes other at → (let p : Rule × ℕ = (one, place) in p) ≡ (other, at)
refused_once bytes one other place at a b = same_err (one, place) (other, at) (sym (refusal_answered bytes a) ∙ refusal_answered bytes b)

pub rule_once : (bytes : List ℕ) (one other : Rule) (place at : ℕ) → Refuses bytes one place → Refuses bytes other at → one ≡ other
rule_once bytes one other place at a b = ap (λ p. p.0) (refused_once bytes one other place at a b)

pub place_once : (bytes : List ℕ) (one other : Rule) (place at : ℕ) → Refuses bytes one place → Refuses bytes other at → place ≡ at
place_once bytes one other place at a b = ap (λ p. p.1) (refused_once bytes one other place at a b)

pub apart : (bytes : List ℕ) (nodes : List Node) (rule : Rule) (place : ℕ) → IsText bytes nodes → Refuses bytes rule place → ⊥
apart bytes nodes rule place t r = ok_err nodes (rule, place) (sym (text_answered bytes nodes t) ∙ refusal_answered bytes r)

-- the answer, both ways
text_right : (bytes : List ℕ) (nodes : List Node) → answer bytes ≡ Ok nodes → IsText bytes nodes
text_right bytes nodes e = subst (Right bytes) e (answer_right bytes)

pub text_exactly : (bytes : List ℕ) (nodes : List Node) → (answer bytes ≡ Ok nodes) ↔ IsText bytes nodes
text_exactly bytes nodes = (text_right bytes nodes, text_answered bytes nodes)

refusal_right : (bytes : List ℕ) (rule : Rule) (place : ℕ) → answer bytes ≡ Err (rule, place) → Refuses bytes rule place
refusal_right bytes rule place e = subst (Right bytes) e (answer_right bytes)

pub refusal_exactly : (bytes : List ℕ) (rule : Rule) (place : ℕ) → (answer bytes ≡ Err (rule, place)) ↔ Refuses bytes rule place
refusal_exactly bytes rule place = (refusal_right bytes rule place, λ r. refusal_answered bytes r)

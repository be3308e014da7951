use Rattle.std.proofs.Common.{rules, ◌≡◌, arith, false, ap, sym, subst, ◌∙◌}
use Rattle.std.proofs.lemmas.Str.{chars_past_char, length-encode}
use Rattle.std.specs.Str.{IsUtf8, chars}
use Rattle.std.specs.Str.Iter.{chars_rest}
use Rattle.pom_text.specs.Characters.{is_allowed}
use Rattle.pom_text.specs.Reads.{begins}
use Rattle.pom_text.proofs.Forbids.{StandsAt, cut_here, stands_more, starts_here}
use Rattle.pom_text.proofs.Bytes.{no_chars}
use Rattle.pom_text.proofs.allowed.allowed_len.Goals as goal

pub loop-c-init : goal.loop-c-init
loop-c-init c =
    let here : chars_rest c.into_iter-c-iterator.result ≡ c.args.text.now = search rules in
    subst (λ r. StandsAt c.args.text.now r 0) (sym here) (starts_here c.args.text.now c.utf8.text)

pub returns-then-not-is_allowed : goal.returns-then-not-is_allowed
returns-then-not-is_allowed c =
    let held = c.loop-c.invariant in
    let rest = chars_rest c.loop-c.c-iterator in
    let utf8 = subst IsUtf8 (sym held.rest_is) held.utf8 in
    let first = chars_past_char rest _ c.in-Some.c utf8 c.in-Some.ensures.steps.0 in
    let stop : begins is_allowed (chars rest) ≡ false = ap (begins is_allowed) first ∙ (sym c.is_allowed.ensures ∙ c.if-not-is_allowed.true) in
    cut_here c.args.text.now c.loop-c.total c.utf8.text held.low held.utf8 held.all (ap (λ t. begins is_allowed (chars t)) (sym held.rest_is) ∙ stop)

pub loop-c-preserved : goal.loop-c-preserved
loop-c-preserved c = stands_more c.args.text.now _ _ c.loop-c.total c.in-Some.c _ c.utf8.text c.loop-c.invariant c.in-Some.ensures.steps.0 (sym c.is_allowed.ensures ∙ c.if-not-is_allowed.false) (omega (arith, c.len_utf8-total.ensures.len, length-encode c.in-Some.c))

pub returns : goal.returns
returns c =
    let held = c.loop-c.invariant in
    let rest = chars_rest c.loop-c.c-iterator in
    let stop : begins is_allowed (chars rest) ≡ false = ap (begins is_allowed) (no_chars rest c.in-None.ensures.steps.0.0) in
    cut_here c.args.text.now c.loop-c.total c.utf8.text held.low held.utf8 held.all (ap (λ t. begins is_allowed (chars t)) (sym held.rest_is) ∙ stop)

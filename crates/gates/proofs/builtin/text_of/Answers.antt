use Rattle.std.proofs.Common.{◌≡◌, ℕ, Bool, true, false, List, Option, Some, None, cond, refl, ap, sym, ◌∙◌}
use Rattle.std.proofs.lemmas.Str.{IsUtf8-from_is_utf8, is_utf8-from_IsUtf8}
use Rattle.gates.proofs.builtin.text_of.Goals as goal

none_unless : (b : Bool) (bytes : List ℕ) → (b ≡ true → ⊥) → None ≡ cond b (Some bytes) None
none_unless true bytes un = absurd (un refl)
none_unless false bytes un = refl

pub returns-in-Ok : goal.returns-in-Ok
returns-in-Ok c =
    let bytes = c.args.bytes.now in
    ap Some c.in-Ok.ensures.cases.0 ∙ ap (λ b. cond b (Some bytes) None) (sym (is_utf8-from_IsUtf8 bytes c.in-Ok.ensures.cases.1))

pub returns-in-Err : goal.returns-in-Err
returns-in-Err c = none_unless _ c.args.bytes.now (λ e. c.in-Err.ensures.cases.0 (IsUtf8-from_is_utf8 c.args.bytes.now e))

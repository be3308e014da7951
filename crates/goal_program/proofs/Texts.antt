-- Cutting texts, against what the library's calls say.
use Rattle.std.proofs.Common.{◌≡◌, ℕ, ◌<◌, ◌==◌, true, false, nat_lt, List, length, drop, Option, Some, None, if◌then◌else◌, MatchOption, Bor, sym, ap, ap₂, subst, ◌∙◌, arith}
use Rattle.std.specs.Option.{option_map}
use Rattle.std.proofs.lemmas.Bool.Decides.{nat_tests}
use Rattle.std.proofs.lemmas.Str.Pattern.{starts_text, split_once_first, IsSplitOnceResult}
use Rattle.std.specs.Str.{IsCharBoundary}
use Rattle.std.specs.Str.Pattern.{FindsTextPrefix, StripsPrefix}
use Rattle.std.specs.List.{position_or_len, before_first, after_first}
use Rattle.goal_program.specs.Texts.{cut, behind}

abbrev at_mark : ℕ → List ℕ → ℕ
at_mark c text = position_or_len (λ b. b == c) text

-- a text that is split once is cut
pub cut_is : (c : ℕ) (text : List ℕ) (r : Option (Bor (List ℕ) × Bor (List ℕ))) → IsSplitOnceResult c text r → c < 128 → option_map (λ e. (e.0.now, e.1.now)) r ≡ cut c text
cut_is c text None h low =
    let whole : at_mark c text ≡ length text = split_once_first c text None h low in
    let test : nat_lt (at_mark c text) (length text) ≡ false = grind (arith, nat_tests, whole) in
    sym (ap (λ b. if b then Some (before_first (λ b. b == c) text, after_first (λ b. b == c) text) else None) test)
cut_is c text (Some x) h low =
    let parts = split_once_first c text (Some x) h low in
    let inside : at_mark c text < length text = parts.0 in
    let test : nat_lt (at_mark c text) (length text) ≡ true = grind (arith, nat_tests, inside) in
    ap₂ (λ a b. Some (a, b)) parts.1 parts.2 ∙ sym (ap (λ b. if b then Some (before_first (λ b. b == c) text, after_first (λ b. b == c) text) else None) test)

-- a text whose front is taken off has it
pub behind_is : (n s : List ℕ) (r : Option (Bor (List ℕ))) → MatchOption r (FindsTextPrefix n s None) (λ x. StripsPrefix (FindsTextPrefix n) s x.now) → option_map (λ rest. rest.now) r ≡ behind n s
behind_is n s None h = ap (λ b. if b then Some (drop (length n) s) else None) (starts_text false n s h)
behind_is n s (Some x) h =
    let starts = starts_text true n s (h.0, h.1, subst (λ i. IsCharBoundary s i) (sym h.1.0) h.1.2) in
    ap Some (h.2 ∙ ap (λ i. drop i s) h.1.0) ∙ ap (λ b. if b then Some (drop (length n) s) else None) starts

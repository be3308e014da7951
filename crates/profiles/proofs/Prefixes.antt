-- What stands behind the beginning of a text.
use Rattle.std.proofs.Common.{◌≡◌, ℕ, ◌+◌, Bool, true, false, List, [], ◌∷◌, ◌++◌, length, take, drop, Option, Some, None, MatchOption, option_map, refl, sym, ap, ◌∙◌, if◌then◌else◌}
use Rattle.std.specs.Cmp.Lexicographic.{nat_list_eq_equiv}
use Rattle.std.specs.Str.{bytes_eq}
use Rattle.std.specs.Str.Pattern.{FindsTextPrefix, LacksTextAt}
use Rattle.std.proofs.lemmas.List.{take-append-drop}
use Rattle.std.proofs.lemmas.Slice.Eq.{bytes_eq-Decides}
use Rattle.profiles.specs.Lookups.{behind}
use denote.Ref.{Bor}

take_front : (front rest : List ℕ) → take (length front) (front ++ rest) ≡ front
take_front [] rest = refl
take_front (b ∷ front) rest = ap (λ l. b ∷ l) (take_front front rest)

begins : (front text rest : List ℕ) → text ≡ front ++ rest → bytes_eq (take (length front) text) front ≡ true
begins front text rest is = ap (λ l. bytes_eq l front) (ap (take (length front)) is ∙ take_front front rest) ∙ nat_list_eq_equiv.refl front

pub behind_cases : (front text : List ℕ) (r : Option (Bor (List ℕ))) → MatchOption r (LacksTextAt front text 0) (λ x. (n : ℕ) × FindsTextPrefix front text (Some n) × (x.now ≡ drop n text) × (length x.now + n ≡ length text)) → option_map (λ x. x.now) r ≡ behind front text
behind_cases front text None lacks = by (bytes_eq (take (length front) text) front) refl
  where
    by : (b : Bool) → bytes_eq (take (length front) text) front ≡ b → None ≡ (if bytes_eq (take (length front) text) front then Some (drop (length front) text) else None)
    by true e = absurd (lacks (drop (length front) text) (sym (take-append-drop (length front) text) ∙ ap (λ l. l ++ drop (length front) text) ((bytes_eq-Decides (take (length front) text) front).0 e)))
    by false e = sym (ap (λ b. if b then Some (drop (length front) text) else None) e)
behind_cases front text (Some x) finds =
    ap Some (finds.2 ∙ ap (λ n. drop n text) finds.1.0)
    ∙ sym (ap (λ b. if b then Some (drop (length front) text) else None) (begins front text (drop finds.0 text) finds.1.1))

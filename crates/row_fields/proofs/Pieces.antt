-- Pieces behind a backslash.
use Rattle.std.proofs.Common.{◌≡◌, ℕ, zero, suc, cond, List, [], ◌∷◌, Option, Some, None, eqb, refl, ap, sym, ◌∙◌, arith}
use Rattle.std.proofs.lemmas.Bool.{ne_eqb}
use Rattle.std.proofs.lemmas.List.{drop_all}
use Rattle.std.proofs.lemmas.Str.Pattern.{IsSplitOnceResult, split_once_first}
use Rattle.std.specs.List.{repeat, before_first, after_first}
use Rattle.std.specs.Option.{MatchOption}
use Rattle.row_fields.specs.Spelling.{number, spelled, marked, repeated}
use denote.Ref.{Bor}
use mathlib.Core.Logic.{◌≢◌}

-- what doesn't begin with a bracket is a mark and a text
pub not_repeated : (piece : List ℕ) → ((rest : List ℕ) → piece ≢ 40 ∷ rest) → spelled piece ≡ marked piece
not_repeated [] _ = refl
not_repeated (mark ∷ rest) h = ap (λ b. cond b (repeated rest) (marked (mark ∷ rest))) (ne_eqb mark 40 (λ e. h rest (ap (λ m. m ∷ rest) e)))

-- nothing is nothing any number of times
repeat_nothing : (n : ℕ) → repeat {A = ℕ} n [] ≡ []
repeat_nothing zero = refl
repeat_nothing (suc n) = repeat_nothing n

-- behind a number and a bracket stands what is repeated, and without a bracket nothing is
pub split_repeated : (bs : List ℕ) (r : Option (Bor (List ℕ) × Bor (List ℕ))) → IsSplitOnceResult 41 bs r → MatchOption r (repeated bs ≡ []) (λ x. repeated bs ≡ repeat (number x.0.now) x.1.now)
split_repeated bs None h =
    let e = split_once_first 41 bs None h (omega arith) in
    let past : after_first (λ b. eqb b 41) bs ≡ [] = drop_all _ bs (omega arith) in
    ap (repeat (number (before_first (λ b. eqb b 41) bs))) past ∙ repeat_nothing (number (before_first (λ b. eqb b 41) bs))
split_repeated bs (Some x) h =
    let e = split_once_first 41 bs (Some x) h (omega arith) in
    ap (λ v. repeat (number v) (after_first (λ b. eqb b 41) bs)) (sym e.1) ∙ ap (repeat (number x.0.now)) (sym e.2)

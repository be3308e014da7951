-- The first refusal among winners is one, up to whatever length they are looked at.
use Rattle.std.proofs.Common.{◌≡◌, ◌≤◌, ◌+◌, ℕ, zero, suc, List, [], ◌∷◌, ◌++◌, flat_map, length, Option, Some, None, unwrap_or, refl, sym, ap, ◌∙◌, arith, append-nil, append_assoc}
use Rattle.std.specs.Option.{option_or}
use Rattle.mediation.specs.Faults.{Reason}
use Rattle.mediation.specs.Libraries.{Libraries}
use Rattle.mediation.specs.Rows.{IsWhole, first_reason, paths_of}
use Rattle.mediation.specs.declared.winner.Winner.{Winner}
use Rattle.mediation.proofs.Growing.{reasons_behind}
use Rattle.collector.specs.Winners.{Graph, Path, firsts, level, longer, winners}

-- the winners up to a length are the first of those up to a greater one
front : (graph : Graph) (n k : ℕ) → (more : List Path) × (winners graph (n + k) ≡ winners graph n ++ more)
front graph n zero =
    let same : n + 0 ≡ n = omega arith in
    ([], ap (winners graph) same ∙ sym (append-nil (winners graph n)))
front graph n (suc k) =
    let rest = front graph n k in
    let next : n + suc k ≡ suc (n + k) = omega arith in
    let last = firsts (winners graph (n + k)) (flat_map (longer graph) (level graph (n + k))) in
    (rest.0 ++ last, ap (winners graph) next ∙ ap (λ l. l ++ last) rest.1 ∙ append_assoc (winners graph n) rest.0 last)

module _ (libraries : Libraries) (graph : Graph) where
  -- so a refusal stays the first, whatever comes behind it
  stays : (n k : ℕ) (r : Reason) → first_reason libraries 0 (winners graph n) ≡ Some r → first_reason libraries 0 (winners graph (n + k)) ≡ Some r
  stays n k r is =
      let more = front graph n k in
      ap (first_reason libraries 0) more.1
      ∙ reasons_behind libraries 0 (winners graph n) more.0
      ∙ ap (λ o. option_or o (first_reason libraries (0 + length (winners graph n)) more.0)) is

  -- two lengths tell one refusal
  pub one_reason : (n m : ℕ) (r s : Reason) → first_reason libraries 0 (winners graph n) ≡ Some r → first_reason libraries 0 (winners graph m) ≡ Some s → r ≡ s
  one_reason n m r s is other =
      let both : n + m ≡ m + n = omega arith in
      ap (λ o. unwrap_or o r) (sym (stays n m r is) ∙ ap (λ k. first_reason libraries 0 (winners graph k)) both ∙ stays m n s other)

  -- where all winners stand, none is told
  pub no_reason : (rows : List Winner) (n : ℕ) (r : Reason) → IsWhole libraries graph rows → first_reason libraries 0 (winners graph n) ≡ Some r → ⊥
  no_reason rows n r whole is =
      let far : whole.longest ≤ n + whole.longest = omega arith in
      never (sym (stays n whole.longest r is) ∙ ap (first_reason libraries 0) (sym (whole.wins (n + whole.longest) far)) ∙ whole.free)
    where
      never : ◌≡◌ {A = Option Reason} (Some r) None → ⊥
      never e = cc

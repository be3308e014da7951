-- The words of a command line select one list of modules, or one of them means none.
use Rattle.std.proofs.Common.{◌≡◌, inl, inr, ◌⊎◌, ℕ, List, Option, None, Some, unwrap_or, Result, Ok, Err, refl, sym, ap, ◌∙◌}
use Rattle.model_types.specs.declared.model.Model.{Model}
use Rattle.cli_words.specs.declared.command_line.CommandLine.{CommandLine}
use Rattle.reactor_order.specs.Graph.{Edges}
use Rattle.reactor_order.proofs.Single.{one_selected}
use Rattle.reactor.specs.Selection.{Answers, IsChosen, chosen, naming, resumed, unknown}
use Rattle.reactor.specs.declared.fault.SelectionFault.{SelectionFault}
use Rattle.reactor.specs.declared.fault.SelectionFault.TheVariants.{Unknown, Memory}

abbrev value_or : List ℕ → Result (List ℕ) ℕ → List ℕ
value_or d (Ok x) = x
value_or d (Err y) = d

abbrev place_or : ℕ → Result (List ℕ) ℕ → ℕ
place_or d (Ok x) = d
place_or d (Err y) = y

ok_err : (x : List ℕ) (y : ℕ) → ◌≡◌ {A = Result (List ℕ) ℕ} (Ok x) (Err y) → ⊥
ok_err x y e = cc

none_some : (y : ℕ) → ◌≡◌ {A = Option ℕ} None (Some y) → ⊥
none_some y e = cc

module _ (modules : List Model) (order : List ℕ) (edges : Edges) (line : CommandLine) where
  -- what is selected before any is left out is one
  one_whole : (x y : List ℕ) → IsChosen modules order edges line x → IsChosen modules order edges line y → x ≡ y
  one_whole x y is too = one_selected order edges (chosen modules line.projects) line.also_make line.also_make_dependents None x y is too

  -- so what is left of it is
  one_resumed : (x y : List ℕ) (a b : Result (List ℕ) ℕ) → IsChosen modules order edges line x → IsChosen modules order edges line y
      → resumed modules order x line.from ≡ a → resumed modules order y line.from ≡ b → a ≡ b
  one_resumed x y a b is too first second = sym first ∙ ap (λ whole. resumed modules order whole line.from) (one_whole x y is too) ∙ second

  same_list : (x y : List ℕ) → Answers modules order edges line (Ok x) → Answers modules order edges line (Ok y) → x ≡ y
  same_list x y (known, (whole, is, left)) (known_too, (others, too, left_too)) = ap (value_or x) (one_resumed whole others (Ok x) (Ok y) is too left left_too)

  -- a list has no word that means none
  no_unknown : (x : List ℕ) (place : ℕ) → Answers modules order edges line (Ok x) → Answers modules order edges line (Err (Unknown place)) → ⊥
  no_unknown x place (known, (whole, is, left)) (inl first) = none_some place (sym known ∙ first)
  no_unknown x place (known, (whole, is, left)) (inr (known_too, (others, too, left_too))) = ok_err x place (one_resumed whole others (Ok x) (Err place) is too left left_too)

  same_place : (p q : ℕ) → Answers modules order edges line (Err (Unknown p)) → Answers modules order edges line (Err (Unknown q)) → p ≡ q
  same_place p q (inl first) (inl second) = ap (λ o. unwrap_or o p) (sym first ∙ second)
  same_place p q (inl first) (inr (known, rest)) = absurd (none_some p (sym known ∙ first))
  same_place p q (inr (known, rest)) (inl second) = absurd (none_some q (sym known ∙ second))
  same_place p q (inr (known, (whole, is, left))) (inr (known_too, (others, too, left_too))) = ap (place_or p) (one_resumed whole others (Err p) (Err q) is too left left_too)

  pub one_pick : (a b : Result (List ℕ) SelectionFault) → Answers modules order edges line a → Answers modules order edges line b → (a ≡ Err Memory → ⊥) → (b ≡ Err Memory → ⊥) → a ≡ b
  one_pick (Err Memory) b is too said said_too = absurd (said refl)
  one_pick (Ok x) (Err Memory) is too said said_too = absurd (said_too refl)
  one_pick (Err (Unknown p)) (Err Memory) is too said said_too = absurd (said_too refl)
  one_pick (Ok x) (Ok y) is too said said_too = ap (λ z. Ok z) (same_list x y is too)
  one_pick (Ok x) (Err (Unknown q)) is too said said_too = absurd (no_unknown x q is too)
  one_pick (Err (Unknown p)) (Ok y) is too said said_too = absurd (no_unknown y p too is)
  one_pick (Err (Unknown p)) (Err (Unknown q)) is too said said_too = ap (λ z. Err (Unknown z)) (same_place p q is too)

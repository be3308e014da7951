-- A project has one answer.
use Rattle.std.proofs.Common.{◌≡◌, ◌⊎◌, inl, inr, ℕ, List, Option, Some, None, unwrap_or, Ok, Err, sym, ap, subst, ◌∙◌}
use Rattle.mvn_base.specs.declared.key.Key.{Key}
use Rattle.mvn_base.specs.declared.rule.Rule.{Rule}
use Rattle.model_types.specs.declared.dependency.Dependency.{Dependency}
use Rattle.classpaths.specs.declared.resolution.Resolution.{Resolution}
use Rattle.mediation.specs.Faults.{Reason}
use Rattle.mediation.specs.Libraries.{Libraries, graph_of}
use Rattle.mediation.specs.declared.fault.MediationFault.TheVariants.{Refused}
use Rattle.resolution.specs.Conflicts.{first_conflict}
use Rattle.resolution.specs.Resolved.{Conflicts, IsMade, Mediates, Stands, reason_of}
use Rattle.resolution.proofs.Refusing.{no_reason, one_reason}
use Rattle.resolution.proofs.Rows.{same_winners}
use Rattle.resolution.proofs.Scoping.{one_made}

module _ (libraries : Libraries) (managed : List (Key × Dependency)) (direct : List Dependency) where
  pub one : (a b : Resolution) → Mediates libraries managed direct (Ok a) → Mediates libraries managed direct (Ok b) → a ≡ b
  one a b first second =
      let same = same_winners libraries managed direct first.rows second.rows first.whole second.whole in
      one_made libraries managed direct first.rows a b first.whole first.made (subst (λ rows. IsMade managed direct rows b) (sym same) second.made)

  never : (r : Reason) → ◌≡◌ {A = Option Reason} None (Some r) → ⊥
  never r e = cc

  -- a conflict isn't free of conflicts
  free : (a : Resolution) (r : Reason) → Stands libraries managed direct a → Conflicts libraries managed direct r → ⊥
  free a r first second =
      let same = same_winners libraries managed direct first.rows second.rows first.whole second.whole in
      never r (ap reason_of (sym first.free) ∙ ap (λ rows. reason_of (first_conflict managed direct rows)) same ∙ second.is)

  pub apart : (a : Resolution) (rule : Rule) (place : List ℕ) → Mediates libraries managed direct (Ok a) → Mediates libraries managed direct (Err (Refused rule place)) → ⊥
  apart a rule place first (inl (n, is)) = no_reason libraries (graph_of libraries managed direct) first.rows n (rule, place) first.whole is
  apart a rule place first (inr second) = free a (rule, place) first second

  -- two conflicts are one
  one_conflict : (r s : Reason) → Conflicts libraries managed direct r → Conflicts libraries managed direct s → r ≡ s
  one_conflict r s first second =
      let same = same_winners libraries managed direct first.rows second.rows first.whole second.whole in
      ap (λ o. unwrap_or o r) (sym first.is ∙ ap (λ rows. reason_of (first_conflict managed direct rows)) same ∙ second.is)

  both : (rule other : Rule) (place there : List ℕ) → ◌≡◌ {A = Reason} (rule, place) (other, there) → (rule ≡ other) × (place ≡ there)
  both rule other place there is = (ap (λ r. r.0) is, ap (λ r. r.1) is)

  pub refused : (rule other : Rule) (place there : List ℕ) → Mediates libraries managed direct (Err (Refused rule place)) → Mediates libraries managed direct (Err (Refused other there))
      → (rule ≡ other) × (place ≡ there)
  refused rule other place there (inl (n, is)) (inl (m, too)) = both rule other place there (one_reason libraries (graph_of libraries managed direct) n m (rule, place) (other, there) is too)
  refused rule other place there (inl (n, is)) (inr second) = absurd (no_reason libraries (graph_of libraries managed direct) second.rows n (rule, place) second.whole is)
  refused rule other place there (inr first) (inl (m, too)) = absurd (no_reason libraries (graph_of libraries managed direct) first.rows m (other, there) first.whole too)
  refused rule other place there (inr first) (inr second) = both rule other place there (one_conflict (rule, place) (other, there) first second)

-- A requirement that is no range admits every version.
use Rattle.std.proofs.Common.{◌≡◌, ℕ, true, false, List, [], ◌∷◌, Option, Some, None, refl, ap, arith}
use Rattle.collector.specs.declared.edge.Edge.{Edge}
use Rattle.mediation.specs.declared.winner.Winner.{Winner}
use Rattle.mediation.specs.Rows.{row_of}
use Rattle.versions.specs.Requirements.{requirement}
use Rattle.versions.specs.Spelling.{is_plain}
use Rattle.versions.proofs.Spelled.{version_exactly}
use Rattle.resolution.specs.Conflicts.{conflicts, is_unmet, unmet_by}

-- a text without a bracket or a comma
text_met : (text version : List ℕ) → is_plain text ≡ true → is_unmet (requirement text) version ≡ false
unfolding requirement
text_met [] version plain = refl
text_met (b ∷ text) version plain =
    ap (λ r. is_unmet r version) ((version_exactly (b ∷ text) (b ∷ text)).1 (record { same = refl; plain = plain; some = omega arith }))

-- so an edge with such a text conflicts with no winner
pub plain_met : (rows : List Winner) (e : Edge) → is_plain e.requirement ≡ true → conflicts rows e ≡ false
plain_met rows e plain = by (row_of rows e.key)
  where
    by : (o : Option Winner) → unmet_by e o ≡ false
    by None = refl
    by (Some w) = text_met e.requirement w.version plain

-- The order of versions is total.
use Rattle.std.specs.Prelude.{ℕ, Bool, List}
use Rattle.std.specs.Ordering.{eq_by_cmp}
use Rattle.std.specs.Cmp.{IsTotalOrder, IsEquivalence, on_total, then_total, nat_cmp_total, eq_by_cmp_equiv}
use Rattle.std.specs.Cmp.Lexicographic.{lists_total, nat_list_cmp_total}
use Rattle.versions.specs.Order.{rank, digit_count, token_cmp, ended, version_cmp}

pub token_cmp_total : IsTotalOrder token_cmp
unfolding token_cmp
token_cmp_total = then_total (on_total (λ t. rank t.kind) nat_cmp_total) (then_total (on_total digit_count nat_cmp_total) (on_total (λ t. t.content) nat_list_cmp_total))

pub version_cmp_total : IsTotalOrder version_cmp
unfolding version_cmp
version_cmp_total = on_total ended (lists_total token_cmp_total)

-- two versions are one in the order
abbrev pub version_eq : List ℕ → List ℕ → Bool
version_eq = eq_by_cmp version_cmp

pub version_eq_equiv : IsEquivalence version_eq
version_eq_equiv = eq_by_cmp_equiv version_cmp_total

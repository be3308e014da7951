-- A map of files in memory against the finite map that contracts see.
use Rattle.std.proofs.Common.{◌≡◌, ℕ, Bool, true, false, ◌&&◌, T, List, [], ◌∷◌, map, Option, Some, cond, sym, ap, subst, ◌∙◌}
use Rattle.std.specs.declared.cmp.Ordering.TheVariants.{Less}
use Rattle.std.specs.List.{AllByRecursion}
use Rattle.std.specs.List.Sorted.{IsStrictlySortedBy}
use Rattle.std.specs.FinMap.Entries.{below_all}
use Rattle.std.specs.Ordering.{nat_cmp, is_lt}
use Rattle.std.specs.BTreeMap.{is_at}
use Rattle.std.specs.Cmp.Lexicographic.{slice_cmp, nat_list_cmp_total}
use Rattle.std.specs.FinMap.{from_entries, from_sorted, entries, keys, entries-from_sorted, get-from_sorted, is_sorted, get, insert, get-from_entries, same_map, slice_cmp-IsAntisymmetric, nat_cmp-IsAntisymmetric}
use Rattle.mvn_shared.specs.Files.{Files}
use Rattle.mvn_shared.proofs.Maps.{value_at, get_value}
use Rattle.mvn_shared.proofs.Maps as maps

-- what a list of files has under a name
abbrev pub bytes_of : List (List ℕ × List ℕ) → List ℕ → Option (List ℕ)
bytes_of = value_at (slice_cmp nat_cmp)

-- the finite map of the entries has what the entries have
pub get_file : (es : List (List ℕ × List ℕ)) (q : List ℕ) → get (from_entries {R = slice_cmp nat_cmp} es) q ≡ bytes_of es q
get_file = get_value nat_list_cmp_total

-- entries that differ at one name make maps that differ there
pub one_put : (es fs : List (List ℕ × List ℕ)) (s n : List ℕ) → ((q : List ℕ) → bytes_of fs q ≡ cond (is_at (slice_cmp nat_cmp s) q) (Some n) (bytes_of es q)) → from_entries {R = slice_cmp nat_cmp} fs ≡ insert (from_entries es) s n
one_put = maps.one_put nat_list_cmp_total (slice_cmp-IsAntisymmetric nat_cmp-IsAntisymmetric)

-- ---- the names, in order

both : (s t : Bool) → T s → T t → T (s && t)
both true t a b = b
both false t a b = absurd a

below_from_all : (k : List ℕ) (es : List (List ℕ × List ℕ)) → AllByRecursion (λ q. slice_cmp nat_cmp k q ≡ Less) (map (λ e. e.0) es) → T (below_all (slice_cmp nat_cmp) k es)
below_from_all k [] h = tt
below_from_all k (e ∷ es) h = both _ _ (subst (λ r. T (is_lt r)) (sym h.0) tt) (below_from_all k es h.1)

sorted_entries : (es : List (List ℕ × List ℕ)) → IsStrictlySortedBy (slice_cmp nat_cmp) (map (λ e. e.0) es) → T (is_sorted (slice_cmp nat_cmp) es)
unfolding IsStrictlySortedBy
sorted_entries [] h = tt
sorted_entries (e ∷ es) h = both _ _ (below_from_all e.0 es h.0) (sorted_entries es h.1)

-- the finite map of sorted entries has just these
pub entries_same : (es : List (List ℕ × List ℕ)) → IsStrictlySortedBy (slice_cmp nat_cmp) (map (λ e. e.0) es) → entries (from_entries {R = slice_cmp nat_cmp} es) ≡ es
entries_same es h =
    let sorted = sorted_entries es h in
    let same = same_map nat_list_cmp_total (slice_cmp-IsAntisymmetric nat_cmp-IsAntisymmetric) (from_entries es) (from_sorted es) (λ q. get-from_entries nat_list_cmp_total es q ∙ sym (get-from_sorted (slice_cmp nat_cmp) es q sorted)) in
    ap entries same ∙ entries-from_sorted (slice_cmp nat_cmp) es sorted

-- and so its names are theirs
pub keys_same : (es : List (List ℕ × List ℕ)) (m : Files) → IsStrictlySortedBy (slice_cmp nat_cmp) (map (λ e. e.0) es) → from_entries es ≡ m → map (λ e. e.0) es ≡ keys m
keys_same es m sorted same = ap (map (λ (e : List ℕ × List ℕ). e.0)) (sym (entries_same es sorted)) ∙ ap keys same

-- Winners have keys of their own.
use Rattle.std.proofs.Common.{◌≡◌, ℕ, zero, suc, ◌<◌, Bool, true, false, List, [], ◌∷◌, ◌++◌, length, slice_index_or, flat_map, find, Some, is_some, refl, sym, subst, if◌then◌else◌, cond, arith, append-nil, append_assoc}
use Rattle.std.proofs.lemmas.Bool.{false≢true}
use Rattle.std.proofs.lemmas.List.Quantifiers.{all_pairs_push}
use Rattle.collector.specs.Winners.{Graph, Path, SharesNone, ends_at, firsts, is_won, level, longer, shares_end, winners}

-- where nothing is found, no item passes
none_passes : (test : Path → Bool) (xs : List Path) → is_some (find test xs) ≡ false → (k : ℕ) (d : Path) → k < length xs → test (slice_index_or xs k d) ≡ false
none_passes test [] none k d lt = absurd (omega arith)
none_passes test (x ∷ xs) none k d lt = by (test x) refl none k lt (none_passes test xs)
  where
    by : (b : Bool) → test x ≡ b → is_some (cond b (Some x) (find test xs)) ≡ false → (k : ℕ) → k < suc (length xs) → (is_some (find test xs) ≡ false → (k : ℕ) (d : Path) → k < length xs → test (slice_index_or xs k d) ≡ false) → test (slice_index_or (x ∷ xs) k d) ≡ false
    by true is none k lt rest = absurd (false≢true (sym none))
    by false is none zero lt rest = is
    by false is none (suc k) lt rest = rest none k d (omega arith)

apart : (won : List Path) (p : Path) → is_won won p ≡ false → (k : ℕ) (d : Path) → k < length won → shares_end (slice_index_or won k d) p ≡ false
apart won [] new k d lt = refl
apart won (e ∷ path) new k d lt = none_passes (ends_at e.key) won new k d lt

-- the first of each key, behind what is won
more_apart : (won paths : List Path) → SharesNone won → SharesNone (won ++ firsts won paths)
more_apart won [] so_far = subst SharesNone (sym (append-nil won)) so_far
more_apart won (p ∷ paths) so_far = by (is_won won p) refl (more_apart won paths so_far) (more_apart (won ++ p ∷ []) paths)
  where
    by : (b : Bool) → is_won won p ≡ b → SharesNone (won ++ firsts won paths) → (SharesNone (won ++ p ∷ []) → SharesNone ((won ++ p ∷ []) ++ firsts (won ++ p ∷ []) paths)) → SharesNone (won ++ (if b then firsts won paths else p ∷ firsts (won ++ p ∷ []) paths))
    by true there rest further = rest
    by false there rest further =
        subst SharesNone (append_assoc won (p ∷ []) (firsts (won ++ p ∷ []) paths))
        (further (all_pairs_push (λ a b. shares_end a b ≡ false) won p so_far (apart won p there)))

pub one_winner : (graph : Graph) (n : ℕ) → SharesNone (winners graph n)
one_winner graph zero = λ i j d lt within. absurd (omega arith)
one_winner graph (suc n) = more_apart (winners graph n) (flat_map (longer graph) (level graph n)) (one_winner graph n)

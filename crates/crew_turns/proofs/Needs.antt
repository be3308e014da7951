-- The entries that a goal needs, one after another.
use Rattle.std.proofs.Common.{◌≡◌, ℕ, zero, suc, ◌+◌, Bool, true, false, List, [], ◌∷◌, ◌++◌, length, slice_get, take, Some, unwrap_or, refl, arith, sym, ap, subst, ◌∙◌, if◌then◌else◌}
use Rattle.goal_types.specs.declared.goal.Need.{Need}
use Rattle.goal_types.specs.declared.goal.PathEntry.{PathEntry}
use Rattle.build_core.specs.OneThread.{is_needed}
use Rattle.build_core.specs.declared.plan.Entry.{Entry}
use Rattle.event_core.proofs.Weights.{nothing_is}
use Rattle.run_law.specs.Gathered.{needed_of}

-- one entry more, which is needed or not
more_at : (need : Need) (entries : List Entry) (paths : List PathEntry) (at : ℕ) (e : Entry) (p : PathEntry) → slice_get entries at ≡ Some e → slice_get paths at ≡ Some p
    → needed_of need (take (suc at) entries) (take (suc at) paths) ≡ (if is_needed need e then needed_of need (take at entries) (take at paths) ++ p ∷ [] else needed_of need (take at entries) (take at paths))
more_at need [] paths at e p is its = absurd (nothing_is e is)
more_at need (x ∷ entries) [] at e p is its = absurd (nothing_is p its)
more_at need (x ∷ entries) (y ∷ paths) zero e p is its = ap (λ (z : Entry). if is_needed need z then y ∷ [] else []) (ap (λ o. unwrap_or o x) is) ∙ ap (λ z. if is_needed need e then z ∷ [] else []) (ap (λ o. unwrap_or o y) its)
more_at need (x ∷ entries) (y ∷ paths) (suc at) e p is its = by (is_needed need x) (is_needed need e) (more_at need entries paths at e p is its)
  where
    by : (b c : Bool) → needed_of need (take (suc at) entries) (take (suc at) paths) ≡ (if c then needed_of need (take at entries) (take at paths) ++ p ∷ [] else needed_of need (take at entries) (take at paths))
        → (if b then y ∷ needed_of need (take (suc at) entries) (take (suc at) paths) else needed_of need (take (suc at) entries) (take (suc at) paths))
        ≡ (if c then (if b then y ∷ needed_of need (take at entries) (take at paths) else needed_of need (take at entries) (take at paths)) ++ p ∷ [] else (if b then y ∷ needed_of need (take at entries) (take at paths) else needed_of need (take at entries) (take at paths)))
    by true true again = ap (λ z. y ∷ z) again
    by true false again = ap (λ z. y ∷ z) again
    by false true again = again
    by false false again = again

-- one that is needed, behind those before it
pub needed_in : (need : Need) (entries : List Entry) (paths : List PathEntry) (at : ℕ) (e : Entry) (p : PathEntry) → slice_get entries at ≡ Some e → slice_get paths at ≡ Some p → is_needed need e ≡ true
    → needed_of need (take at entries) (take at paths) ++ p ∷ [] ≡ needed_of need (take (at + 1) entries) (take (at + 1) paths)
needed_in need entries paths at e p is its so = let next : suc at ≡ at + 1 = omega arith in
    subst (λ n. needed_of need (take at entries) (take at paths) ++ p ∷ [] ≡ needed_of need (take n entries) (take n paths)) next
    (sym (more_at need entries paths at e p is its ∙ ap (λ b. if b then needed_of need (take at entries) (take at paths) ++ p ∷ [] else needed_of need (take at entries) (take at paths)) so))

-- one that isn't, left out
out_at : (need : Need) (entries : List Entry) (paths : List PathEntry) (at : ℕ) (e : Entry) → slice_get entries at ≡ Some e → is_needed need e ≡ false
    → needed_of need (take at entries) (take at paths) ≡ needed_of need (take (suc at) entries) (take (suc at) paths)
out_at need [] paths at e is no_more = absurd (nothing_is e is)
out_at need (x ∷ entries) [] zero e is no_more = refl
out_at need (x ∷ entries) [] (suc at) e is no_more = refl
out_at need (x ∷ entries) (y ∷ paths) zero e is no_more = sym (ap (λ (z : Entry). if is_needed need z then y ∷ [] else []) (ap (λ o. unwrap_or o x) is) ∙ ap (λ b. if b then y ∷ [] else []) no_more)
out_at need (x ∷ entries) (y ∷ paths) (suc at) e is no_more = ap (λ zs. if is_needed need x then y ∷ zs else zs) (out_at need entries paths at e is no_more)

pub needed_out : (need : Need) (entries : List Entry) (paths : List PathEntry) (at : ℕ) (e : Entry) → slice_get entries at ≡ Some e → is_needed need e ≡ false
    → needed_of need (take at entries) (take at paths) ≡ needed_of need (take (at + 1) entries) (take (at + 1) paths)
needed_out need entries paths at e is no_more = let next : suc at ≡ at + 1 = omega arith in
    subst (λ n. needed_of need (take at entries) (take at paths) ≡ needed_of need (take n entries) (take n paths)) next (out_at need entries paths at e is no_more)

take_whole : {A : Type 0} (xs : List A) → take (length xs) xs ≡ xs
take_whole [] = refl
take_whole (x ∷ xs) = ap (λ ys. x ∷ ys) (take_whole xs)

-- behind the last entry, all are looked at
pub needed_all : (need : Need) (entries : List Entry) (paths : List PathEntry) → length paths ≡ length entries → needed_of need (take (length entries) entries) (take (length entries) paths) ≡ needed_of need entries paths
needed_all need entries paths e = ap (λ es. needed_of need es (take (length entries) paths)) (take_whole entries) ∙ ap (λ n. needed_of need entries (take n paths)) (sym e) ∙ ap (needed_of need entries) (take_whole paths)

-- Which calls of an object in memory fail, and how many have.
use Rattle.std.proofs.Common.{◌≡◌, ℕ, Bool, true, false, List, [], ◌∷◌, refl}
use Rattle.std.specs.Ordering.{nat_cmp}
use Rattle.std.specs.BTreeSet.{contains}
use Rattle.outside_mem.specs.declared.calls.Calls.{Calls}

-- the call with this number fails
abbrev pub fails : Calls → ℕ → Bool
fails calls n = contains nat_cmp calls.failing n

abbrev is_empty : {A : Type 0} → List A → Bool
is_empty [] = true
is_empty (item ∷ items) = false

-- no call does
abbrev pub never_fails : Calls → Bool
never_fails calls = is_empty calls.failing.keys

abbrev pub fault_count : Calls → ℕ
fault_count calls = calls.faults

-- the number of the next call
abbrev pub call_number : Calls → ℕ
call_number calls = calls.next

no_items : {A : Type 0} (items : List A) → is_empty items ≡ true → items ≡ []
no_items [] e = refl
no_items (item ∷ items) e = cc

-- where none fails, none has
pub no_faults : (calls : Calls) → never_fails calls ≡ true → fault_count calls ≡ 0
no_faults calls e = calls.quiet (no_items calls.failing.keys e)

-- Entries under their keys, one after another.
use Rattle.std.proofs.Common.{◌≡◌, ℕ, suc, length, arith, Bool, true, false, ◌||◌, List, [], ◌∷◌, ◌++◌, map, fold, Option, Some, None, is_some, refl, sym, ap, ◌∙◌, if◌then◌else◌}
use Rattle.std.specs.Prelude.{find}
use Rattle.std.specs.List.{list_any}
use Rattle.std.specs.Option.{option_or}
use Rattle.std.proofs.lemmas.Bool.{false≢true}
use Rattle.indexmap.specs.IndexSet.{insert_key}
use Rattle.mvn_base.specs.declared.key.Key.{Key}
use Rattle.model_types.specs.declared.dependency.Dependency.{Dependency}
use Rattle.model_merge.specs.Keyed.{keyed}
use Rattle.model_merge.proofs.UnderKeys.{find_keyed, same_key_is, values_keyed}
use Rattle.managed_deps.specs.Managed.{add, find_entry, find_pair, first_of_each, key_of, same_key}

-- a pair's answer, behind the answer of those before it
either : (b : Bool) (x : Dependency) (o other : Option Dependency) → (if b then Some x else option_or o other) ≡ option_or (if b then Some x else o) other
either true x o other = refl
either false x o other = refl

-- whether an entry of a key is among some
there : (rows : List Dependency) (d : Dependency) → list_any (λ x. same_key (key_of d) (key_of x)) rows ≡ is_some (find_pair (keyed key_of rows) (key_of d))
there [] d = refl
there (x ∷ rows) d = by (same_key (key_of d) (key_of x)) (there rows d)
  where
    by : (b : Bool) → list_any (λ x. same_key (key_of d) (key_of x)) rows ≡ is_some (find_pair (keyed key_of rows) (key_of d))
        → (b || list_any (λ x. same_key (key_of d) (key_of x)) rows) ≡ is_some (if b then Some x else find_pair (keyed key_of rows) (key_of d))
    by true further = refl
    by false further = further

keyed_more : (rows : List Dependency) (d : Dependency) → keyed key_of (rows ++ d ∷ []) ≡ keyed key_of rows ++ (key_of d, d) ∷ []
keyed_more [] d = refl
keyed_more (x ∷ rows) d = ap (λ l. (key_of x, x) ∷ l) (keyed_more rows d)

-- an entry more, where there is none of its key
pub row_more : (before after : List Dependency) (d : Dependency) → after ≡ insert_key (λ a b. same_key (key_of a) (key_of b)) before d → keyed key_of after ≡ add (keyed key_of before) d
row_more before after d is =
    ap (λ l. keyed key_of l) is
    ∙ by (list_any (λ x. same_key (key_of d) (key_of x)) before)
    ∙ ap (λ b. if b then keyed key_of before else keyed key_of before ++ (key_of d, d) ∷ []) (there before d)
  where
    by : (b : Bool) → keyed key_of (if b then before else before ++ d ∷ []) ≡ (if b then keyed key_of before else keyed key_of before ++ (key_of d, d) ∷ [])
    by true = refl
    by false = keyed_more before d

-- what is found behind a list and one pair more
find_last : (entries : List (Key × Dependency)) (wanted key : Key) (d : Dependency) → find_pair (entries ++ (key, d) ∷ []) wanted ≡ option_or (find_pair entries wanted) (if same_key wanted key then Some d else None)
find_last [] wanted key d = refl
find_last (e ∷ entries) wanted key d =
    ap (λ o. if same_key wanted e.0 then Some e.1 else o) (find_last entries wanted key d)
    ∙ either (same_key wanted e.0) e.1 (find_pair entries wanted) (if same_key wanted key then Some d else None)

kept : (o other : Option Dependency) → is_some o ≡ true → o ≡ option_or o other
kept (Some x) other e = refl
kept None other e = absurd (false≢true e)

-- an entry more is found where nothing was
find_added : (entries : List (Key × Dependency)) (d : Dependency) (wanted : Key) → find_pair (add entries d) wanted ≡ option_or (find_pair entries wanted) (if same_key wanted (key_of d) then Some d else None)
find_added entries d wanted = by (is_some (find_pair entries (key_of d))) refl
  where
    there : (b : Bool) → same_key wanted (key_of d) ≡ b → is_some (find_pair entries (key_of d)) ≡ true → find_pair entries wanted ≡ option_or (find_pair entries wanted) (if b then Some d else None)
    there true s e = kept (find_pair entries wanted) (Some d) (ap (λ k. is_some (find_pair entries k)) (same_key_is wanted (key_of d) s) ∙ e)
    there false s e = none (find_pair entries wanted)
      where
        none : (o : Option Dependency) → o ≡ option_or o None
        none (Some x) = refl
        none None = refl

    by : (b : Bool) → is_some (find_pair entries (key_of d)) ≡ b → find_pair (if b then entries else entries ++ (key_of d, d) ∷ []) wanted ≡ option_or (find_pair entries wanted) (if same_key wanted (key_of d) then Some d else None)
    by true e = there (same_key wanted (key_of d)) refl e
    by false e = find_last entries wanted (key_of d) d

one_more : (b : Bool) (o rest : Option Dependency) (d : Dependency) → option_or (option_or o (if b then Some d else None)) rest ≡ option_or o (if b then Some d else rest)
one_more true (Some x) rest d = refl
one_more true None rest d = refl
one_more false (Some x) rest d = refl
one_more false None rest d = refl

-- so of further entries
find_folded : (entries : List (Key × Dependency)) (further : List Dependency) (key : Key) → find_pair (fold add entries further) key ≡ option_or (find_pair entries key) (find_entry further key)
find_folded entries [] key = none (find_pair entries key)
  where
    none : (o : Option Dependency) → o ≡ option_or o None
    none (Some x) = refl
    none None = refl
find_folded entries (d ∷ further) key =
    find_folded (add entries d) further key
    ∙ ap (λ o. option_or o (find_entry further key)) (find_added entries d key)
    ∙ one_more (same_key key (key_of d)) (find_pair entries key) (find_entry further key) d

-- what is found among the first of each key is the first of that key
pub found : (entries : List Dependency) (key : Key) → find_pair (first_of_each entries) key ≡ find_entry entries key
found entries key = find_folded [] entries key

-- nothing is found where there is nothing
pub nothing : (rows : List Dependency) (entries : List (Key × Dependency)) (key : Key) → length rows ≡ 0 → keyed key_of rows ≡ entries → None ≡ find_pair entries key
nothing [] entries key none seen = ap (λ l. find_pair l key) seen
nothing (x ∷ rows) entries key some seen = absurd (filled (length rows) some)
  where
    filled : (n : ℕ) → suc n ≡ 0 → ⊥
    filled n e = omega (arith, e)

-- what has a key is found under it
pub row_there : (rows : List Dependency) (entries : List (Key × Dependency)) (key : Key) (found : Option Dependency) → found ≡ find (λ d. same_key key (key_of d)) rows → keyed key_of rows ≡ entries → found ≡ find_pair entries key
row_there rows entries key found is seen = is ∙ sym (find_keyed key_of rows key) ∙ ap (λ l. find_pair l key) seen

-- entries without their keys
pub values : (list rows : List Dependency) (entries : List (Key × Dependency)) → list ≡ rows → keyed key_of rows ≡ entries → list ≡ map (λ e. e.1) entries
values list rows entries is seen = is ∙ sym (values_keyed key_of rows) ∙ ap (λ l. map (λ e. e.1) l) seen

-- The first of each key.
use Rattle.std.proofs.Common.{◌≡◌, ℕ, zero, suc, Bool, true, false, ◌&&◌, List, [], ◌∷◌, ◌++◌, flat_map, Option, Some, None, is_some, refl, sym, ap, ◌∙◌, if◌then◌else◌, cond}
use Rattle.std.specs.Option.{option_or}
use Rattle.std.proofs.lemmas.Bool.{false≢true}
use Rattle.std.specs.Str.{bytes_eq}
use Rattle.std.proofs.lemmas.Slice.Eq.{bytes_eq-Decides}
use Rattle.mvn_base.specs.declared.key.Key.{Key}
use Rattle.model_merge.specs.Keyed.{same_key}
use Rattle.collector.specs.Winners.{Graph, Path, counting, ends_at, firsts, level, longer, winner_of, winners}

-- what is found in two lists
pub found_behind : (key : Key) (xs ys : List Path) → winner_of (xs ++ ys) key ≡ option_or (winner_of xs key) (winner_of ys key)
found_behind key [] ys = refl
found_behind key (p ∷ xs) ys = by (ends_at key p) (found_behind key xs ys)
  where
    by : (b : Bool) → winner_of (xs ++ ys) key ≡ option_or (winner_of xs key) (winner_of ys key) → cond b (Some p) (winner_of (xs ++ ys) key) ≡ option_or (cond b (Some p) (winner_of xs key)) (winner_of ys key)
    by true rest = refl
    by false rest = rest

pub or_none : (o : Option Path) → option_or o None ≡ o
or_none (Some x) = refl
or_none None = refl

and_left : (a b : Bool) → (a && b) ≡ true → a ≡ true
and_left true b e = refl
and_left false b e = e

and_right : (a b : Bool) → (a && b) ≡ true → b ≡ true
and_right true b e = e
and_right false b e = absurd (false≢true e)

same_text : (a b : List ℕ) → bytes_eq a b ≡ true → a ≡ b
same_text a b e = (bytes_eq-Decides a b).0 e

pub same_key_is : (a b : Key) → same_key a b ≡ true → a ≡ b
same_key_is a b e =
    let group = same_text a.group b.group (and_left _ _ e) in
    let rest = and_right (bytes_eq a.group b.group) _ e in
    let artifact = same_text a.artifact b.artifact (and_left _ _ rest) in
    let last = and_right (bytes_eq a.artifact b.artifact) _ rest in
    let kind = same_text a.kind b.kind (and_left _ _ last) in
    let classifier = same_text a.classifier b.classifier (and_right (bytes_eq a.kind b.kind) _ last) in
    λ i. record { group = group i; artifact = artifact i; kind = kind i; classifier = classifier i }

-- what is there already hides what comes behind it
hidden : (o : Option Path) (x y : Option Path) → is_some o ≡ true → option_or o x ≡ option_or o y
hidden (Some p) x y e = refl
hidden None x y e = absurd (false≢true e)

-- behind what is won, the first of a key among the first ones is the first of all
pub first_of_all : (key : Key) (won paths : List Path) → option_or (winner_of won key) (winner_of (firsts won paths) key) ≡ option_or (winner_of won key) (winner_of paths key)
first_of_all key won [] = refl
first_of_all key won ([] ∷ paths) = first_of_all key won paths
first_of_all key won ((e ∷ path) ∷ paths) = by (is_some (winner_of won e.key)) refl (first_of_all key won paths) (first_of_all key (won ++ (e ∷ path) ∷ []) paths)
  where
    lost : (b : Bool) → same_key key e.key ≡ b → is_some (winner_of won e.key) ≡ true → option_or (winner_of won key) (winner_of paths key) ≡ option_or (winner_of won key) (cond b (Some (e ∷ path)) (winner_of paths key))
    lost true same there = hidden (winner_of won key) (winner_of paths key) (Some (e ∷ path)) (ap (λ k. is_some (winner_of won k)) (same_key_is key e.key same) ∙ there)
    lost false same there = refl

    more : (b : Bool) → same_key key e.key ≡ b → winner_of (won ++ (e ∷ path) ∷ []) key ≡ option_or (winner_of won key) (cond b (Some (e ∷ path)) None)
    more b same = found_behind key won ((e ∷ path) ∷ []) ∙ ap (λ t. option_or (winner_of won key) (cond t (Some (e ∷ path)) None)) same

    new : (b : Bool) → same_key key e.key ≡ b
        → option_or (winner_of (won ++ (e ∷ path) ∷ []) key) (winner_of (firsts (won ++ (e ∷ path) ∷ []) paths) key) ≡ option_or (winner_of (won ++ (e ∷ path) ∷ []) key) (winner_of paths key)
        → option_or (winner_of won key) (cond b (Some (e ∷ path)) (winner_of (firsts (won ++ (e ∷ path) ∷ []) paths) key)) ≡ option_or (winner_of won key) (cond b (Some (e ∷ path)) (winner_of paths key))
    new true same rest = refl
    new false same rest =
        ap (λ o. option_or o (winner_of (firsts (won ++ (e ∷ path) ∷ []) paths) key)) (sym (more false same ∙ or_none (winner_of won key)))
        ∙ rest
        ∙ ap (λ o. option_or o (winner_of paths key)) (more false same ∙ or_none (winner_of won key))

    by : (b : Bool) → is_some (winner_of won e.key) ≡ b
        → option_or (winner_of won key) (winner_of (firsts won paths) key) ≡ option_or (winner_of won key) (winner_of paths key)
        → option_or (winner_of (won ++ (e ∷ path) ∷ []) key) (winner_of (firsts (won ++ (e ∷ path) ∷ []) paths) key) ≡ option_or (winner_of (won ++ (e ∷ path) ∷ []) key) (winner_of paths key)
        → option_or (winner_of won key) (winner_of (if b then firsts won paths else (e ∷ path) ∷ firsts (won ++ (e ∷ path) ∷ []) paths) key) ≡ option_or (winner_of won key) (cond (same_key key e.key) (Some (e ∷ path)) (winner_of paths key))
    by true there rest further = rest ∙ lost (same_key key e.key) refl there
    by false there rest further = new (same_key key e.key) refl further

-- the winner of a key is the first of its counting paths
pub first_counts : (graph : Graph) (n : ℕ) (key : Key) → winner_of (winners graph n) key ≡ winner_of (counting graph n) key
first_counts graph zero key = refl
first_counts graph (suc n) key =
    let paths = flat_map (longer graph) (level graph n) in
    let won = winners graph n in
    found_behind key won (firsts won paths)
    ∙ first_of_all key won paths
    ∙ ap (λ o. option_or o (winner_of paths key)) (first_counts graph n key)
    ∙ sym (found_behind key (counting graph n) paths)

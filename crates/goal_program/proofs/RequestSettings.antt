-- The settings that values are, one after another.
use Rattle.std.proofs.Common.{◌≡◌, ℕ, zero, suc, ◌-◌, ◌==◌, List, [], ◌∷◌, ◌++◌, codes, Option, Some, None, option_map, option_and_then, if◌then◌else◌, refl, sym, ap, ◌∙◌, append_assoc, arith}
use Rattle.serde_json.specs.Data.{Data}
use Rattle.goal_types.specs.Answers.{keys_of}
use Rattle.goal_program.specs.Members.{text_at, items_at, all_of}
use Rattle.goal_program.specs.Settings.{setting_in, setting_of}

-- no level is left
pub setting_zero : (levels : ℕ) (value : Data) → levels ≡ 0 → None ≡ setting_in levels value
unfolding setting_in
setting_zero levels value none = sym (ap (λ n. setting_in n value) none)

-- one level less for the children
pub setting_more : (levels : ℕ) (value : Data) → (levels ≡ 0 → ⊥) → setting_in levels value
    ≡ (if keys_of value == 3 then setting_of (text_at (codes "name") value) (text_at (codes "text") value) (option_and_then (all_of (setting_in (levels - 1))) (items_at (codes "children") value)) else None)
unfolding setting_in
setting_more zero value some = absurd (some refl)
setting_more (suc levels) value some =
    let one : levels ≡ suc levels - 1 = omega arith in
    ap (λ n. if keys_of value == 3 then setting_of (text_at (codes "name") value) (text_at (codes "text") value) (option_and_then (all_of (setting_in n)) (items_at (codes "children") value)) else None) one

-- these settings before those of another answer
abbrev pub preceded : {A : Type 0} → List A → Option (List A) → Option (List A)
preceded done o = option_map (λ more. done ++ more) o

pub preceded_none : {A : Type 0} (o : Option (List A)) → preceded [] o ≡ o
preceded_none None = refl
preceded_none (Some xs) = refl

pub preceded_more : {A : Type 0} (done : List A) (x : A) (o : Option (List A)) → preceded (done ++ x ∷ []) o ≡ preceded done (option_map (λ ys. x ∷ ys) o)
preceded_more done x None = refl
preceded_more done x (Some xs) = ap Some (append_assoc done (x ∷ []) xs)

pub all_more : {A B : Type 0} (f : A → Option B) (done : List B) (value : A) (values : List A) (x : B) → f value ≡ Some x → preceded (done ++ x ∷ []) (all_of f values) ≡ preceded done (all_of f (value ∷ values))
all_more f done value values x e = preceded_more done x (all_of f values) ∙ ap (λ o. preceded done (option_and_then (λ y. option_map (λ ys. y ∷ ys) (all_of f values)) o)) (sym e)

pub all_none : {A B : Type 0} (f : A → Option B) (done : List B) (value : A) (values : List A) → f value ≡ None → None ≡ preceded done (all_of f (value ∷ values))
all_none f done value values e = ap (λ o. preceded done (option_and_then (λ y. option_map (λ ys. y ∷ ys) (all_of f values)) o)) (sym e)

-- That keys are told apart part by part, and what a table is fed of them. Own words.
use Rattle.std.specs.Prelude.{ℕ, Bool, ◌&&◌, ◌==◌, List, [], ◌∷◌, codes, length, if◌then◌else◌}
use Rattle.std.specs.Str.{bytes_eq}
use Rattle.std.specs.Cmp.{IsEquivalence, and_equiv, on_equiv}
use Rattle.std.specs.Cmp.Lexicographic.{nat_list_eq_equiv}
use Rattle.model_merge.specs.Keyed.{same_key}
use Rattle.mvn_base.specs.declared.key.Key.{Key}

-- to have the same parts is an equivalence
pub same_key_equiv : IsEquivalence same_key
same_key_equiv =
    and_equiv (on_equiv (λ (k : Key). k.group) nat_list_eq_equiv)
    (and_equiv (on_equiv (λ (k : Key). k.artifact) nat_list_eq_equiv)
    (and_equiv (on_equiv (λ (k : Key). k.kind) nat_list_eq_equiv)
    (on_equiv (λ (k : Key). k.classifier) nat_list_eq_equiv)))

-- a jar without a classifier, as most dependencies are
abbrev pub is_usual : Key → Bool
is_usual k = (length k.classifier == 0) && bytes_eq k.kind (codes "jar")

-- what a table is fed of a key: the type and the classifier only where they tell it from most others
abbrev pub key_input : Key → List (List ℕ)
key_input k = k.artifact ∷ k.group ∷ (if is_usual k then [] else k.kind ∷ k.classifier ∷ [])

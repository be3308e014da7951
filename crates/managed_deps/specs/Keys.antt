-- That keys are told apart part by part. Own words.
use Rattle.std.specs.Cmp.{IsEquivalence, and_equiv, on_equiv}
use Rattle.std.specs.Cmp.Lexicographic.{nat_list_eq_equiv}
use Rattle.model_merge.specs.Keyed.{same_key}
use Rattle.mvn_base.specs.declared.key.Key.{Key}

-- to have the same parts is an equivalence
pub same_key_equiv : IsEquivalence same_key
same_key_equiv =
    and_equiv (on_equiv (λ (k : Key). k.group) nat_list_eq_equiv)
    (and_equiv (on_equiv (λ (k : Key). k.artifact) nat_list_eq_equiv)
    (and_equiv (on_equiv (λ (k : Key). k.kind) nat_list_eq_equiv)
    (on_equiv (λ (k : Key). k.classifier) nat_list_eq_equiv)))

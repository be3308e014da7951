-- Settings, level by level.
use Rattle.std.proofs.Common.{◌≡◌, ℕ, zero, suc, ◌-◌, List, [], map, refl, ap, arith}
use Rattle.pom_text.specs.declared.node.Node.{Node}
use Rattle.pom_model.specs.AnyNames.{all_in, setting_of, settings_within}

pub settings_zero : (depth : ℕ) (nodes : List Node) (ks : List ℕ) → depth ≡ 0 → settings_within depth nodes ks ≡ []
unfolding settings_within
settings_zero depth nodes ks none = ap (λ d. settings_within d nodes ks) none

pub settings_more : (depth : ℕ) (nodes : List Node) (ks : List ℕ) → (depth ≡ 0 → ⊥) → settings_within depth nodes ks ≡ map (setting_of (settings_within (depth - 1) nodes)) (all_in nodes ks)
unfolding settings_within
settings_more zero nodes ks some = absurd (some refl)
settings_more (suc depth) nodes ks some =
    let one : depth ≡ suc depth - 1 = omega arith in
    ap (λ d. map (setting_of (settings_within d nodes)) (all_in nodes ks)) one

pub settings_none : (depth : ℕ) (nodes : List Node) → settings_within depth nodes [] ≡ []
unfolding settings_within
settings_none zero nodes = refl
settings_none (suc depth) nodes = refl

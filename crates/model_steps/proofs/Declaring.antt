-- Where no plugin is declared.
use Rattle.std.proofs.Common.{◌≡◌, ℕ, suc, arith, List, [], ◌∷◌, length, refl, sym, ap, ◌∙◌}
use Rattle.model_types.specs.declared.plugin.Plugin.{Plugin}
use Rattle.managed_deps.specs.Managed.{apply_plugins}

nothing : (plugins : List Plugin) → length plugins ≡ 0 → plugins ≡ []
nothing [] none = refl
nothing (x ∷ plugins) none = absurd (more (length plugins) none)
  where
    more : (n : ℕ) → suc n ≡ 0 → ⊥
    more n e = omega (arith, e)

pub none_declared : (plugins managed list : List Plugin) → length plugins ≡ 0 → list ≡ [] → list ≡ apply_plugins plugins managed
none_declared plugins managed list none is = is ∙ sym (ap (λ l. apply_plugins l managed) (nothing plugins none))

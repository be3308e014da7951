-- Plugins that are alike are equal.
use Rattle.std.proofs.Common.{◌≡◌, ℕ, suc, ◌+◌, ◌<◌, ◌≤◌, Bool, true, false, ◌&&◌, List, [], ◌∷◌, length, get_or, drop, Option, None, Some, refl, arith, sym, ap, ◌∙◌}
use Rattle.std.specs.Str.{bytes_eq}
use Rattle.std.proofs.lemmas.Bool.{false≢true}
use Rattle.std.proofs.lemmas.List.{drop_all, drop_more}
use Rattle.std.proofs.lemmas.Slice.Eq.{bytes_eq-Decides}
use Rattle.model_types.specs.declared.build.BuildBase.{BuildBase}
use Rattle.model_types.specs.declared.plugin.Plugin.{Plugin}
use Rattle.model_steps.specs.Alike.{are_alike, begins_alike, has_none, is_alike, is_base_alike, is_plain, is_same, is_stated_alike}

pub and_left : (a b : Bool) → (a && b) ≡ true → a ≡ true
and_left true b e = refl
and_left false b e = e

pub and_right : (a b : Bool) → (a && b) ≡ true → b ≡ true
and_right true b e = e
and_right false b e = absurd (false≢true e)

same_text : (a b : List ℕ) → bytes_eq a b ≡ true → a ≡ b
same_text a b e = (bytes_eq-Decides a b).0 e

same_stated : (a b : Option (List ℕ)) → is_stated_alike a b ≡ true → a ≡ b
same_stated (Some a) (Some b) e = ap Some (same_text a b e)
same_stated (Some a) None e = absurd (false≢true e)
same_stated None (Some b) e = absurd (false≢true e)
same_stated None None e = refl

same_flag : (a b : Bool) → is_same a b ≡ true → a ≡ b
same_flag true b e = sym e
same_flag false true e = absurd (false≢true e)
same_flag false false e = refl

-- two lists without items
none_each : {T : Type 0} (a b : List T) → has_none a ≡ true → has_none b ≡ true → a ≡ b
none_each [] [] e f = refl
none_each [] (y ∷ b) e f = absurd (false≢true f)
none_each (x ∷ a) b e f = absurd (false≢true e)

plugin_same : (a b : Plugin) → is_alike a b ≡ true → a ≡ b
plugin_same a b e =
    let plain = and_left (is_plain a) _ e in
    let rest = and_right (is_plain a) _ e in
    let other = and_left (is_plain b) _ rest in
    let names = and_right (is_plain b) _ rest in
    let artifact = same_text a.artifact b.artifact (and_left _ _ names) in
    let further = and_right (bytes_eq a.artifact b.artifact) _ names in
    let group = same_text a.group b.group (and_left _ _ further) in
    let last = and_right (bytes_eq a.group b.group) _ further in
    let version = same_stated a.version b.version (and_left _ _ last) in
    let inherited = same_flag a.inherited b.inherited (and_right (is_stated_alike a.version b.version) _ last) in
    let dependencies = none_each a.dependencies b.dependencies (and_left _ _ plain) (and_left _ _ other) in
    let below = and_right (has_none a.dependencies) _ plain in
    let beside = and_right (has_none b.dependencies) _ other in
    let executions = none_each a.executions b.executions (and_left _ _ below) (and_left _ _ beside) in
    let configuration = none_each a.configuration b.configuration
    (and_right (has_none a.executions) _ below) (and_right (has_none b.executions) _ beside) in
    λ i. record {
      group = group i;
      artifact = artifact i;
      version = version i;
      inherited = inherited i;
      dependencies = dependencies i;
      executions = executions i;
      configuration = configuration i;
    }

plugins_same : (a b : List Plugin) → are_alike a b ≡ true → a ≡ b
plugins_same [] [] e = refl
plugins_same [] (q ∷ b) e = absurd (false≢true e)
plugins_same (p ∷ a) [] e = absurd (false≢true e)
plugins_same (p ∷ a) (q ∷ b) e =
    let first = plugin_same p q (and_left (is_alike p q) _ e) in
    let rest = plugins_same a b (and_right (is_alike p q) _ e) in
    λ i. first i ∷ rest i

pub base_same : (a b : BuildBase) → is_base_alike a b ≡ true → a ≡ b
base_same a b e =
    let managed_plugins = plugins_same a.managed_plugins b.managed_plugins (and_left _ _ e) in
    let plugins = plugins_same a.plugins b.plugins (and_right (are_alike a.managed_plugins b.managed_plugins) _ e) in
    λ i. record { plugins = plugins i; managed_plugins = managed_plugins i }

pub none_behind : (plugins : List Plugin) → length plugins ≡ 0 → plugins ≡ drop 1 plugins
none_behind [] none = refl
none_behind (p ∷ plugins) some = absurd (filled (length plugins) some)
  where
    filled : (n : ℕ) → suc n ≡ 0 → ⊥
    filled n e = omega (arith, e)

-- the turns of the loop: how the rest of one list begins
begins : (a : List Plugin) (k : ℕ) (p : Plugin) → k < length a → p ≡ get_or a k p → drop k a ≡ p ∷ drop (k + 1) a
begins a k p low is = drop_more a k p low ∙ ap (λ q. q ∷ drop (k + 1) a) (sym is)

-- what the other list comes to by its first
by_first : (p : Plugin) (more rest : List Plugin) → are_alike (p ∷ more) rest ≡ (begins_alike p rest && are_alike more (drop 1 rest))
by_first p more [] = refl
by_first p more (q ∷ rest) = refl

whole_by : (a rest : List Plugin) (k : ℕ) (p : Plugin) (whole : Bool) → k < length a → p ≡ get_or a k p → are_alike (drop k a) rest ≡ whole → (begins_alike p rest && are_alike (drop (k + 1) a) (drop 1 rest)) ≡ whole
whole_by a rest k p whole low is so = sym (ap (λ l. are_alike l rest) (begins a k p low is) ∙ by_first p (drop (k + 1) a) rest) ∙ so

pub one_unlike : (a rest : List Plugin) (k : ℕ) (p : Plugin) (whole : Bool) → k < length a → p ≡ get_or a k p → begins_alike p rest ≡ false → are_alike (drop k a) rest ≡ whole → false ≡ whole
one_unlike a rest k p whole low is unlike so = sym (ap (λ b. b && are_alike (drop (k + 1) a) (drop 1 rest)) unlike) ∙ whole_by a rest k p whole low is so

pub one_alike : (a rest further : List Plugin) (k : ℕ) (p : Plugin) (whole : Bool) → k < length a → p ≡ get_or a k p → begins_alike p rest ≡ true → further ≡ drop 1 rest → are_alike (drop k a) rest ≡ whole → are_alike (drop (k + 1) a) further ≡ whole
one_alike a rest further k p whole low is like behind so =
    ap (are_alike (drop (k + 1) a)) behind
    ∙ sym (ap (λ b. b && are_alike (drop (k + 1) a) (drop 1 rest)) like) ∙ whole_by a rest k p whole low is so

-- nothing is left of the one
pub none_left : (a rest : List Plugin) (k : ℕ) (whole : Bool) → length a ≤ k → are_alike (drop k a) rest ≡ whole → has_none rest ≡ whole
none_left a rest k whole past so = by rest ∙ sym (ap (λ l. are_alike l rest) (drop_all k a past)) ∙ so
  where
    by : (l : List Plugin) → has_none l ≡ are_alike [] l
    by [] = refl
    by (q ∷ l) = refl

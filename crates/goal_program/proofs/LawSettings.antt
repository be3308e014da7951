-- A setting is read as it was written.
use Rattle.std.proofs.Common.{◌≡◌, ℕ, zero, suc, ◌≤◌, List, [], ◌∷◌, map, Option, Some, option_map, option_and_then, refl, sym, ap, subst, ◌∙◌, arith}
use Rattle.serde_json.specs.Data.{Data, array, depth, items_depth}
use Rattle.serde_json.specs.View.{items_of}
use Rattle.mvn_base.specs.declared.setting.Setting.{Setting}
use Rattle.mvn_base.specs.declared.setting.Setting.TheOpen.{Setting-F}
use Rattle.mvn_base.specs.declared.setting.Setting.TheViews.{roll-Setting}
use Rattle.mvn_base.specs.declared.setting.Setting.TheFolds.{fold-roll-Setting, ind-Setting}
use Rattle.goal_types.specs.Requests.{setting_object, setting_step, setting_data}
use Rattle.goal_program.specs.Members.{items_list, all_of}
use Rattle.goal_program.specs.Settings.{setting_in, setting_of}
use Rattle.goal_program.proofs.Json.{IsPlain, ArePlain}

-- ---- it is plain

abbrev IsPlainSetting : Setting → Type 0
IsPlainSetting s = IsPlain (setting_data s)

object_plain : (name text : List ℕ) (children : Data) → IsPlain children → IsPlain (setting_object name text children)
object_plain name text children h = (refl, (h, (tt, (tt, tt))))

children_plain : (ss : List ((s : Setting) × IsPlainSetting s)) → ArePlain (items_of (map setting_data (map (λ e. e.0) ss)))
children_plain [] = tt
children_plain (e ∷ ss) = (e.1, children_plain ss)

pub setting_plain : (s : Setting) → IsPlain (setting_data s)
setting_plain = ind-Setting IsPlainSetting (λ x y is.
    let inner = subst (λ (z : Setting-F Setting). ArePlain (items_of (map setting_data z.children))) is (children_plain y.children) in
    subst IsPlain (sym (fold-roll-Setting Data setting_step x)) (object_plain x.name x.text (array (items_of (map setting_data x.children))) inner))

pub settings_plain : (ss : List Setting) → ArePlain (items_of (map setting_data ss))
settings_plain [] = tt
settings_plain (s ∷ ss) = (setting_plain s, settings_plain ss)

-- ---- it is read

abbrev IsRead : Setting → Type 0
IsRead s = (levels : ℕ) → depth (setting_data s) ≤ levels → setting_in levels (setting_data s) ≡ Some s

-- the settings of these data
abbrev read_all : ℕ → List Setting → Option (List Setting)
read_all levels ss = all_of (setting_in levels) (items_list (items_of (map setting_data ss)))

more_read : (levels : ℕ) (s : Setting) (ss : List Setting) → setting_in levels (setting_data s) ≡ Some s → read_all levels ss ≡ Some ss → read_all levels (s ∷ ss) ≡ Some (s ∷ ss)
more_read levels s ss one more = ap (option_and_then (λ y. option_map (λ ys. y ∷ ys) (read_all levels ss))) one ∙ ap (option_map (λ ys. s ∷ ys)) more

children_read : (levels : ℕ) (ss : List ((s : Setting) × IsRead s)) → items_depth (items_of (map setting_data (map (λ e. e.0) ss))) ≤ levels → read_all levels (map (λ e. e.0) ss) ≡ Some (map (λ e. e.0) ss)
children_read levels [] low = refl
children_read levels (e ∷ ss) low =
    let here : depth (setting_data e.0) ≤ levels = omega (arith, low) in
    let there : items_depth (items_of (map setting_data (map (λ e. e.0) ss))) ≤ levels = omega (arith, low) in
    more_read levels e.0 (map (λ e. e.0) ss) (e.1 levels here) (children_read levels ss there)

object_read : (levels : ℕ) (x : Setting-F Setting) → read_all levels x.children ≡ Some x.children → setting_in (suc levels) (setting_object x.name x.text (array (items_of (map setting_data x.children)))) ≡ Some (roll-Setting x)
unfolding setting_in
object_read levels x e = ap (setting_of (Some x.name) (Some x.text)) e

step_read : (levels : ℕ) (x : Setting-F Setting) → ((n : ℕ) → items_depth (items_of (map setting_data x.children)) ≤ n → read_all n x.children ≡ Some x.children)
    → depth (setting_object x.name x.text (array (items_of (map setting_data x.children)))) ≤ levels → setting_in levels (setting_object x.name x.text (array (items_of (map setting_data x.children)))) ≡ Some (roll-Setting x)
step_read zero x children low = absurd (omega (arith, low))
step_read (suc n) x children low = let inner : items_depth (items_of (map setting_data x.children)) ≤ n = omega (arith, low) in object_read n x (children n inner)

pub setting_read : (s : Setting) → IsRead s
setting_read = ind-Setting IsRead (λ x y is levels low.
    let said = fold-roll-Setting Data setting_step x in
    let children = subst (λ (z : Setting-F Setting). (n : ℕ) → items_depth (items_of (map setting_data z.children)) ≤ n → read_all n z.children ≡ Some z.children) is (λ n h. children_read n y.children h) in
    ap (setting_in levels) said ∙ step_read levels x children (subst (λ d. depth d ≤ levels) said low))

pub settings_read : (levels : ℕ) (ss : List Setting) → items_depth (items_of (map setting_data ss)) ≤ levels → read_all levels ss ≡ Some ss
settings_read levels [] low = refl
settings_read levels (s ∷ ss) low =
    let here : depth (setting_data s) ≤ levels = omega (arith, low) in
    let there : items_depth (items_of (map setting_data ss)) ≤ levels = omega (arith, low) in
    more_read levels s ss (setting_read s levels here) (settings_read levels ss there)

-- A request's line: a setting level by level, and that no number in it is a float.
use Rattle.std.proofs.Common.{◌≡◌, ℕ, Bool, true, false, ◌||◌, List, [], ◌∷◌, map, Option, Some, None, refl, ap, subst, ◌∙◌}
use Rattle.serde_json.specs.Data.{Data, array}
use Rattle.serde_json.specs.View.{items_of}
use Rattle.serde_json.specs.Written.{has_float, items_have_float}
use Rattle.mvn_base.specs.declared.setting.Setting.{Setting}
use Rattle.mvn_base.specs.declared.setting.Setting.TheOpen.{Setting-F}
use Rattle.mvn_base.specs.declared.setting.Setting.TheViews.{out-Setting, roll-Setting}
use Rattle.mvn_base.specs.declared.setting.Setting.TheFolds.{fold-roll-Setting, fold_out-Setting, ind-Setting}
use Rattle.goal_types.specs.declared.goal.SourceFile.{SourceFile}
use Rattle.goal_types.specs.declared.goal.OwnBytes.{OwnBytes}
use Rattle.goal_types.specs.declared.goal.PathEntry.{PathEntry}
use Rattle.goal_types.specs.declared.goal.GoalRequest.{GoalRequest}
use Rattle.goal_types.specs.Requests.{setting_object, setting_step, setting_data, source_data, own_data, count_data, entry_data, list_data, request_object, request_data}

-- a setting is its name, its text and its children's data
pub setting_out : (s : Setting) → setting_data s ≡ setting_object (out-Setting s).name (out-Setting s).text (array (items_of (map setting_data (out-Setting s).children)))
setting_out = fold_out-Setting Data setting_step

abbrev HasNoFloat : Data → Type 0
HasNoFloat d = has_float d ≡ false

or_false : (a b : Bool) → a ≡ false → b ≡ false → (a || b) ≡ false
or_false true b p q = p
or_false false b p q = q

-- none in items of which none has one
items_no_float : {A : Type 0} (f : A → Data) → ((a : A) → HasNoFloat (f a)) → (items : List A) → items_have_float (items_of (map f items)) ≡ false
items_no_float f h [] = refl
items_no_float f h (a ∷ items) = or_false (has_float (f a)) _ (h a) (items_no_float f h items)

object_no_float : (name text : List ℕ) (children : Data) → HasNoFloat children → HasNoFloat (setting_object name text children)
object_no_float name text children h = or_false (has_float children) false h refl

abbrev IsPlainSetting : Setting → Type 0
IsPlainSetting s = HasNoFloat (setting_data s)

children_no_float : (ss : List ((s : Setting) × IsPlainSetting s)) → items_have_float (items_of (map setting_data (map (λ e. e.0) ss))) ≡ false
children_no_float [] = refl
children_no_float (e ∷ ss) = or_false (has_float (setting_data e.0)) _ e.1 (children_no_float ss)

pub setting_no_float : (s : Setting) → HasNoFloat (setting_data s)
setting_no_float = ind-Setting IsPlainSetting (λ x y is.
    let inner = subst (λ (z : Setting-F Setting). items_have_float (items_of (map setting_data z.children)) ≡ false) is (children_no_float y.children) in
    ap has_float (fold-roll-Setting Data setting_step x) ∙ object_no_float x.name x.text (array (items_of (map setting_data x.children))) inner)

count_no_float : (bytes : Option (List ℕ)) → HasNoFloat (count_data bytes)
count_no_float None = refl
count_no_float (Some bytes) = refl

entry_no_float : (e : PathEntry) → HasNoFloat (entry_data e)
entry_no_float e = or_false (has_float (count_data e.bytes)) false (count_no_float e.bytes) refl

pub request_no_float : (r : GoalRequest) → HasNoFloat (request_data r)
unfolding request_object
request_no_float r =
    or_false (has_float (list_data entry_data r.classpath)) _ (items_no_float entry_data entry_no_float r.classpath) (
    or_false (has_float (list_data setting_data r.call.configuration)) _ (items_no_float setting_data setting_no_float r.call.configuration) (
    or_false (has_float (list_data own_data r.own)) _ (items_no_float own_data (λ o. refl) r.own) (
    or_false (has_float (list_data source_data r.sources)) _ (items_no_float source_data (λ s. refl) r.sources) refl)))

-- Which bytes the parts of a coordinate lack.
use Rattle.std.proofs.Common.{◌≡◌, ℕ, Bool, true, false, not, ◌&&◌, ◌||◌, ◌==◌, List, [], ◌∷◌, ◌++◌, length, arith, subst, refl, sym, ap, ◌∙◌, if◌then◌else◌}
use Rattle.std.specs.List.{list_all, slice_split}
use Rattle.std.proofs.lemmas.Bool.{false≢true}
use Rattle.mvn_base.specs.FileName.{classifier_part, is_classifier}
use Rattle.mvn_base.specs.Names.{has_expression, is_dot, is_dots, is_filled, is_group, is_name, is_name_byte, is_version, is_version_byte}
use Rattle.mvn_base.proofs.Cuts.{Lacks, and_left, and_right, lacks_failing}

slash_is_no_name : is_name_byte 47 ≡ false
unfolding is_name_byte
slash_is_no_name = refl

colon_is_no_name : is_name_byte 58 ≡ false
unfolding is_name_byte
colon_is_no_name = refl

slash_is_no_version : is_version_byte 47 ≡ false
unfolding is_version_byte
slash_is_no_version = refl

-- the bytes of a name are those of names
name_bytes : (text : List ℕ) → is_name text ≡ true → list_all is_name_byte text ≡ true
unfolding is_name
name_bytes text valid = and_right (is_filled text && not (is_dots text)) (list_all is_name_byte text) valid

version_bytes : (text : List ℕ) → is_version text ≡ true → list_all is_version_byte text ≡ true
unfolding is_version
version_bytes text valid =
    and_right (is_filled text && not (is_dots text)) (list_all is_version_byte text)
    (and_left (is_filled text && not (is_dots text) && list_all is_version_byte text) (not (has_expression text)) valid)

-- a name has no `/` and no `:`
pub name_lacks_slash : (text : List ℕ) → is_name text ≡ true → Lacks 47 text
name_lacks_slash text valid = lacks_failing 47 is_name_byte slash_is_no_name text (name_bytes text valid)

pub name_lacks_colon : (text : List ℕ) → is_name text ≡ true → Lacks 58 text
name_lacks_colon text valid = lacks_failing 58 is_name_byte colon_is_no_name text (name_bytes text valid)

-- a group is a name
pub group_is_name : (text : List ℕ) → is_group text ≡ true → is_name text ≡ true
unfolding is_group
group_is_name text valid = and_left (is_name text) (list_all is_filled (slice_split is_dot text)) valid

colon_is_no_version : is_version_byte 58 ≡ false
unfolding is_version_byte
colon_is_no_version = refl

-- a version has no `/` and no `:`
pub version_lacks_colon : (text : List ℕ) → is_version text ≡ true → Lacks 58 text
version_lacks_colon text valid = lacks_failing 58 is_version_byte colon_is_no_version text (version_bytes text valid)

pub version_lacks_slash : (text : List ℕ) → is_version text ≡ true → Lacks 47 text
version_lacks_slash text valid = lacks_failing 47 is_version_byte slash_is_no_version text (version_bytes text valid)

-- what a classifier adds has no `/`
pub classifier_lacks_slash : (text : List ℕ) → is_classifier text ≡ true → Lacks 47 (classifier_part text)
classifier_lacks_slash text valid = by (length text == 0) refl
  where
    other : (◌≡◌ {A = ℕ} 45 47) → ⊥
    other e = omega (arith, e)

    by : (b : Bool) → (length text == 0) ≡ b → Lacks 47 (classifier_part text)
    by true s = subst (λ b. Lacks 47 (if not b then 45 ∷ text else [])) (sym s) (record {})
    by false s = subst (λ b. Lacks 47 (if not b then 45 ∷ text else [])) (sym s) (other, name_lacks_slash text (sym (ap (λ b. not (not b) || is_name text) s) ∙ valid))

-- The bytes of a group, and the names that are made of it.
use Rattle.std.proofs.Common.{◌≡◌, ℕ, ◌<◌, Bool, true, false, ◌&&◌, List, length, get_or, refl, sym, ◌∙◌, arith}
use Rattle.std.proofs.lemmas.Bool.{false≢true}
use Rattle.std.proofs.lemmas.Bool.Decides.{nat_tests}
use Rattle.std.proofs.lemmas.List.Folds.{list_all_at}
use Rattle.std.specs.List.{list_all}
use Rattle.mvn_base.specs.Names.{is_name_byte, is_name, is_group}

name_byte_ascii : (b : ℕ) → is_name_byte b ≡ true → b < 128
unfolding is_name_byte
name_byte_ascii b h = grind (arith, nat_tests)

last_of_two : (a b : Bool) → (a && b) ≡ true → b ≡ true
last_of_two true b h = h
last_of_two false b h = absurd (false≢true h)

first_of_two : (a b : Bool) → (a && b) ≡ true → a ≡ true
first_of_two true b h = refl
first_of_two false b h = h

at_name_byte : (group : List ℕ) (i : ℕ) (b : Bool) → is_name_byte (get_or group i 0) ≡ b → list_all is_name_byte group ≡ true → i < length group → get_or group i 0 < 128
at_name_byte group i true e all low = name_byte_ascii (get_or group i 0) e
at_name_byte group i false e all low = absurd (false≢true (sym (list_all_at is_name_byte group i 0 low e) ∙ all))

name_bytes : (group : List ℕ) → is_group group ≡ true → list_all is_name_byte group ≡ true
unfolding is_group is_name
name_bytes group ok = last_of_two _ (list_all is_name_byte group) (first_of_two _ _ ok)

-- a group has ASCII bytes alone
pub group_ascii : (group : List ℕ) (i : ℕ) → is_group group ≡ true → i < length group → get_or group i 0 < 128
group_ascii group i ok low = at_name_byte group i (is_name_byte (get_or group i 0)) refl (name_bytes group ok) low

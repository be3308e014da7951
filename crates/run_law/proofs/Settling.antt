-- What of a script is passed over, by the files that are there.
use Rattle.std.proofs.Common.{◌≡◌, ℕ, zero, suc, ◌-◌, ◌<◌, ◌≤◌, Bool, true, false, ◌&&◌, List, [], ◌∷◌, length, drop, take, get_or, Option, Some, None, refl, arith, sym, ap, subst, if◌then◌else◌}
use Rattle.std.specs.List.{list_all}
use Rattle.std.specs.Option.{option_map_or}
use Rattle.build_core.specs.Locks.{below}
use Rattle.build_core.specs.declared.mode.Mode.TheVariants.{Exclusive}
use Rattle.scripts.specs.declared.outline.ModuleOutline.{ModuleOutline}
use Rattle.scripts.specs.declared.script_place.ScriptPlace.{ScriptPlace}
use Rattle.scripts.specs.declared.script_place.ScriptPlace.TheVariants as place
use Rattle.scripts.specs.ScriptPlaces.{own_from, rest_of, stage_at}
use Rattle.scripts.specs.Scripts.{Script, answers, choice_script, fetches, frees, install_script, is_there, lock_script, may_publish, own_script, read_script, reads, release_script, settled, step, steps, takes, whole}
use Rattle.scripts.proofs.Climbs.{both}
use Rattle.run_law.specs.Absent.{IsFirstAbsent}

module _ (there : List Bool) (empty : Bool) (rest : Script) where
  -- a file more in front that is there
  here_more : (x : ℕ) (files : List ℕ) (Q : Script → Type 0) → is_there there x ≡ true → Q (settled there empty (steps 3 fetches files rest)) → Q (settled there empty (steps 3 fetches (x ∷ files) rest))
  here_more x files Q is holds = subst (λ b. Q (if b then settled there empty (steps 3 fetches files rest) else step 3 (fetches x) (steps 3 fetches files rest))) (sym is) holds

  -- what is passed over of a fetch list, from a place on
  pub passed : (files : List ℕ) (from : ℕ) (found : Option ℕ) → IsFirstAbsent there files from found
      → settled there empty (steps 3 fetches (drop from files) rest) ≡ option_map_or (λ at. steps 3 fetches (drop at files) rest) found (settled there empty rest)
  passed [] zero None is = refl
  passed [] (suc from) None is = refl
  passed [] from (Some at) is = absurd (omega (arith, is.1))
  passed (x ∷ files) zero None is =
      let parts = both (is_there there x) (list_all (is_there there) files) is in
      here_more x files (λ s. s ≡ settled there empty rest) parts.0 (passed files 0 None parts.1)
  passed (x ∷ files) zero (Some zero) is = ap (λ b. if b then settled there empty (steps 3 fetches files rest) else step 3 (fetches x) (steps 3 fetches files rest)) is.3
  passed (x ∷ files) zero (Some (suc at)) is =
      let less : suc at - 0 ≡ suc (at - 0) = omega arith in
      let front : (is_there there x && list_all (is_there there) (take (at - 0) files)) ≡ true = subst (λ n. list_all (is_there there) (take n (x ∷ files)) ≡ true) less is.2 in
      let parts = both (is_there there x) (list_all (is_there there) (take (at - 0) files)) front in
      here_more x files (λ s. s ≡ steps 3 fetches (drop at files) rest) parts.0 (passed files 0 (Some at) (omega arith, omega (arith, is.1), parts.1, is.3))
  passed (x ∷ files) (suc from) None is = passed files from None is
  passed (x ∷ files) (suc from) (Some zero) is = absurd (omega (arith, is.0))
  passed (x ∷ files) (suc from) (Some (suc at)) is =
      let less : suc at - suc from ≡ at - from = omega arith in
      passed files from (Some at) (omega (arith, is.0), omega (arith, is.1), subst (λ n. list_all (is_there there) (take n (drop from files)) ≡ true) less is.2, is.3)

-- where one file isn't there, not all are
not_all : (there : List Bool) (files : List ℕ) (at : ℕ) → at < length files → is_there there (get_or files at 0) ≡ false → list_all (is_there there) files ≡ false
not_all there [] at low is = absurd (omega (arith, low))
not_all there (x ∷ files) zero low is = ap (λ b. b && list_all (is_there there) files) is
not_all there (x ∷ files) (suc at) low is = by (is_there there x) (not_all there files at (omega (arith, low)) is)
  where
    by : (b : Bool) → list_all (is_there there) files ≡ false → (b && list_all (is_there there) files) ≡ false
    by true e = e
    by false e = refl

module _ (m : ModuleOutline) (there : List Bool) (empty : Bool) where
  abbrev chosen : Bool → Script
  chosen all = if all then settled there empty (read_script m) else settled there empty (step 3 frees (lock_script m))

  pub choosing : (found : Option ℕ) → IsFirstAbsent there m.fetch 0 found
      → settled there empty (choice_script m) ≡ option_map_or (λ at. settled there empty (rest_of m place.Unsharing)) found (settled there empty (rest_of m (place.Reading 0)))
  unfolding rest_of
  choosing None is = ap chosen is
  choosing (Some at) is = ap chosen (not_all there m.fetch at is.1 is.3)

  pub fetching : (from : ℕ) (found : Option ℕ) → IsFirstAbsent there m.fetch from found
      → settled there empty (rest_of m (place.Fetching from)) ≡ option_map_or (λ at. rest_of m (place.Fetching at)) found (settled there empty (rest_of m (place.Reading 0)))
  unfolding rest_of
  fetching from None is = passed there empty (read_script m) m.fetch from None is
  fetching from (Some at) is = passed there empty (read_script m) m.fetch from (Some at) is

  -- ---- from the reading on

  abbrev Same : Script → Type 0
  Same s = settled there empty s ≡ settled [] empty s

  own_same : (xs : List ℕ) → Same (steps 6 may_publish xs (step 6 frees whole))
  own_same [] = refl
  own_same (x ∷ xs) = refl

  installing : (i : ℕ) (own : List ℕ) → Same (own_from i own)
  installing zero [] = refl
  installing zero (x ∷ own) = refl
  installing (suc i) own = own_same (drop (suc i) own)

  securing : Same (install_script m)
  securing = by m.installs
    where
      by : (b : Bool) → Same (if b then step 6 (takes Exclusive m.own_name) (own_script m.own) else whole)
      by true = refl
      by false = refl

  answering : (xs : List ℕ) → Same (steps 5 answers xs (install_script m))
  answering [] = securing
  answering (x ∷ xs) = refl

  releasing : Same (release_script m)
  releasing = ap (λ s. if empty then s else release_script m) (answering (below m.goals))

  reading : (xs : List ℕ) → Same (steps 4 reads xs (release_script m))
  reading [] = releasing
  reading (x ∷ xs) = refl

  pub late : (p : ScriptPlace) → 4 ≤ stage_at p → settled there empty (rest_of m p) ≡ settled [] empty (rest_of m p)
  unfolding rest_of
  late (place.Sharing i) is = absurd (omega (arith, is))
  late place.Unsharing is = absurd (omega (arith, is))
  late (place.Locking i) is = absurd (omega (arith, is))
  late (place.Fetching i) is = absurd (omega (arith, is))
  late (place.Reading i) is = reading (drop i m.reads)
  late place.Releasing is = releasing
  late (place.Answering i) is = answering (drop i (below m.goals))
  late place.Securing is = securing
  late (place.Installing i) is = installing i m.own
  late place.Whole is = refl

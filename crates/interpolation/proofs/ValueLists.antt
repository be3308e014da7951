-- Texts that are filled part by part.
use Rattle.std.proofs.Common.{◌≡◌, ℕ, suc, ◌+◌, ◌<◌, Bool, true, false, List, [], ◌∷◌, ◌++◌, length, get_or, drop, Option, None, Some, Result, Ok, Err, refl, arith, sym, ap, subst, ◌∙◌, if◌then◌else◌}
use Rattle.std.specs.Option.{option_map_or, option_or}
use Rattle.std.specs.Str.{bytes_eq}
use Rattle.std.proofs.Math.Seq.{drop-cons}
use Rattle.std.proofs.lemmas.List.{append_assoc}
use Rattle.mvn_base.specs.declared.machine.Pair.{Pair}
use Rattle.mvn_base.specs.declared.rule.Rule.{Rule}
use Rattle.interpolation.specs.declared.part.Part.{Part}
use Rattle.interpolation.specs.Expressions.{last_named}
use Rattle.interpolation.specs.KnownValues.{Filled, ◌>>=◌, filled_from, value, with_part}
use Rattle.interpolation.specs.Parts.{parts}
use Rattle.interpolation.specs.Texts.{first_name, resolved, unresolved}
use Rattle.interpolation.specs.Tables.{Gives}
use Rattle.interpolation.specs.declared.fault.FillFault.{FillFault}
use Rattle.interpolation.specs.declared.fault.FillFault.TheVariants.{Refused, Memory}
use Rattle.interpolation.specs.declared.filler.Filler.{Filler}

-- three lists behind another
pub behind_three : {A : Type 0} (before a b d : List A) {one two : List A} → one ≡ before ++ a → two ≡ one ++ b → two ++ d ≡ before ++ ((a ++ b) ++ d)
behind_three before a b d first second =
    ap (λ l. l ++ d) (second ∙ ap (λ l. l ++ b) first) ∙ append_assoc (before ++ a) b d ∙ append_assoc before a (b ++ d) ∙ ap (λ l. before ++ l) (sym (append_assoc a b d))

-- the rest of a text, one part at a time
part_at : (place : List ℕ) (value : List ℕ → Filled (List ℕ)) (done : List ℕ) (parts : List Part) (i : ℕ) (p : Part) → i < length parts → p ≡ get_or parts i p → filled_from place value done (drop i parts) ≡ (with_part place value done p >>= (λ more. filled_from place value more (drop (i + 1) parts)))
part_at place value done parts i p low is =
    let one : i + 1 ≡ suc i = omega arith in
    ap (filled_from place value done) (drop-cons parts i p low)
    ∙ ap (λ a. with_part place value done a >>= (λ more. filled_from place value more (drop (suc i) parts))) (sym is)
    ∙ ap (λ k. with_part place value done p >>= (λ more. filled_from place value more (drop k parts))) (sym one)

pub part_fails : (place : List ℕ) (value : List ℕ → Filled (List ℕ)) (done : List ℕ) (parts : List Part) (i : ℕ) (p : Part) (e : Rule × List ℕ) (whole : Filled (List ℕ)) → i < length parts → p ≡ get_or parts i p → with_part place value done p ≡ Err e → filled_from place value done (drop i parts) ≡ whole → whole ≡ Err e
part_fails place value done parts i p e whole low is fails so =
    sym so ∙ part_at place value done parts i p low is ∙ ap (λ r. r >>= (λ more. filled_from place value more (drop (i + 1) parts))) fails

pub part_more : (place : List ℕ) (value : List ℕ → Filled (List ℕ)) (done more : List ℕ) (parts : List Part) (i : ℕ) (p : Part) (whole : Filled (List ℕ)) → i < length parts → p ≡ get_or parts i p → with_part place value done p ≡ Ok more → filled_from place value done (drop i parts) ≡ whole → filled_from place value more (drop (i + 1) parts) ≡ whole
part_more place value done more parts i p whole low is comes so =
    sym (ap (λ r. r >>= (λ d. filled_from place value d (drop (i + 1) parts))) comes) ∙ sym (part_at place value done parts i p low is) ∙ so

pub text_fails : (known : List Pair) (place done : List ℕ) (parts : List Part) (i : ℕ) (p : Part) (new : Filler) (fault : FillFault) (whole : Filled (List ℕ)) → i < length parts → p ≡ get_or parts i p → Gives known (with_part place (value known []) done p) new (Err fault) → filled_from place (value known []) done (drop i parts) ≡ whole → Gives known whole new (Err fault)
text_fails known place done parts i p new (Refused r at) whole low is fails so = part_fails place (value known []) done parts i p (r, at) whole low is fails so
text_fails known place done parts i p new Memory whole low is fails so = record {}

pub text_done : (place : List ℕ) (value : List ℕ → Filled (List ℕ)) (done : List ℕ) (parts : List Part) (i : ℕ) (whole : Filled (List ℕ)) → drop i parts ≡ [] → filled_from place value done (drop i parts) ≡ whole → whole ≡ Ok done
text_done place value done parts i whole nothing so = sym so ∙ ap (filled_from place value done) nothing

-- a text in which nothing is left
pub name_there : (said : Filled (List ℕ)) (t : List ℕ) → said ≡ Ok t → first_name (parts t) ≡ None → (said >>= resolved) ≡ Ok t
name_there said t is none = ap (λ r. r >>= resolved) is ∙ ap (λ o. option_map_or unresolved o (Ok t)) none

-- names put into a map one by one, of equal ones the last
pub put_name : (p : Pair) (ps : List Pair) (q : List ℕ) (old new : Option (List ℕ)) (whole : Option (List ℕ)) → new ≡ (if bytes_eq p.name q then Some p.value else old) → option_or (last_named (p ∷ ps) q) old ≡ whole → option_or (last_named ps q) new ≡ whole
put_name p ps q old new whole is so = ap (option_or (last_named ps q)) is ∙ by (last_named ps q) (bytes_eq p.name q) ∙ so
  where
    by : (o : Option (List ℕ)) (b : Bool) → option_or o (if b then Some p.value else old) ≡ option_or (option_or o (if b then Some p.value else None)) old
    by (Some v) b = refl
    by None true = refl
    by None false = refl

-- a list without length is empty
pub no_items : {A : Type 0} (xs : List A) → length xs ≡ 0 → xs ≡ []
no_items [] e = refl
no_items (x ∷ xs) e = absurd (some_items (length xs) e)
  where
    some_items : (n : ℕ) → suc n ≡ 0 → ⊥
    some_items n e = omega (arith, e)

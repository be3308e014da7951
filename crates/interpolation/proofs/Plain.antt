-- A finished value doesn't depend on the way to it.
use Rattle.std.proofs.Common.{◌≡◌, ℕ, zero, suc, ◌≤◌, Bool, true, false, not, ◌||◌, List, [], ◌∷◌, ◌++◌, length, filter, Option, None, Some, Ok, Err, refl, arith, sym, ap, ◌∙◌, subst, if◌then◌else◌}
use Rattle.std.specs.Option.{option_map_or, option_or}
use Rattle.std.specs.Str.{bytes_eq}
use Rattle.std.specs.Cmp.Lexicographic.{nat_list_eq_equiv}
use Rattle.std.proofs.lemmas.Bool.{false≢true}
use Rattle.std.proofs.lemmas.Slice.Eq.{bytes_eq-Decides}
use Rattle.mvn_base.specs.declared.machine.Pair.{Pair}
use Rattle.mvn_base.specs.declared.rule.Rule.{Rule}
use Rattle.interpolation.specs.declared.part.Part.{Part}
use Rattle.interpolation.specs.declared.part.Part.TheVariants.{Plain, Name}
use Rattle.interpolation.specs.Expressions.{last_named}
use Rattle.interpolation.specs.Parts.{parts, spelled}
use Rattle.interpolation.specs.KnownValues.{Filled, ◌>>=◌, again, filled, filled_from, is_on, left, limited, met, part_value, value, value_within, with_part}
use Rattle.interpolation.specs.Tables.{Above, IsWay, plain}

pub same_text : (a b : List ℕ) → bytes_eq a b ≡ true → a ≡ b
same_text a b e = (bytes_eq-Decides a b).0 e

abbrev is_ok : {A : Type 0} → Filled A → Bool
is_ok (Ok x) = true
is_ok (Err e) = false

pub err_no_ok : {A : Type 0} {e : Rule × List ℕ} {x : A} → ◌≡◌ {A = Filled A} (Err e) (Ok x) → ⊥
err_no_ok p = false≢true (ap is_ok p)

abbrev value_or : {A : Type 0} → A → Filled A → A
value_or x (Ok y) = y
value_or x (Err e) = x

pub ok_same : {A : Type 0} {x y : A} → ◌≡◌ {A = Filled A} (Ok x) (Ok y) → x ≡ y
ok_same {A} {x} {y} p = ap (value_or x) p

pub bound : {A B : Type 0} (r : Filled A) (f : A → Filled B) (b : B) → (r >>= f) ≡ Ok b → (a : A) × (r ≡ Ok a) × (f a ≡ Ok b)
bound (Ok a) f b e = (a, refl, e)
bound (Err x) f b e = absurd (err_no_ok e)

-- where all names that have a value by one have it by another, so have texts
part_more : (g h : List ℕ → Filled (List ℕ)) → ((n t : List ℕ) → g n ≡ Ok t → h n ≡ Ok t) → (p : Part) (t : List ℕ) → part_value g p ≡ Ok t → part_value h p ≡ Ok t
part_more g h more (Plain text) t e = e
part_more g h more (Name n) t e = more n t e

with_more : (g h : List ℕ → Filled (List ℕ)) → ((n t : List ℕ) → g n ≡ Ok t → h n ≡ Ok t) → (place done : List ℕ) (p : Part) (d : List ℕ) → with_part place g done p ≡ Ok d → with_part place h done p ≡ Ok d
with_more g h more place done p d e =
    let one = bound (part_value g p) (λ text. limited place (done ++ text)) d e in
    ap (λ r. r >>= (λ text. limited place (done ++ text))) (part_more g h more p one.0 one.1) ∙ one.2

pub filled_more : (g h : List ℕ → Filled (List ℕ)) → ((n t : List ℕ) → g n ≡ Ok t → h n ≡ Ok t) → (place done : List ℕ) (ps : List Part) (t : List ℕ) → filled_from place g done ps ≡ Ok t → filled_from place h done ps ≡ Ok t
filled_more g h more place done [] t e = e
filled_more g h more place done (p ∷ ps) t e =
    let one = bound (with_part place g done p) (λ d. filled_from place g d ps) t e in
    ap (λ r. r >>= (λ d. filled_from place h d ps)) (with_more g h more place done p one.0 one.1)
    ∙ filled_more g h more place one.0 ps t one.2

-- a text has a value only where each of its names has
pub part_of : (g : List ℕ → Filled (List ℕ)) (place done : List ℕ) (before : List Part) (n : List ℕ) (ps : List Part) (t : List ℕ) → filled_from place g done (before ++ Name n ∷ ps) ≡ Ok t → (inner : List ℕ) × (g n ≡ Ok inner)
part_of g place done [] n ps t e =
    let one = bound (with_part place g done (Name n)) (λ d. filled_from place g d ps) t e in
    let two = bound (g n) (λ text. limited place (done ++ text)) one.0 one.1 in
    (two.0, two.1)
part_of g place done (p ∷ before) n ps t e =
    let one = bound (with_part place g done p) (λ d. filled_from place g d (before ++ Name n ∷ ps)) t e in
    part_of g place one.0 before n ps t one.2

-- whether a name is on a way that is one longer
pub on_more : (name q : List ℕ) (seen : List (List ℕ)) → bytes_eq name q ≡ false → is_on q (name ∷ seen) ≡ is_on q seen
on_more name q seen e = ap (λ b. b || is_on q seen) e

pub on_first : (name q : List ℕ) (seen : List (List ℕ)) → bytes_eq name q ≡ true → is_on q (name ∷ seen) ≡ true
on_first name q seen e = ap (λ b. b || is_on q seen) e

module _ (known : List Pair) where
  met_same : (seen : List (List ℕ)) (name : List ℕ) (f g : List ℕ → Filled (List ℕ)) → ((u : List ℕ) → is_on name seen ≡ false → last_named known name ≡ Some u → f u ≡ g u) → met known seen name f ≡ met known seen name g
  met_same seen name f g same = on (is_on name seen) refl
    where
      has : (o : Option (List ℕ)) → last_named known name ≡ o → is_on name seen ≡ false → option_map_or f o (Ok (spelled (Name name))) ≡ option_map_or g o (Ok (spelled (Name name)))
      has None e off = refl
      has (Some u) e off = same u off e

      on : (b : Bool) → is_on name seen ≡ b → (if b then again name else option_map_or f (last_named known name) (Ok (spelled (Name name)))) ≡ (if b then again name else option_map_or g (last_named known name) (Ok (spelled (Name name))))
      on true e = refl
      on false e = has (last_named known name) refl e

  abbrev count : List (List ℕ) → List Pair → ℕ
  count seen ps = length (filter (λ (p : Pair). not (is_on p.name seen)) ps)

  no_more : (name : List ℕ) (seen : List (List ℕ)) (ps : List Pair) → count (name ∷ seen) ps ≤ count seen ps
  no_more name seen [] = omega arith
  no_more name seen (p ∷ ps) = by (bytes_eq name p.name) (is_on p.name seen) (no_more name seen ps)
    where
      by : (same on : Bool) → count (name ∷ seen) ps ≤ count seen ps
          → length (if not (same || on) then p ∷ filter (λ (p : Pair). not (is_on p.name (name ∷ seen))) ps else filter (λ (p : Pair). not (is_on p.name (name ∷ seen))) ps)
          ≤ length (if not on then p ∷ filter (λ (p : Pair). not (is_on p.name seen)) ps else filter (λ (p : Pair). not (is_on p.name seen)) ps)
      by true true less = less
      by true false less = omega (arith, less)
      by false true less = less
      by false false less = omega (arith, less)

  -- a known name that isn't on the way can be met once less behind itself
  one_less : (name u : List ℕ) (seen : List (List ℕ)) (ps : List Pair) → is_on name seen ≡ false → last_named ps name ≡ Some u → suc (count (name ∷ seen) ps) ≤ count seen ps
  one_less name u seen [] off has = absurd (false≢true (ap (λ o. option_map_or (λ x. true) o false) has))
  one_less name u seen (p ∷ ps) off has = by (last_named ps name) refl (λ v e. one_less name v seen ps off e)
    where
      here : (b : Bool) → bytes_eq p.name name ≡ b → (if b then Some p.value else None) ≡ Some u → suc (count (name ∷ seen) (p ∷ ps)) ≤ count seen (p ∷ ps)
      here false e s = absurd (false≢true (ap (λ o. option_map_or (λ x. true) o false) s))
      here true e s =
          let is = same_text p.name name e in
          let first : is_on p.name (name ∷ seen) ≡ true = ap (λ b. b || is_on p.name seen) (subst (λ x. bytes_eq name x ≡ true) (sym is) (nat_list_eq_equiv.refl name)) in
          let none : is_on p.name seen ≡ false = ap (λ x. is_on x seen) is ∙ off in
          let fewer : count (name ∷ seen) (p ∷ ps) ≡ count (name ∷ seen) ps = ap (λ b. length (if not b then p ∷ filter (λ (p : Pair). not (is_on p.name (name ∷ seen))) ps else filter (λ (p : Pair). not (is_on p.name (name ∷ seen))) ps)) first in
          let more : count seen (p ∷ ps) ≡ suc (count seen ps) = ap (λ b. length (if not b then p ∷ filter (λ (p : Pair). not (is_on p.name seen)) ps else filter (λ (p : Pair). not (is_on p.name seen)) ps)) none in
          omega (arith, fewer, more, no_more name seen ps)

      later : suc (count (name ∷ seen) ps) ≤ count seen ps → suc (count (name ∷ seen) (p ∷ ps)) ≤ count seen (p ∷ ps)
      later less = also (bytes_eq name p.name) (is_on p.name seen)
        where
          also : (same on : Bool)
              → suc (length (if not (same || on) then p ∷ filter (λ (p : Pair). not (is_on p.name (name ∷ seen))) ps else filter (λ (p : Pair). not (is_on p.name (name ∷ seen))) ps))
              ≤ length (if not on then p ∷ filter (λ (p : Pair). not (is_on p.name seen)) ps else filter (λ (p : Pair). not (is_on p.name seen)) ps)
          also true true = less
          also true false = omega (arith, less)
          also false true = less
          also false false = omega (arith, less)

      by : (o : Option (List ℕ)) → last_named ps name ≡ o → ((v : List ℕ) → last_named ps name ≡ Some v → suc (count (name ∷ seen) ps) ≤ count seen ps) → suc (count (name ∷ seen) (p ∷ ps)) ≤ count seen (p ∷ ps)
      by (Some v) e less = later (less v e)
      by None e less = here (bytes_eq p.name name) refl (sym (ap (λ o. option_or o (if bytes_eq p.name name then Some p.value else None)) e) ∙ has)

  -- more than can be met changes nothing
  enough : (n m : ℕ) (seen : List (List ℕ)) (name : List ℕ) → left known seen ≤ n → left known seen ≤ m → value_within known n seen name ≡ value_within known m seen name
  enough zero zero seen name low high = refl
  enough zero (suc m) seen name low high = met_same seen name (λ text. again name) (filled name (value_within known m (name ∷ seen))) (λ u off has. absurd (none (one_less name u seen known off has)))
    where
      none : suc (left known (name ∷ seen)) ≤ left known seen → ⊥
      none less = omega (arith, less, low)
  enough (suc n) zero seen name low high = met_same seen name (filled name (value_within known n (name ∷ seen))) (λ text. again name) (λ u off has. absurd (none (one_less name u seen known off has)))
    where
      none : suc (left known (name ∷ seen)) ≤ left known seen → ⊥
      none less = omega (arith, less, high)
  enough (suc n) (suc m) seen name low high = met_same seen name (filled name (value_within known n (name ∷ seen))) (filled name (value_within known m (name ∷ seen))) (λ u off has. ap (λ v. filled name v u) (same (one_less name u seen known off has) (enough n m (name ∷ seen))))
    where
      same : suc (left known (name ∷ seen)) ≤ left known seen → ((x : List ℕ) → left known (name ∷ seen) ≤ n → left known (name ∷ seen) ≤ m → value_within known n (name ∷ seen) x ≡ value_within known m (name ∷ seen) x) → value_within known n (name ∷ seen) ≡ value_within known m (name ∷ seen)
      same less further = λ i x. further x (omega (arith, less, low)) (omega (arith, less, high)) i

  met_off : (seen : List (List ℕ)) (name : List ℕ) (f : List ℕ → Filled (List ℕ)) → is_on name seen ≡ false → met known seen name f ≡ option_map_or f (last_named known name) (Ok (spelled (Name name)))
  met_off seen name f off = ap (λ b. if b then again name else option_map_or f (last_named known name) (Ok (spelled (Name name)))) off

  -- the value of a name with a text
  pub unfolds : (seen : List (List ℕ)) (name u : List ℕ) → is_on name seen ≡ false → last_named known name ≡ Some u → value known seen name ≡ filled name (value known (name ∷ seen)) u
  unfolds seen name u off has =
      let less = one_less name u seen known off has in
      enough (left known seen) (suc (left known seen)) seen name (omega arith) (omega arith)
      ∙ met_off seen name (filled name (value_within known (left known seen) (name ∷ seen))) off
      ∙ ap (λ o. option_map_or (filled name (value_within known (left known seen) (name ∷ seen))) o (Ok (spelled (Name name)))) has
      ∙ ap (λ v. filled name v u) (λ i x. enough (left known seen) (left known (name ∷ seen)) (name ∷ seen) x (omega (arith, less)) (omega arith) i)

  unknown_within : (n : ℕ) (seen : List (List ℕ)) (name : List ℕ) → is_on name seen ≡ false → last_named known name ≡ None → value_within known n seen name ≡ Ok (spelled (Name name))
  unknown_within zero seen name off has = met_off seen name (λ text. again name) off ∙ ap (λ o. option_map_or (λ text. again name) o (Ok (spelled (Name name)))) has
  unknown_within (suc n) seen name off has = met_off seen name (filled name (value_within known n (name ∷ seen))) off ∙ ap (λ o. option_map_or (filled name (value_within known n (name ∷ seen))) o (Ok (spelled (Name name)))) has

  -- an unknown name stays as written
  pub unknown : (seen : List (List ℕ)) (name : List ℕ) → is_on name seen ≡ false → last_named known name ≡ None → value known seen name ≡ Ok (spelled (Name name))
  unknown seen name off has = unknown_within (left known seen) seen name off has

  cycle_within : (n : ℕ) (seen : List (List ℕ)) (name : List ℕ) → is_on name seen ≡ true → value_within known n seen name ≡ again name
  cycle_within zero seen name on = ap (λ b. if b then again name else option_map_or (λ text. again name) (last_named known name) (Ok (spelled (Name name)))) on
  cycle_within (suc n) seen name on = ap (λ b. if b then again name else option_map_or (filled name (value_within known n (name ∷ seen))) (last_named known name) (Ok (spelled (Name name)))) on

  -- a name on its own way is refused
  pub met_again : (seen : List (List ℕ)) (name : List ℕ) → is_on name seen ≡ true → value known seen name ≡ again name
  met_again seen name on = cycle_within (left known seen) seen name on

  -- a value at some depth is one at any greater depth
  pub plain_more : (k : ℕ) (name t : List ℕ) → plain known k name ≡ Ok t → plain known (suc k) name ≡ Ok t
  plain_more zero name t e = by (last_named known name) e
    where
      by : (o : Option (List ℕ)) → option_map_or (λ text. again name) o (Ok (spelled (Name name))) ≡ Ok t → option_map_or (filled name (plain known zero)) o (Ok (spelled (Name name))) ≡ Ok t
      by None e = e
      by (Some u) e = absurd (err_no_ok e)
  plain_more (suc k) name t e = by (last_named known name) e (plain_more k)
    where
      by : (o : Option (List ℕ)) → option_map_or (filled name (plain known k)) o (Ok (spelled (Name name))) ≡ Ok t → ((n t : List ℕ) → plain known k n ≡ Ok t → plain known (suc k) n ≡ Ok t) → option_map_or (filled name (plain known (suc k))) o (Ok (spelled (Name name))) ≡ Ok t
      by None e more = e
      by (Some u) e more = filled_more (plain known k) (plain known (suc k)) more name [] (parts u) t e

  value_plain : (n : ℕ) (seen : List (List ℕ)) (name t : List ℕ) → value_within known n seen name ≡ Ok t → plain known n name ≡ Ok t
  value_plain zero seen name t e = on (is_on name seen) e
    where
      has : (o : Option (List ℕ)) → option_map_or (λ text. again name) o (Ok (spelled (Name name))) ≡ Ok t → option_map_or (λ text. again name) o (Ok (spelled (Name name))) ≡ Ok t
      has None e = e
      has (Some u) e = absurd (err_no_ok e)

      on : (b : Bool) → (if b then again name else option_map_or (λ text. again name) (last_named known name) (Ok (spelled (Name name)))) ≡ Ok t → plain known zero name ≡ Ok t
      on true e = absurd (err_no_ok e)
      on false e = has (last_named known name) e
  value_plain (suc n) seen name t e = on (is_on name seen) e (value_plain n (name ∷ seen))
    where
      has : (o : Option (List ℕ)) → option_map_or (filled name (value_within known n (name ∷ seen))) o (Ok (spelled (Name name))) ≡ Ok t → ((x t : List ℕ) → value_within known n (name ∷ seen) x ≡ Ok t → plain known n x ≡ Ok t) → option_map_or (filled name (plain known n)) o (Ok (spelled (Name name))) ≡ Ok t
      has None e more = e
      has (Some u) e more = filled_more (value_within known n (name ∷ seen)) (plain known n) more name [] (parts u) t e

      on : (b : Bool) → (if b then again name else option_map_or (filled name (value_within known n (name ∷ seen))) (last_named known name) (Ok (spelled (Name name)))) ≡ Ok t → ((x t : List ℕ) → value_within known n (name ∷ seen) x ≡ Ok t → plain known n x ≡ Ok t) → plain known (suc n) name ≡ Ok t
      on true e more = absurd (err_no_ok e)
      on false e more = has (last_named known name) e more

  -- what is finished is so at some depth
  pub finished : (seen : List (List ℕ)) (name t : List ℕ) → value known seen name ≡ Ok t → (depth : ℕ) × (plain known depth name ≡ Ok t)
  finished seen name t e = (left known seen, value_plain (left known seen) seen name t e)

  -- a value at some depth is the value, where nothing on the way has one at this depth
  settled : (k : ℕ) (seen : List (List ℕ)) (name t : List ℕ) → ((s : List ℕ) → is_on s seen ≡ true → (t' : List ℕ) → plain known k s ≡ Ok t' → ⊥) → plain known k name ≡ Ok t → value known seen name ≡ Ok t
  settled zero seen name t none e = on (is_on name seen) refl
    where
      has : (o : Option (List ℕ)) → last_named known name ≡ o → is_on name seen ≡ false → option_map_or (λ text. again name) o (Ok (spelled (Name name))) ≡ Ok t → value known seen name ≡ Ok t
      has None h off e = unknown seen name off h ∙ e
      has (Some u) h off e = absurd (err_no_ok e)

      on : (b : Bool) → is_on name seen ≡ b → value known seen name ≡ Ok t
      on true o = absurd (none name o t e)
      on false o = has (last_named known name) refl o e
  settled (suc k) seen name t none e = on (is_on name seen) refl (settled k)
    where
      further : Type 0
      further = (seen : List (List ℕ)) (name t : List ℕ) → ((s : List ℕ) → is_on s seen ≡ true → (t' : List ℕ) → plain known k s ≡ Ok t' → ⊥) → plain known k name ≡ Ok t → value known seen name ≡ Ok t

      below : (r : Filled (List ℕ)) → plain known k name ≡ r → (u : List ℕ) → last_named known name ≡ Some u → is_on name seen ≡ false → filled name (plain known k) u ≡ Ok t → further → value known seen name ≡ Ok t
      below (Ok t') r u h off e go =
          go seen name t' (λ s on t'' p. none s on t'' (plain_more k s t'' p)) r
          ∙ sym (plain_more k name t' r) ∙ ap (λ o. option_map_or (filled name (plain known k)) o (Ok (spelled (Name name)))) h ∙ e
      below (Err x) r u h off e go =
          unfolds seen name u off h
          ∙ filled_more (plain known k) (value known (name ∷ seen)) (λ n t'' p. go (name ∷ seen) n t'' (λ s on t3 q. by s (bytes_eq name s) refl on t3 q) p) name [] (parts u) t e
        where
          by : (s : List ℕ) (b : Bool) → bytes_eq name s ≡ b → is_on s (name ∷ seen) ≡ true → (t3 : List ℕ) → plain known k s ≡ Ok t3 → ⊥
          by s true same on t3 q = err_no_ok (sym r ∙ ap (plain known k) (same_text name s same) ∙ q)
          by s false same on t3 q = none s (sym (on_more name s seen same) ∙ on) t3 (plain_more k s t3 q)

      has : (o : Option (List ℕ)) → last_named known name ≡ o → is_on name seen ≡ false → option_map_or (filled name (plain known k)) o (Ok (spelled (Name name))) ≡ Ok t → further → value known seen name ≡ Ok t
      has None h off e go = unknown seen name off h ∙ e
      has (Some u) h off e go = below (plain known k name) refl u h off e go

      on : (b : Bool) → is_on name seen ≡ b → further → value known seen name ≡ Ok t
      on true o go = absurd (none name o t e)
      on false o go = has (last_named known name) refl o e go

  known_not_plain : (s u t : List ℕ) → last_named known s ≡ Some u → plain known zero s ≡ Ok t → ⊥
  known_not_plain s u t has e = err_no_ok (sym (ap (λ o. option_map_or (λ text. again s) o (Ok (spelled (Name s)))) has) ∙ e)

  -- the value in a table is the value, wherever a way to it stands
  pub hit : (k : ℕ) (seen : List (List ℕ)) (name t : List ℕ) → plain known k name ≡ Ok t → IsWay known seen name → value known seen name ≡ Ok t
  hit zero seen name t e way = settled zero seen name t (λ s on t' p. known_not_plain s (way s on).0 t' (way s on).1 p) e
  hit (suc k) seen name t e way = by (plain known k name) refl (hit k seen name)
    where
      by : (r : Filled (List ℕ)) → plain known k name ≡ r → ((t' : List ℕ) → plain known k name ≡ Ok t' → IsWay known seen name → value known seen name ≡ Ok t') → value known seen name ≡ Ok t
      by (Ok t') r go = go t' r way ∙ sym (plain_more k name t' r) ∙ e
      by (Err x) r go = settled (suc k) seen name t (λ s on t' p. let inner = (way s on).2 k t' p in err_no_ok (sym r ∙ inner.1)) e

  -- a name stands above those in its text, and above what they stand above
  pub above_part : (s u : List ℕ) (before : List Part) (n : List ℕ) (ps : List Part) → last_named known s ≡ Some u → parts u ≡ before ++ Name n ∷ ps → Above known s n
  above_part s u before n ps has are = (u, has, λ depth text e. part_of (plain known depth) s [] before n ps text (ap (filled_from s (plain known depth) []) (sym are) ∙ sym (ap (λ o. option_map_or (filled s (plain known depth)) o (Ok (spelled (Name s)))) has) ∙ e))

  above_over : (s c n : List ℕ) → Above known s c → Above known c n → Above known s n
  above_over s c n first second = (first.0, first.1, over)
    where
      over : (depth : ℕ) (text : List ℕ) → plain known (suc depth) s ≡ Ok text → (inner : List ℕ) × (plain known depth n ≡ Ok inner)
      over zero text e =
          let middle = first.2 zero text e in
          absurd (known_not_plain c second.0 middle.0 second.1 middle.1)
      over (suc depth) text e =
          let middle = first.2 (suc depth) text e in
          let last = second.2 depth middle.0 middle.1 in
          (last.0, plain_more depth n last.0 last.1)

  pub way_more : (seen : List (List ℕ)) (c n : List ℕ) → IsWay known seen c → Above known c n → IsWay known (c ∷ seen) n
  way_more seen c n way above s on = by (bytes_eq c s) refl
    where
      by : (b : Bool) → bytes_eq c s ≡ b → Above known s n
      by true e = subst (λ x. Above known x n) (same_text c s e) above
      by false e = above_over s c n (way s (sym (on_more c s seen e) ∙ on)) above

  -- no name is on the way to the first
  pub no_way : (name : List ℕ) → IsWay known [] name
  no_way name s on = absurd (false≢true on)

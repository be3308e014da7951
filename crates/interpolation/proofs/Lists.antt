-- Lists that are filled one by one.
use Rattle.std.proofs.Common.{◌≡◌, ℕ, suc, ◌+◌, ◌<◌, Bool, true, false, List, [], ◌∷◌, ◌++◌, length, get_or, drop, Option, None, Some, Result, Ok, Err, refl, arith, sym, ap, subst, ◌∙◌, if◌then◌else◌}
use Rattle.std.proofs.Math.Seq.{drop-cons}
use Rattle.std.proofs.lemmas.List.{append-nil, append_assoc}
use Rattle.mvn_base.specs.declared.machine.Pair.{Pair}
use Rattle.mvn_base.specs.declared.rule.Rule.{Rule}
use Rattle.mvn_base.specs.declared.setting.Setting.{Setting}
use Rattle.mvn_base.specs.declared.setting.Setting.TheViews.{out-Setting, roll-Setting}
use Rattle.mvn_base.specs.declared.setting.Setting.TheFolds.{fold_out-Setting}
use Rattle.interpolation.specs.KnownValues.{Filled, ◌>>=◌}
use Rattle.interpolation.specs.Filling.{each, fill_property, fill_setting, setting_step}
use Rattle.interpolation.specs.Texts.{text_of}
use Rattle.interpolation.specs.Tables.{Fails, Gives, IsTable}
use Rattle.interpolation.specs.Told.{beside, prefixed}
use Rattle.interpolation.specs.declared.fault.FillFault.{FillFault}
use Rattle.interpolation.specs.declared.fault.FillFault.TheVariants.{Refused, Memory}
use Rattle.interpolation.specs.declared.filler.Filler.{Filler}

-- one step of a chain
pub chain : {A B : Type 0} {said : Filled A} {x : A} {whole : Filled B} (f : A → Filled B) → said ≡ Ok x → f x ≡ whole → (said >>= f) ≡ whole
chain f is further = ap (λ r. r >>= f) is ∙ further

-- a chain fails where a later step does, and where its first step does
pub chain_fails : {A B : Type 0} {said : Filled A} {x : A} (fault : FillFault) (f : A → Filled B) → said ≡ Ok x → Fails (f x) fault → Fails (said >>= f) fault
chain_fails fault f is fails = subst (λ r. Fails (r >>= f) fault) (sym is) fails

pub stop_fails : {A B : Type 0} (said : Filled A) (fault : FillFault) (f : A → Filled B) → Fails said fault → Fails (said >>= f) fault
stop_fails said (Refused r place) f fails = ap (λ r. r >>= f) fails
stop_fails said Memory f fails = record {}

-- a fault that is handed on
pub exit_gives : {B : Type 0} (whole : Filled B) (known : List Pair) (new : Filler) (fault handed : FillFault) (r : Result B FillFault) → r ≡ Err handed → handed ≡ fault → Fails whole fault → Gives known whole new r
exit_gives whole known new fault handed r is same fails = subst (λ r. Gives known whole new r) (sym (is ∙ ap (λ e. Err e) same)) fails

-- a property's value is filled
pub property_done : (known : List Pair) (p : Pair) (name value : List ℕ) → name ≡ p.name → text_of known name p.value ≡ Ok value → fill_property known p ≡ Ok (record { name = name; value = value })
unfolding fill_property
property_done known p name value named has =
    chain _ (ap (λ n. text_of known n p.value) (sym named) ∙ has) refl ∙ (λ i. Ok (record { name = sym named i; value = value }))

module _ {A B : Type 0} (f : A → Filled B) where
  -- the rest of a list, one item at a time
  rest_at : (items : List A) (i : ℕ) (x : A) → i < length items → x ≡ get_or items i x → each f (drop i items) ≡ (f x >>= (λ y. each f (drop (i + 1) items) >>= (λ ys. Ok (y ∷ ys))))
  rest_at items i x low is =
      let one : i + 1 ≡ suc i = omega arith in
      ap (each f) (drop-cons items i x low)
      ∙ ap (λ a. f a >>= (λ y. each f (drop (suc i) items) >>= (λ ys. Ok (y ∷ ys)))) (sym is)
      ∙ ap (λ k. f x >>= (λ y. each f (drop k items) >>= (λ ys. Ok (y ∷ ys)))) (sym one)

  pub each_fails : (done : List B) (items : List A) (i : ℕ) (x : A) (e : Rule × List ℕ) (whole : Filled (List B)) → i < length items → x ≡ get_or items i x → f x ≡ Err e → prefixed done (each f (drop i items)) ≡ whole → whole ≡ Err e
  each_fails done items i x e whole low is fails so =
      sym so ∙ ap (prefixed done) (rest_at items i x low is) ∙ ap (λ r. prefixed done (r >>= (λ y. each f (drop (i + 1) items) >>= (λ ys. Ok (y ∷ ys))))) fails

  behind : (done : List B) (y : B) (r : Filled (List B)) → prefixed done (r >>= (λ ys. Ok (y ∷ ys))) ≡ prefixed (done ++ y ∷ []) r
  behind done y (Ok ys) = ap (λ l. Ok l) (sym (append_assoc done (y ∷ []) ys))
  behind done y (Err e) = refl

  pub each_more : (done : List B) (items : List A) (i : ℕ) (x : A) (y : B) (whole : Filled (List B)) → i < length items → x ≡ get_or items i x → f x ≡ Ok y → prefixed done (each f (drop i items)) ≡ whole → prefixed (done ++ y ∷ []) (each f (drop (i + 1) items)) ≡ whole
  each_more done items i x y whole low is comes so =
      sym (behind done y (each f (drop (i + 1) items)))
      ∙ ap (λ r. prefixed done (r >>= (λ y. each f (drop (i + 1) items) >>= (λ ys. Ok (y ∷ ys))))) (sym comes)
      ∙ ap (prefixed done) (sym (rest_at items i x low is)) ∙ so

pub list_fails : {A B : Type 0} (known : List Pair) (f : A → Filled B) (done : List B) (items : List A) (i : ℕ) (x : A) (new : Filler) (fault : FillFault) (whole : Filled (List B)) → i < length items → x ≡ get_or items i x → Gives known (f x) new (Err fault) → prefixed done (each f (drop i items)) ≡ whole → Gives known whole new (Err fault)
list_fails known f done items i x new (Refused r place) whole low is fails so = each_fails f done items i x (r, place) whole low is fails so
list_fails known f done items i x new Memory whole low is fails so = record {}

pub list_done : {A B : Type 0} (f : A → Filled B) (done : List B) (items : List A) (i : ℕ) (whole : Filled (List B)) → drop i items ≡ [] → prefixed done (each f (drop i items)) ≡ whole → whole ≡ Ok done
list_done f done items i whole nothing so = sym so ∙ ap (λ l. prefixed done (each f l)) nothing ∙ ap (λ l. Ok l) (append-nil done)

-- a setting is its name, its text filled and its children filled
setting_filled : (known : List Pair) (s : Setting) → fill_setting known s ≡ (text_of known (out-Setting s).name (out-Setting s).text >>= (λ text. each (fill_setting known) (out-Setting s).children >>= (λ children. Ok (roll-Setting (record { name = (out-Setting s).name; text = text; children = children })))))
setting_filled known = fold_out-Setting (Filled Setting) (setting_step known)

pub setting_done : (known : List Pair) (s : Setting) (name text : List ℕ) (children : List Setting) → name ≡ (out-Setting s).name → text_of known name (out-Setting s).text ≡ Ok text → each (fill_setting known) (out-Setting s).children ≡ Ok children → fill_setting known s ≡ Ok (roll-Setting (record { name = name; text = text; children = children }))
setting_done known s name text children named has all =
    setting_filled known s
    ∙ chain _ (ap (λ n. text_of known n (out-Setting s).text) (sym named) ∙ has) (chain _ all refl)
    ∙ (λ i. Ok (roll-Setting (record { name = sym named i; text = text; children = children })))

pub setting_fails : (known : List Pair) (s : Setting) (name text : List ℕ) (new : Filler) (fault : FillFault) → name ≡ (out-Setting s).name → text_of known name (out-Setting s).text ≡ Ok text → Gives known (each (fill_setting known) (out-Setting s).children) new (Err fault) → Gives known (fill_setting known s) new (Err fault)
setting_fails known s name text new (Refused r at) named has fails =
    setting_filled known s
    ∙ chain _ (ap (λ n. text_of known n (out-Setting s).text) (sym named) ∙ has) (ap (λ c. c >>= (λ children. Ok (roll-Setting (record { name = (out-Setting s).name; text = text; children = children })))) fails)
setting_fails known s name text new Memory named has fails = record {}

ok_same : {A : Type 0} (x y : A) → ◌≡◌ {A = Result A FillFault} (Ok x) (Ok y) → x ≡ y
ok_same x y e = cc

err_same : {A : Type 0} (one two : FillFault) → ◌≡◌ {A = Result A FillFault} (Err one) (Err two) → one ≡ two
err_same one two e = cc

-- what comes next, beside what is filled already
pub next_gives : {A B : Type 0} (known : List Pair) (said : Filled B) (new : Filler) (first : A) (second : Result B FillFault) (both : A × B) → Gives known said new second → Ok both ≡ beside first second → (said ≡ Ok both.1) × IsTable known [] new × (both.0 ≡ first)
next_gives known said new first (Ok b) both gives is = let same = ok_same both (first, b) is in (gives.0 ∙ (λ i. Ok ((sym same i).1)), gives.1, (λ i. (same i).0))
next_gives known said new first (Err fault) both gives is = cc

pub next_fails : {A B : Type 0} (known : List Pair) (said : Filled B) (new : Filler) (first : A) (second : Result B FillFault) (fault : FillFault) → Gives known said new second → ◌≡◌ {A = Result (A × B) FillFault} (Err fault) (beside first second) → Fails said fault
next_fails known said new first (Ok b) fault gives is = cc
next_fails known said new first (Err other) fault gives is = subst (λ f. Fails said f) (sym (err_same fault other is)) gives

-- What is kept of POMs.
use Rattle.std.proofs.Common.{◌≡◌, Bool, true, false, List, [], ◌∷◌, ◌++◌, find, Option, None, Some, is_some, IfSome, Result, Ok, Err, OnOk, OnErr, refl, sym, ap, subst, ◌∙◌, if◌then◌else◌}
use Rattle.std.specs.Option.{option_map, option_or}
use Rattle.mvn_base.specs.declared.gav.Gav.{Gav}
use Rattle.mvn_base.specs.declared.refusal.PomId.TheVariants as ids
use Rattle.model_types.specs.declared.model.Model.{Model}
use Rattle.pom_source.specs.Answers.{Built}
use Rattle.pom_source.specs.Worlds.{World}
use Rattle.pom_source.specs.declared.found.Given.{Given}
use Rattle.mvn_base.specs.Gav.{gav_eq}
use Rattle.lineage.proofs.Holding.{same_gav}
use Rattle.effective.specs.Effective.{effective}
use Rattle.mediation.specs.declared.known.Known.{Known}
use Rattle.mediation.specs.declared.known.Known.TheVariants as known
use Rattle.project_libraries.specs.Known.{known_as, known_at, known_of, module_of}
use Rattle.project_libraries.specs.Holding.{HoldsKnown}

module _ (world : World) (given : Given) (models : List Model) where
  -- what is kept is known
  pub known_kept : (kept : Gav → Option Known) (gav : Gav) (value : Known) → HoldsKnown world given models kept → kept gav ≡ Some value → value ≡ known_at world given models gav
  known_kept kept gav value holds is = subst (λ o. IfSome o (λ v. v ≡ known_at world given models gav)) is (holds.each gav)

  no_module : (kept : Gav → Option Known) (gav : Gav) (own : Option Model) → IfSome own (λ m. kept gav ≡ Some (known.Model m)) → kept gav ≡ None → own ≡ None
  no_module kept gav None there none = refl
  no_module kept gav (Some m) there none = cc

  -- where nothing is kept, it is what is built
  pub known_built : (kept : Gav → Option Known) (gav : Gav) (value : Known) → HoldsKnown world given models kept → kept gav ≡ None
      → value ≡ known_of (effective world given (ids.Gav gav)) → value ≡ known_at world given models gav
  unfolding known_at
  known_built kept gav value holds none is =
      is ∙ ap (λ o. known_as o (effective world given (ids.Gav gav))) (sym (no_module kept gav (module_of models gav) (holds.modules gav) none))

  put_each : (old : Gav → Option Known) (gav : Gav) (value : Known) → HoldsKnown world given models old → value ≡ known_at world given models gav
      → (other : Gav) (b : Bool) → gav_eq gav other ≡ b → IfSome (if b then Some value else old other) (λ v. v ≡ known_at world given models other)
  put_each old gav value holds is other true e = subst (λ g. value ≡ known_at world given models g) (same_gav gav other e) is
  put_each old gav value holds is other false e = holds.each other

  put_module : (old : Gav → Option Known) (gav : Gav) (value : Known) → HoldsKnown world given models old → old gav ≡ None
      → (other : Gav) (b : Bool) → gav_eq gav other ≡ b → IfSome (module_of models other) (λ m. (if b then Some value else old other) ≡ Some (known.Model m))
  put_module old gav value holds none other true e =
      subst (λ o. IfSome o (λ m. Some value ≡ Some (known.Model m))) (sym (no_module old other (module_of models other) (holds.modules other) (ap old (sym (same_gav gav other e)) ∙ none))) tt
  put_module old gav value holds none other false e = holds.modules other

  -- one more is kept
  pub known_more : (old new : Gav → Option Known) (gav : Gav) (value : Known) → HoldsKnown world given models old → old gav ≡ None → value ≡ known_at world given models gav
      → ((other : Gav) → new other ≡ (if gav_eq gav other then Some value else old other)) → HoldsKnown world given models new
  known_more old new gav value holds none is put = record {
    each = λ other. subst (λ o. IfSome o (λ v. v ≡ known_at world given models other)) (sym (put other)) (put_each old gav value holds is other (gav_eq gav other) refl);
    modules = λ other. subst (λ o. IfSome (module_of models other) (λ m. o ≡ Some (known.Model m))) (sym (put other)) (put_module old gav value holds none other (gav_eq gav other) refl);
  }

  known_still : (old new : Gav → Option Known) → HoldsKnown world given models old → ((other : Gav) → new other ≡ old other) → HoldsKnown world given models new
  known_still old new holds same = record {
    each = λ other. subst (λ o. IfSome o (λ v. v ≡ known_at world given models other)) (sym (same other)) (holds.each other);
    modules = λ other. subst (λ o. IfSome (module_of models other) (λ m. o ≡ Some (known.Model m))) (sym (same other)) (holds.modules other);
  }

  -- so whatever came of the putting
  pub known_put : {T E : Type 0} (r : Result T E) (old new : Gav → Option Known) (gav : Gav) (value : Known) → HoldsKnown world given models old → old gav ≡ None
      → value ≡ known_at world given models gav → OnOk r ((other : Gav) → new other ≡ (if gav_eq gav other then Some value else old other))
      → OnErr r ((other : Gav) → new other ≡ old other) → HoldsKnown world given models new
  known_put (Ok x) old new gav value holds none is ok err = known_more old new gav value holds none is ok
  known_put (Err x) old new gav value holds none is ok err = known_still old new holds err

  first_each : (own : Option Model) (e : Built Model) → IfSome (option_map known.Model own) (λ v. v ≡ known_as own e)
  first_each None e = tt
  first_each (Some m) e = refl

  first_module : (own : Option Model) → IfSome own (λ m. option_map known.Model own ≡ Some (known.Model m))
  first_module None = tt
  first_module (Some m) = refl

  -- the modules alone
  pub modules_known : (kept : Gav → Option Known) → ((gav : Gav) → kept gav ≡ option_map known.Model (module_of models gav)) → HoldsKnown world given models kept
  unfolding known_at
  modules_known kept is = record {
    each = λ gav. subst (λ o. IfSome o (λ v. v ≡ known_as (module_of models gav) (effective world given (ids.Gav gav)))) (sym (is gav)) (first_each (module_of models gav) (effective world given (ids.Gav gav)));
    modules = λ gav. subst (λ o. IfSome (module_of models gav) (λ m. o ≡ Some (known.Model m))) (sym (is gav)) (first_module (module_of models gav));
  }

-- the first of one more
more_by : {A : Type 0} (b : Bool) (y : A) (more rest last : Option A) → more ≡ option_or rest last → (if b then Some y else more) ≡ option_or (if b then Some y else rest) last
more_by true y more rest last e = refl
more_by false y more rest last e = e

find_more : {A : Type 0} (p : A → Bool) (xs : List A) (x : A) → find p (xs ++ x ∷ []) ≡ option_or (find p xs) (if p x then Some x else None)
find_more p [] x = refl
find_more p (y ∷ ys) x = more_by (p y) y (find p (ys ++ x ∷ [])) (find p ys) (if p x then Some x else None) (find_more p ys x)

none_kept : (own : Option Model) → option_map known.Model own ≡ None → own ≡ None
none_kept None e = refl
none_kept (Some m) e = cc

some_or : (own last : Option Model) → is_some (option_map known.Model own) ≡ true → option_or own last ≡ own
some_or None last e = cc
some_or (Some m) last e = refl

or_none : (own : Option Model) → option_or own None ≡ own
or_none None = refl
or_none (Some m) = refl

module _ (old : Gav → Option Known) (done : List Model) (m : Model) (own : Gav) (same : own ≡ m.gav)
    (is : (gav : Gav) → old gav ≡ option_map known.Model (module_of done gav)) where
  there_by : is_some (old own) ≡ true → (gav : Gav) (b : Bool) → gav_eq m.gav gav ≡ b
      → option_or (module_of done gav) (if b then Some m else None) ≡ module_of done gav
  there_by some gav true e =
      some_or (module_of done gav) (Some m) (ap is_some (sym (is gav)) ∙ ap (λ g. is_some (old g)) (sym (same ∙ same_gav m.gav gav e)) ∙ some)
  there_by some gav false e = or_none (module_of done gav)

  -- a module of coordinates that are kept
  pub module_there : is_some (old own) ≡ true → (gav : Gav) → old gav ≡ option_map known.Model (module_of (done ++ m ∷ []) gav)
  module_there some gav =
      is gav ∙ ap (option_map known.Model) (sym (find_more (λ (o : Model). gav_eq o.gav gav) done m ∙ there_by some gav (gav_eq m.gav gav) refl))

  more_module : old own ≡ None → (gav : Gav) (b : Bool) → gav_eq m.gav gav ≡ b
      → (if b then Some (known.Model m) else old gav) ≡ option_map known.Model (option_or (module_of done gav) (if b then Some m else None))
  more_module none gav true e =
      ap (λ o. option_map known.Model (option_or o (Some m))) (sym (none_kept (module_of done gav) (sym (is gav) ∙ ap old (sym (same ∙ same_gav m.gav gav e)) ∙ none)))
  more_module none gav false e = is gav ∙ ap (option_map known.Model) (sym (or_none (module_of done gav)))

  -- and of others
  module_more : (new : Gav → Option Known) → old own ≡ None → ((gav : Gav) → new gav ≡ (if gav_eq m.gav gav then Some (known.Model m) else old gav))
      → (gav : Gav) → new gav ≡ option_map known.Model (module_of (done ++ m ∷ []) gav)
  module_more new none put gav =
      put gav ∙ more_module none gav (gav_eq m.gav gav) refl ∙ ap (option_map known.Model) (sym (find_more (λ (o : Model). gav_eq o.gav gav) done m))

none_of : (o : Option Known) → is_some o ≡ false → o ≡ None
none_of None e = refl
none_of (Some k) e = cc

-- so whatever came of the putting
pub module_put : {T E : Type 0} (r : Result T E) (old new : Gav → Option Known) (m : Model) (own : Gav) (value : Known) → own ≡ m.gav → value ≡ known.Model m → is_some (old own) ≡ false
    → OnOk r ((other : Gav) → new other ≡ (if gav_eq own other then Some value else old other))
    → OnOk r ((done : List Model) → ((gav : Gav) → old gav ≡ option_map known.Model (module_of done gav))
    → (gav : Gav) → new gav ≡ option_map known.Model (module_of (done ++ m ∷ []) gav))
module_put (Ok x) old new m own value same is none put = λ done so.
    module_more old done m own same so new (none_of (old own) none)
    (λ gav. put gav ∙ ap (λ g. if gav_eq g gav then Some value else old gav) same ∙ ap (λ v. if gav_eq m.gav gav then Some v else old gav) is)
module_put (Err x) old new m own value same is none put = tt

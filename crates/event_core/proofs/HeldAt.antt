-- Which names a worker holds at a place of its script, settled and behind a deed.
use Rattle.std.proofs.Common.{◌≡◌, ℕ, zero, suc, ◌<◌, ◌⊎◌, inl, inr, Bool, true, List, [], ◌∷◌, length, get_or, replicate, set, refl, arith, sym, ap, subst, ◌∙◌}
use Rattle.std.proofs.lemmas.Bool.{false≢true}
use Rattle.std.proofs.lemmas.List.{get_or-set_other, get_or-set_same, length-replicate, length-set, set-get_or}
use Rattle.event_core.specs.Holders.{AllHold, CourseHolds, IsHeldThen}
use Rattle.scripts.specs.HeldAt.{HoldsThen}
use Rattle.scripts.specs.declared.outline.Outline.{Outline}
use Rattle.scripts.specs.declared.deed.Deed.{Deed}
use Rattle.scripts.specs.declared.deed.Deed.TheVariants as deed
use Rattle.event_core.specs.declared.course.Course.{Course as KeptCourse}
use Rattle.event_core.specs.declared.course.Course.TheVariants as kept
use Rattle.event_core.proofs.Fits.{same_or_not}
use Rattle.scripts.specs.Outlines.{is_empty}

pub empty_is : (held : List ℕ) (b : Bool) → b ≡ is_empty held → b ≡ true → held ≡ []
empty_is [] b e is = refl
empty_is (x ∷ held) b e is = absurd (false≢true (sym e ∙ is))

pub then_held : (d : Deed) (before held : List ℕ) (P : List ℕ → Type 0) → IsHeldThen d before held → HoldsThen d before P → P held
then_held (deed.Take mode name) before held P changed holds = subst P (sym changed) holds
then_held deed.Free before held P changed holds = absurd (false≢true changed)
then_held (deed.Read file) before held P changed holds = subst P (sym changed) holds
then_held (deed.Publish file) before held P changed holds = subst P (sym changed) holds
then_held (deed.Answer goal) before held P changed holds = subst P (sym changed) holds

-- ---- all workers

pub hold_set : (o : Outline) (courses : List KeptCourse) (held : List (List ℕ)) (w : ℕ) (new : KeptCourse) (names : List ℕ) → AllHold o courses held → length courses ≡ o.workers → length held ≡ o.workers → CourseHolds o new names → AllHold o (set courses w new) (set held w names)
hold_set o courses held w new names all long rows here = λ v low. by v low (same_or_not v w)
  where
    by : (v : ℕ) → v < o.workers → (v ≡ w) ⊎ ((v ≡ w) → ⊥) → CourseHolds o (get_or (set courses w new) v kept.Idle) (get_or (set held w names) v [])
    by v low (inl same) =
        let inside : w < o.workers = omega (arith, low, same) in
        subst (λ u. CourseHolds o (get_or (set courses w new) u kept.Idle) (get_or (set held w names) u [])) (sym same)
        (subst (λ x. CourseHolds o x (get_or (set held w names) w [])) (sym (get_or-set_same courses w new kept.Idle (omega (arith, inside, long))))
        (subst (λ t. CourseHolds o new t) (sym (get_or-set_same held w names [] (omega (arith, inside, rows)))) here))
    by v low (inr other) =
        subst (λ x. CourseHolds o x (get_or (set held w names) v [])) (sym (get_or-set_other courses w v new kept.Idle other))
        (subst (λ t. CourseHolds o (get_or courses v kept.Idle) t) (sym (get_or-set_other held w v names [] other)) (all v low))

-- a worker's course changes alone
pub hold_turn : (o : Outline) (courses : List KeptCourse) (held : List (List ℕ)) (w : ℕ) (new : KeptCourse) → AllHold o courses held → length courses ≡ o.workers → length held ≡ o.workers → CourseHolds o new (get_or held w []) → AllHold o (set courses w new) held
hold_turn o courses held w new all long rows here = subst (AllHold o (set courses w new)) (set-get_or held w []) (hold_set o courses held w new (get_or held w []) all long rows here)

-- the three facts at once, where a course has changed, and where a course and a row have
pub turned_holding : (o : Outline) (courses courses' : List KeptCourse) (held held' : List (List ℕ)) (w : ℕ) (new : KeptCourse) → courses' ≡ set courses w new → held' ≡ held → AllHold o courses held → length courses ≡ o.workers → length held ≡ o.workers → CourseHolds o new (get_or held w []) → AllHold o courses' held' × (length courses' ≡ o.workers) × (length held' ≡ o.workers)
turned_holding o courses courses' held held' w new is same all long rows here =
    (subst (λ x. AllHold o x held') (sym is) (subst (AllHold o (set courses w new)) (sym same) (hold_turn o courses held w new all long rows here)), ap length is ∙ length-set courses w new ∙ long, ap length same ∙ rows)

pub changed_holding : (o : Outline) (courses courses' : List KeptCourse) (held held' : List (List ℕ)) (w : ℕ) (new : KeptCourse) (names : List ℕ) → courses' ≡ set courses w new → held' ≡ set held w names → AllHold o courses held → length courses ≡ o.workers → length held ≡ o.workers → CourseHolds o new names → AllHold o courses' held' × (length courses' ≡ o.workers) × (length held' ≡ o.workers)
changed_holding o courses courses' held held' w new names is same all long rows here =
    (subst (λ x. AllHold o x held') (sym is) (subst (AllHold o (set courses w new)) (sym same) (hold_set o courses held w new names all long rows here)), ap length is ∙ length-set courses w new ∙ long, ap length same ∙ length-set held w names ∙ rows)

-- ---- where nothing has happened

get_same : {X : Type 0} (n k : ℕ) (x : X) → get_or (replicate n x) k x ≡ x
get_same zero k x = refl
get_same (suc n) zero x = refl
get_same (suc n) (suc k) x = get_same n k x

pub first_holding : (o : Outline) (courses : List KeptCourse) (held : List (List ℕ)) → courses ≡ replicate o.workers kept.Idle → held ≡ replicate o.workers [] → AllHold o courses held × (length courses ≡ o.workers) × (length held ≡ o.workers)
first_holding o courses held is none =
    (subst (λ x. AllHold o x held) (sym is) (subst (AllHold o (replicate o.workers kept.Idle)) (sym none) (λ w low. subst (λ x. CourseHolds o x (get_or (replicate o.workers []) w [])) (sym (get_same o.workers w kept.Idle)) (get_same o.workers w []))), ap length is ∙ length-replicate o.workers kept.Idle, ap length none ∙ length-replicate o.workers [])

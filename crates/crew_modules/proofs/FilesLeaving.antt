-- What fetching files leaves of a hand's remote and area.
use Rattle.std.proofs.Common.{◌≡◌, ℕ, Bool, true, false, Option, Some, None, Ordering, Less, Equal, Greater, is_eq, cond, is_some, refl, sym, ap, subst, ◌∙◌}
use Rattle.std.specs.Ordering.{nat_cmp, eq_by_cmp}
use Rattle.std.specs.Cmp.{nat_cmp_total}
use Rattle.std.specs.FinMap.{get, insert, remove, get-insert, get-remove, same_map, nat_cmp-IsAntisymmetric}
use Rattle.std.proofs.lemmas.Bool.{false≢true}
use Rattle.mvn_shared.specs.Cause.{HasCause}
use Rattle.mvn_shared.specs.Files.{Files}
use Rattle.mvn_outside.specs.Pieces.{Contents, Pieces, removed}
use Rattle.build_core.specs.declared.ending.Device.TheVariants as device
use Rattle.build_core.specs.declared.ending.Ending.{Ending}
use Rattle.crew_turns.specs.Endings.{stops_by}
use Rattle.crew_turns.specs.Hands.{IsFetchedBy}

-- ---- pieces

equal_if : (r : Ordering) → is_eq r ≡ true → r ≡ Equal
equal_if Less e = absurd (false≢true e)
equal_if Equal e = refl
equal_if Greater e = absurd (false≢true e)

same_key : (m : Pieces) (k q : ℕ) → get m k ≡ None → eq_by_cmp nat_cmp q k ≡ true → get m q ≡ None
same_key m k q fresh same = ap (get m) (nat_cmp-IsAntisymmetric q k (equal_if (nat_cmp q k) same)) ∙ fresh

at_key : {X : Type 0} (b : Bool) (old : Option X) (v : X) → (b ≡ true → old ≡ None) → cond b None (cond b (Some v) old) ≡ old
at_key true old v fresh = sym (fresh refl)
at_key false old v fresh = refl

-- a new piece that is taken again leaves the pieces that there were
pub taken_again : (m : Pieces) (k : ℕ) → get m k ≡ None → remove (insert m k true) k ≡ m
taken_again m k fresh = same_map nat_cmp_total nat_cmp-IsAntisymmetric _ _ (λ q.
    get-remove nat_cmp_total (insert m k true) k q ∙ ap (cond (eq_by_cmp nat_cmp q k) None) (get-insert nat_cmp_total m k true q)
    ∙ at_key (eq_by_cmp nat_cmp q k) (get m q) true (same_key m k q fresh))

removed_tells : (told : Option Contents) (piece : ℕ) → is_some (removed told piece) ≡ is_some told
removed_tells None piece = refl
removed_tells (Some m) piece = refl

-- ---- devices

module _ {R A : Type 0} (files : R → Option Files) (remote_faults : R → ℕ) (contents : A → Option Contents) (faults : A → ℕ) (pieces : A → Pieces) where
  -- nothing was fetched
  pub untouched : (remote : R) (area : A) → IsFetchedBy files remote_faults contents faults pieces remote remote area area None
  untouched remote area = record { told = refl; cause = refl; area_left = record { tells = refl; cause = refl; same = λ quiet. refl } }

  -- files were fetched, and then more
  pub fetched_more : (before mid now : R) (area half left : A) (stop : Option Ending) → IsFetchedBy files remote_faults contents faults pieces before mid area half None
      → IsFetchedBy files remote_faults contents faults pieces mid now half left stop → IsFetchedBy files remote_faults contents faults pieces before now area left stop
  fetched_more before mid now area half left stop a b = record {
    told = b.told ∙ a.told;
    cause = subst (λ n. HasCause n (remote_faults now) (stops_by device.Remote stop)) a.cause b.cause;
    area_left = record {
      tells = b.area_left.tells ∙ a.area_left.tells;
      cause = subst (λ n. HasCause n (faults left) (stops_by device.Area stop)) a.area_left.cause b.area_left.cause;
      same = λ quiet. b.area_left.same quiet ∙ a.area_left.same refl;
    };
  }

  -- a piece was staged and published
  pub published_left : (before mid : R) (area half left : A) (piece : ℕ) → files mid ≡ files before → remote_faults mid ≡ remote_faults before → is_some (contents half) ≡ is_some (contents area) → faults half ≡ faults area
      → faults left ≡ faults half → get (pieces area) piece ≡ None → pieces half ≡ insert (pieces area) piece true → pieces left ≡ remove (pieces half) piece → contents left ≡ removed (contents half) piece
      → IsFetchedBy files remote_faults contents faults pieces before mid area left None
  published_left before mid area half left piece told remote_same tells area_same later_same fresh sealed gone rest = record {
    told = told;
    cause = remote_same;
    area_left = record {
      tells = ap is_some rest ∙ removed_tells (contents half) piece ∙ tells;
      cause = later_same ∙ area_same;
      same = λ quiet. gone ∙ ap (λ m. remove m piece) sealed ∙ taken_again (pieces area) piece fresh;
    };
  }

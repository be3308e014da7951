-- Each hand's entries, and the whole run.
use Rattle.std.proofs.Common.{◌≡◌, ℕ, ◌<◌, Bool, true, false, ◌&&◌, nat_eq, List, [], ◌∷◌, ◌++◌, Option, Some, None, is_some, refl, arith, sym, ap, subst, ◌∙◌}
use Rattle.std.specs.Option.{option_map_or}
use Rattle.std.proofs.lemmas.Bool.{false≢true}
use Rattle.std.proofs.lemmas.List.{append-nil, append_assoc}
use Rattle.std.proofs.lemmas.Bool.Decides.{nat_tests}
use Rattle.mvn_shared.specs.Files.{Files}
use Rattle.build_core.specs.declared.event.Event.{Event}
use Rattle.build_core.specs.declared.event.Event.TheVariants as event
use Rattle.build_core.specs.declared.plan.Plan.{Plan}
use Rattle.event_core.specs.declared.entry.Carried.{Carried}
use Rattle.event_core.specs.declared.entry.Carried.TheVariants as carried
use Rattle.event_core.specs.declared.entry.RunEntry.{RunEntry}
use Rattle.scripts.specs.declared.outline.Outline.{Outline}
use Rattle.event_core.specs.Enabled.{Enabled, IsEnabled, IsRun}
use Rattle.scripts.specs.Outlines.{outline_of}
use Rattle.event_core.specs.Runs.{IsRunOf, events_of}
use Rattle.event_core.specs.Standing.{Standing, standing_of}
use Rattle.event_core.specs.Worlds.{AllFit, Fits, HandTold, is_bare, is_told, worker_of}
use Rattle.event_core.proofs.Ties.{some_same}
use Rattle.event_core.proofs.Weights.{nothing_is}
use Rattle.run_law.proofs.Complete.{events_more}
use Rattle.run_law.specs.Hands.{AreBare, OwnFit}
use Rattle.run_law.specs.Others.{AreOthers}
use Rattle.run_law.proofs.Staying.{split}

module _ (plan : Plan) (start : Option Files) where
  module _ (told : HandTold) (w : ℕ) where
    -- what was shown stays behind others' entries
    behind_others : (front past rest : List RunEntry) → OwnFit plan start told w front past → AreOthers w rest → OwnFit plan start told w front (past ++ rest)
    behind_others front [] [] fits others = tt
    behind_others front [] (e ∷ rest) fits others =
        let parts = split w e rest others in
        ((λ is. absurd (false≢true (sym parts.0 ∙ is))), behind_others (front ++ e ∷ []) [] rest tt parts.1)
    behind_others front (e ∷ past) rest fits others = (fits.0, behind_others (front ++ e ∷ []) past rest fits.1 others)

    -- and behind an entry that fits
    behind_own : (front past : List RunEntry) (e : RunEntry) → OwnFit plan start told w front past → Fits plan start (λ v. told) (front ++ past) e → OwnFit plan start told w front (past ++ e ∷ [])
    behind_own front [] e fits one = ((λ is. subst (λ es. Fits plan start (λ v. told) es e) (append-nil front) one), tt)
    behind_own front (x ∷ past) e fits one = (fits.0, behind_own (front ++ x ∷ []) past e fits.1 (subst (λ es. Fits plan start (λ v. told) es e) (sym (append_assoc front (x ∷ []) past)) one))

    pub others : (past rest : List RunEntry) → OwnFit plan start told w [] past → AreOthers w rest → OwnFit plan start told w [] (past ++ rest)
    others past rest fits is = behind_others [] past rest fits is

    pub own : (past : List RunEntry) (e : RunEntry) → OwnFit plan start told w [] past → Fits plan start (λ v. told) past e → OwnFit plan start told w [] (past ++ e ∷ [])
    own past e fits one = behind_own [] past e fits one

  -- a number is itself
  itself : (w : ℕ) → nat_eq w w ≡ true
  itself w = grind (arith, nat_tests)

  module _ (hands : ℕ → HandTold) (past : List RunEntry) where
    -- what fits one hand fits a hand of an equal number
    moved : (v w : ℕ) (e : Event) (what : Carried) → Some v ≡ Some w
        → Fits plan start (λ x. hands w) past (record { event = e; carried = what }) → Fits plan start (λ x. hands v) past (record { event = e; carried = what })
    moved v w e what is fits = subst (λ k. Fits plan start (λ x. hands k) past (record { event = e; carried = what })) (sym (some_same v w is)) fits

    -- what fits a worker's hand fits the hands, if it is that worker's
    its_hand : (w : ℕ) (e : Event) (what : Carried) → worker_of e ≡ Some w
        → Fits plan start (λ x. hands w) past (record { event = e; carried = what }) → Fits plan start hands past (record { event = e; carried = what })
    its_hand w (event.Start v m) what is fits = moved v w (event.Start v m) what is fits
    its_hand w (event.Skip m) what is fits = absurd (nothing_is w is)
    its_hand w (event.Take v n mode) what is fits = moved v w (event.Take v n mode) what is fits
    its_hand w (event.Free v n) what is fits = moved v w (event.Free v n) what is fits
    its_hand w (event.Read v f) what is fits = moved v w (event.Read v f) what is fits
    its_hand w (event.Publish v f) what is fits = moved v w (event.Publish v f) what is fits
    its_hand w (event.Answer v g) what is fits = moved v w (event.Answer v g) what is fits
    its_hand w (event.End v x) what is fits = moved v w (event.End v x) what is fits

    -- an entry of no worker fits if it carries nothing
    no_hand : (e : Event) (what : Carried) → worker_of e ≡ None → what ≡ carried.Nothing → Fits plan start hands past (record { event = e; carried = what })
    no_hand (event.Skip m) what is bare = (by (is_some start && false) bare, tt)
      where
        by : (b : Bool) → what ≡ carried.Nothing → is_told b (event.Skip m) what ≡ true
        by true e = ap is_bare e
        by false e = ap is_bare e
    no_hand (event.Start v m) what is bare = absurd (nothing_is v (sym is))
    no_hand (event.Take v n mode) what is bare = absurd (nothing_is v (sym is))
    no_hand (event.Free v n) what is bare = absurd (nothing_is v (sym is))
    no_hand (event.Read v f) what is bare = absurd (nothing_is v (sym is))
    no_hand (event.Publish v f) what is bare = absurd (nothing_is v (sym is))
    no_hand (event.Answer v g) what is bare = absurd (nothing_is v (sym is))
    no_hand (event.End v x) what is bare = absurd (nothing_is v (sym is))

  -- who makes an event is one of the plan's workers
  low_of : (o : Outline) (now : Standing) (w : ℕ) (e : Event) → IsEnabled o now e → worker_of e ≡ Some w → w < o.workers
  low_of o now w (event.Start v m) may is = subst (λ k. k < o.workers) (some_same v w is) may.0
  low_of o now w (event.Skip m) may is = absurd (nothing_is w is)
  low_of o now w (event.Take v n mode) may is = subst (λ k. k < o.workers) (some_same v w is) may.0
  low_of o now w (event.Free v n) may is = subst (λ k. k < o.workers) (some_same v w is) may.0
  low_of o now w (event.Read v f) may is = subst (λ k. k < o.workers) (some_same v w is) may.0
  low_of o now w (event.Publish v f) may is = subst (λ k. k < o.workers) (some_same v w is) may.0
  low_of o now w (event.Answer v g) may is = subst (λ k. k < o.workers) (some_same v w is) may.0
  low_of o now w (event.End v x) may is = subst (λ k. k < o.workers) (some_same v w is) may.0

  module _ (hands : ℕ → HandTold) where
    -- one entry fits
    one : (front run : List RunEntry) (e : RunEntry) → Enabled (outline_of plan) (events_of front) e.event → (worker_of e.event ≡ None → e.carried ≡ carried.Nothing)
        → ((w : ℕ) → w < plan.workers → OwnFit plan start (hands w) w front (e ∷ run)) → Fits plan start hands front e
    unfolding Enabled
    one front run e may bare each = by (worker_of e.event) refl
      where
        by : (whose : Option ℕ) → worker_of e.event ≡ whose → Fits plan start hands front e
        by None is = no_hand hands front e.event e.carried is (bare is)
        by (Some w) is = its_hand hands front w e.event e.carried is ((each w (low_of (outline_of plan) (standing_of (outline_of plan) (events_of front)) w e.event may is)).0 (ap (λ x. option_map_or (λ v. nat_eq v w) x false) is ∙ itself w))

    -- so do all
    all_from : (front run : List RunEntry) → IsRun (outline_of plan) (events_of front) (events_of run) → AreBare run
        → ((w : ℕ) → w < plan.workers → OwnFit plan start (hands w) w front run) → AllFit plan start hands front run
    all_from front [] runs bare each = tt
    all_from front (e ∷ run) runs bare each = (
      one front run e runs.0 bare.0 each,
      all_from (front ++ e ∷ []) run (subst (λ es. IsRun (outline_of plan) es (events_of run)) (sym (events_more front e)) runs.1) bare.1 (λ w low. (each w low).1),
    )

    pub all : (run : List RunEntry) → IsRunOf plan run → AreBare run → ((w : ℕ) → w < plan.workers → OwnFit plan start (hands w) w [] run) → AllFit plan start hands [] run
    all run runs bare each = all_from [] run runs bare each

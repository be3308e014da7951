-- What fits stays fit behind others' entries.
use Rattle.std.proofs.Common.{◌≡◌, ℕ, Bool, true, false, cond, not, ◌&&◌, ◌||◌, nat_le, List, [], ◌∷◌, ◌++◌, map, slice_get, Option, Some, None, is_some, refl, ap, ◌∙◌}
use Rattle.std.specs.List.{list_all}
use Rattle.std.proofs.lemmas.List.{append-nil}
use Rattle.mvn_shared.specs.Files.{Files, file_at}
use Rattle.goal_types.specs.declared.goal.OwnBytes.{OwnBytes}
use Rattle.build_core.specs.OneThread.{entries_len, lacks_artifact, most_classpath, name_of, own_bytes, path_entry}
use Rattle.build_core.specs.Slots.{GoalsEnd, kept_of}
use Rattle.build_core.specs.declared.ending.Ending.{Ending}
use Rattle.build_core.specs.declared.ending.Ending.TheVariants as ending
use Rattle.build_core.specs.declared.event.Event.{Event}
use Rattle.build_core.specs.declared.event.Event.TheVariants as event
use Rattle.build_core.specs.declared.plan.OwnFile.{OwnFile}
use Rattle.build_core.specs.declared.plan.Plan.{Plan}
use Rattle.build_core.specs.declared.plan.PlanModule.{PlanModule}
use Rattle.event_core.specs.declared.entry.Carried.{Carried}
use Rattle.event_core.specs.declared.entry.Carried.TheVariants as carried
use Rattle.event_core.specs.declared.entry.RunEntry.{RunEntry}
use Rattle.scripts.specs.Outlines.{is_listed}
use Rattle.event_core.specs.Runs.{IsRunOf, answers_in, contents, goals_in, kept_by, module_by, outputs_in, put_carried}
use Rattle.event_core.specs.SoundPlans.{IsSoundPlan, is_own}
use Rattle.event_core.specs.Worlds.{FitsEnd, HandTold, IsBeyond, IsInstallable, IsWithin, is_good, is_installed, is_lacking, stood, was_published}
use Rattle.scripts.proofs.Climbs.{both}
use Rattle.event_core.proofs.Fits.{fold_more}
use Rattle.run_law.proofs.Basics.{and_is}
use Rattle.run_law.proofs.Carried.{at_insert}
use Rattle.run_law.proofs.Kept.{answers_more}
use Rattle.run_law.proofs.LaterMoments.{put_stays}
use Rattle.run_law.proofs.Sounds.{sound_fit}
use Rattle.run_law.specs.Others.{AreOthers, HasAll}
use Rattle.run_law.proofs.Staying.{entries_stay, goals_stay, paths_same}

-- ---- what was found out of a module stays

-- what holds of all, one by one, holds of all where each keeps it
all_over : (p q : OwnFile → Bool) → ((o : OwnFile) → p o ≡ true → q o ≡ true) → (own : List OwnFile) → list_all p own ≡ true → list_all q own ≡ true
all_over p q more [] is = refl
all_over p q more (o ∷ own) is = let parts = both (p o) (list_all p own) is in and_is (q o) (list_all q own) (more o parts.0) (all_over p q more own parts.1)

-- one of two holds, and the second may come to hold
either : (a b c : Bool) → (a || b) ≡ true → (b ≡ true → c ≡ true) → (a || c) ≡ true
either true b c is more = refl
either false b c is more = more is

module _ (plan : Plan) (past rest : List RunEntry) (w number : ℕ) (m : PlanModule) (sound : IsSoundPlan plan) (run : IsRunOf plan (past ++ rest))
    (whose : module_by plan past w ≡ Some number) (at : slice_get plan.modules number ≡ Some m) (all : HasAll plan past m) where
  -- the bytes of its entries stay as many
  len_stays : (files : Files) → entries_len (map (path_entry plan (contents plan files (past ++ rest)) (outputs_in plan (past ++ rest))) m.entries) ≡ entries_len (map (path_entry plan (contents plan files past) (outputs_in plan past)) m.entries)
  len_stays files = ap entries_len (entries_stay plan files past rest w number m sound run whose at all)

  pub within : (start : Option Files) → IsWithin (stood plan start past number m) → IsWithin (stood plan start (past ++ rest) number m)
  within None is = tt
  within (Some files) is = ap (λ n. nat_le n most_classpath) (len_stays files) ∙ is

  beyond : (start : Option Files) → IsBeyond (stood plan start past number m) → IsBeyond (stood plan start (past ++ rest) number m)
  beyond None is = tt
  beyond (Some files) is = ap (λ n. nat_le n most_classpath) (len_stays files) ∙ is

  module _ (others : AreOthers w rest) where
    -- its goals stand as they did
    goals_are : goals_in (answers_in plan (past ++ rest)) number m ≡ goals_in (answers_in plan past) number m
    goals_are = goals_stay plan past rest w number m run others whose

    -- so each word of its goals holds as it did
    by_goals : (P : GoalsEnd → Bool) (b : Bool) → P (goals_in (answers_in plan past) number m) ≡ b → P (goals_in (answers_in plan (past ++ rest)) number m) ≡ b
    by_goals P b is = ap P goals_are ∙ is

    pub installable : (start : Option Files) → IsInstallable (stood plan start past number m) → IsInstallable (stood plan start (past ++ rest) number m)
    installable start is = (within start is.0, by_goals is_good true is.1, by_goals (λ g. lacks_artifact m (kept_of g)) false is.2)

    -- what was installed is
    installed : (start : Option Files) → is_installed (stood plan start past number m) ≡ true → is_installed (stood plan start (past ++ rest) number m) ≡ true
    installed start is =
        all_over (λ (o : OwnFile). not (is_some (own_bytes m (kept_of (goals_in (answers_in plan past) number m)) o.slot)) || was_published past o.file)
        (λ (o : OwnFile). not (is_some (own_bytes m (kept_of (goals_in (answers_in plan (past ++ rest)) number m)) o.slot)) || was_published (past ++ rest) o.file)
        (λ o here. ap (λ g. not (is_some (own_bytes m (kept_of g) o.slot)) || was_published (past ++ rest) o.file) goals_are
        ∙ either (not (is_some (own_bytes m (kept_of (goals_in (answers_in plan past) number m)) o.slot))) (was_published past o.file) (was_published (past ++ rest) o.file) here (λ put. put_stays past rest o.file put))
        m.own is

    pub ends : (start : Option Files) (told : HandTold) (e : Ending) → FitsEnd (stood plan start past number m) told e → FitsEnd (stood plan start (past ++ rest) number m) told e
    ends start told ending.Built is = (
      within start is.0,
      by_goals is_good true is.1,
      either (not m.installs) (is_installed (stood plan start past number m)) (is_installed (stood plan start (past ++ rest) number m)) is.2 (λ put. installed start put),
      by_goals (λ g. m.installs && lacks_artifact m (kept_of g)) false is.3,
    )
    ends start told (ending.Missing file) is = is
    ends start told ending.ClasspathTooLarge is = beyond start is
    ends start told (ending.Goal i) is = by_goals (Rattle.event_core.specs.Worlds.has_failed_at i) true is
    ends start told (ending.OutputTooLarge i) is = by_goals (Rattle.event_core.specs.Worlds.is_too_large_at i) true is
    ends start told ending.NoArtifact is = (within start is.0, by_goals is_good true is.1, by_goals (λ g. m.installs && lacks_artifact m (kept_of g)) true is.2)
    ends start told (ending.Fault device) is = tt
    ends start told ending.Memory is = tt

-- ---- a worker's own entries

-- an event that carries nothing puts no file, and keeps no answer
put_nothing : (plan : Plan) (files : Files) (e : Event) → put_carried plan files e carried.Nothing ≡ files
put_nothing plan files (event.Start w m) = refl
put_nothing plan files (event.Skip m) = refl
put_nothing plan files (event.Take w n mode) = refl
put_nothing plan files (event.Free w n) = refl
put_nothing plan files (event.Read w f) = refl
put_nothing plan files (event.Publish w f) = refl
put_nothing plan files (event.Answer w g) = refl
put_nothing plan files (event.End w x) = refl

kept_nothing : (plan : Plan) (past : List RunEntry) (e : Event) → kept_by plan past e carried.Nothing ≡ []
kept_nothing plan past (event.Start w m) = refl
kept_nothing plan past (event.Skip m) = refl
kept_nothing plan past (event.Take w n mode) = refl
kept_nothing plan past (event.Free w n) = refl
kept_nothing plan past (event.Read w f) = refl
kept_nothing plan past (event.Publish w f) = refl
kept_nothing plan past (event.Answer w g) = refl
kept_nothing plan past (event.End w x) = refl

pub bare : (plan : Plan) (start : Files) (past : List RunEntry) (e : RunEntry) → e.carried ≡ carried.Nothing
    → (contents plan start (past ++ e ∷ []) ≡ contents plan start past) × (answers_in plan (past ++ e ∷ []) ≡ answers_in plan past)
bare plan start past e none = (
  fold_more (λ files (x : RunEntry). put_carried plan files x.event x.carried) past start e ∙ ap (put_carried plan (contents plan start past) e.event) none ∙ put_nothing plan (contents plan start past) e.event,
  answers_more plan past e ∙ ap (λ what. answers_in plan past ++ kept_by plan past e.event what) none ∙ ap (λ kept. answers_in plan past ++ kept) (kept_nothing plan past e.event) ∙ append-nil (answers_in plan past),
)

-- a file that a module is installed as isn't one that it fetches, and has another name
module _ (plan : Plan) (files : Files) (outputs : List (List OwnBytes)) (w number file : ℕ) (m : PlanModule) (sound : IsSoundPlan plan) (at : slice_get plan.modules number ≡ Some m) (own : is_own file m ≡ true) where
  still : (f : ℕ) (what : Carried) → is_listed f m.fetch ≡ true → file_at (put_carried plan files (event.Publish w file) what) (name_of plan f) ≡ file_at files (name_of plan f)
  still f carried.Nothing listed = refl
  still f (carried.Answered answer) listed = refl
  still f (carried.Published bytes) listed = at_insert files (name_of plan file) bytes (name_of plan f) ∙ ap (λ b. cond b (Some bytes) (file_at files (name_of plan f))) ((sound_fit plan sound).apart f file (number, m, at, listed) (number, m, at, own))

  pub own_file : (what : Carried) → map (path_entry plan (put_carried plan files (event.Publish w file) what) outputs) m.entries ≡ map (path_entry plan files outputs) m.entries
  own_file what = paths_same plan m files (put_carried plan files (event.Publish w file) what) outputs outputs (λ f listed. still f what listed) (λ u listed. refl) m.entries (sound.modules number m at).entries

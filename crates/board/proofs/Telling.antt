-- What a board keeps of the repository's files.
use Rattle.std.proofs.Common.{◌≡◌, ℕ, ◌<◌, Bool, true, List, [], length, Option, Some, None, IfSome, is_some, refl, arith, sym, ap, subst, ◌∙◌}
use Rattle.mvn_shared.specs.Files.{file_at}
use Rattle.mvn_outside.specs.Shelf.{files_now}
use Rattle.mvn_outside.specs.declared.shelf.ShelfTold.{ShelfTold}
use Rattle.build_core.specs.OneThread.{name_of}
use Rattle.build_core.specs.declared.event.Answered.{Answered}
use Rattle.build_core.specs.declared.event.Event.{Event}
use Rattle.build_core.specs.declared.event.Event.TheVariants as event
use Rattle.build_core.specs.declared.plan.Plan.{Plan}
use Rattle.event_core.specs.Enabled.{Enabled, IsRun}
use Rattle.event_core.specs.Runs.{IsRunOf, contents, events_of, standing_of_run}
use Rattle.scripts.specs.Scripts.{is_there}
use Rattle.event_core.specs.declared.entry.RunEntry.{RunEntry}
use Rattle.scripts.specs.declared.outline.Outline.{Outline}
use Rattle.run_law.specs.Given.{IsPresent}
use Rattle.board.specs.Keeping.{IsBoard, Room, log_by}
use Rattle.board.specs.Logs.{AreCarried, published_since, told_after}
use Rattle.board.proofs.Carries.{carries, since_told}
use Rattle.board.proofs.DueReads.{read_there}
use Rattle.board.proofs.Shelves.{read_low}
use Rattle.board.proofs.Steps.{at_build}
use Rattle.board.proofs.Theres.{there_is, told_contents}

module _ {S : Type 0} (told : S → Option ShelfTold) (faults : S → ℕ) (plan : Plan) (core : Outline × List Event) (opening shelf : S) (answers : List Answered) (marks : List Bool) (room : Room)
    (board : IsBoard told faults plan core opening shelf answers marks room) (run : IsRun core.0 [] core.1) where
  abbrev log : List RunEntry
  log = log_by (told opening) (told shelf) answers core.1

  run_is : IsRunOf plan (log_by (told opening) (told shelf) answers core.1)
  run_is = at_build told faults plan core opening shelf answers marks room board (λ o es. IsRun o [] es) run

  -- each entry carries what it has to
  pub carried_is : AreCarried (is_some (told opening)) (log_by (told opening) (told shelf) answers core.1)
  carried_is = subst (λ b. AreCarried b log) (since_told plan log (told opening) (told shelf) board.tells) (carries (published_since (told opening) (told shelf)) answers core.1 board.published board.answered)

  -- which files are there is what the repository tells
  pub files_there : IfSome (told shelf) (λ t. (f : ℕ) → f < length plan.files → is_there (standing_of_run plan (log_by (told opening) (told shelf) answers core.1)).there f ≡ is_some (file_at (files_now t) (name_of plan f)))
  files_there = by (told opening) refl
    where
      by : (t : Option ShelfTold) → told opening ≡ t → IfSome (told shelf) (λ t. (f : ℕ) → f < length plan.files → is_there (standing_of_run plan log).there f ≡ is_some (file_at (files_now t) (name_of plan f)))
      by None e = subst (λ x. IfSome x (λ t. (f : ℕ) → f < length plan.files → is_there (standing_of_run plan log).there f ≡ is_some (file_at (files_now t) (name_of plan f)))) (sym (board.tells ∙ ap (told_after plan log) e)) tt
      by (Some t) e =
          let carried : AreCarried true log = subst (λ x. AreCarried (is_some x) log) e carried_is in
          let present : IsPresent plan (files_now t) = subst (λ x. IfSome x (λ t. IsPresent plan (files_now t))) e board.present in
          subst (λ x. IfSome x (λ t. (f : ℕ) → f < length plan.files → is_there (standing_of_run plan log).there f ≡ is_some (file_at (files_now t) (name_of plan f)))) (sym (board.tells ∙ ap (told_after plan log) e))
          (λ f low. there_is plan board.sound (files_now t) present log run_is carried f low ∙ ap (λ files. is_some (file_at files (name_of plan f))) (sym (told_contents plan log t)))

  -- its files are those at the start with what the log put
  pub contents_told : IfSome (told opening) (λ first. IfSome (told shelf) (λ later. files_now later ≡ contents plan (files_now first) (log_by (told opening) (told shelf) answers core.1)))
  contents_told = by (told opening) refl
    where
      by : (t : Option ShelfTold) → told opening ≡ t → IfSome t (λ first. IfSome (told shelf) (λ later. files_now later ≡ contents plan (files_now first) log))
      by None e = tt
      by (Some t) e = subst (λ x. IfSome x (λ later. files_now later ≡ contents plan (files_now t) log)) (sym (board.tells ∙ ap (told_after plan log) e)) (told_contents plan log t)

  -- a file that is to be read next is told to be there
  pub due_told : (w f : ℕ) → Enabled core.0 core.1 (event.Read w f) → IfSome (told shelf) (λ t. is_some (file_at (files_now t) (name_of plan f)) ≡ true)
  due_told w f may = by (told shelf) files_there
    where
      low : f < length plan.files
      low = let a = read_low core.0 core.1 w f may in let same = ap (λ o. length o.present) board.outline in let p = board.sound.present in omega (arith, a, same, p)

      there : is_there (standing_of_run plan log).there f ≡ true
      there = read_there plan board.sound (events_of log) run_is w f (at_build told faults plan core opening shelf answers marks room board (λ o es. Enabled o es (event.Read w f)) may)

      by : (t : Option ShelfTold) → IfSome t (λ t. (f : ℕ) → f < length plan.files → is_there (standing_of_run plan log).there f ≡ is_some (file_at (files_now t) (name_of plan f))) → IfSome t (λ t. is_some (file_at (files_now t) (name_of plan f)) ≡ true)
      by None is = tt
      by (Some t) is = sym (is f low) ∙ there

-- Each entry of a log carries what it has to.
use Rattle.std.proofs.Common.{◌≡◌, List, [], ◌∷◌, length, Option, Some, None, IfSome, is_some, refl, arith, ap}
use Rattle.std.proofs.lemmas.Bool.{false≢true}
use Rattle.mvn_outside.specs.declared.shelf.Published.{Published}
use Rattle.mvn_outside.specs.declared.shelf.ShelfTold.{ShelfTold}
use Rattle.build_core.specs.declared.event.Answered.{Answered}
use Rattle.build_core.specs.declared.event.Event.{Event}
use Rattle.build_core.specs.declared.event.Event.TheVariants as event
use Rattle.build_core.specs.declared.plan.Plan.{Plan}
use Rattle.event_core.specs.declared.entry.RunEntry.{RunEntry}
use Rattle.board.specs.Keeping.{answer_count, publish_count}
use Rattle.board.specs.Logs.{AreCarried, log_of, published_since, told_after}

pub carries : (told : Option (List Published)) (kept : List Answered) (es : List Event) → IfSome told (λ ps. publish_count es ≡ length ps) → answer_count es ≡ length kept → AreCarried (is_some told) (log_of told kept es)
carries None kept [] d c = refl
carries (Some told) kept [] d c = refl
carries None kept (event.Start w m ∷ es) d c = carries None kept es d c
carries (Some told) kept (event.Start w m ∷ es) d c = carries (Some told) kept es d c
carries None kept (event.Skip m ∷ es) d c = carries None kept es d c
carries (Some told) kept (event.Skip m ∷ es) d c = carries (Some told) kept es d c
carries None kept (event.Take w n mode ∷ es) d c = carries None kept es d c
carries (Some told) kept (event.Take w n mode ∷ es) d c = carries (Some told) kept es d c
carries None kept (event.Free w n ∷ es) d c = carries None kept es d c
carries (Some told) kept (event.Free w n ∷ es) d c = carries (Some told) kept es d c
carries None kept (event.Read w f ∷ es) d c = carries None kept es d c
carries (Some told) kept (event.Read w f ∷ es) d c = carries (Some told) kept es d c
carries None kept (event.Publish w f ∷ es) d c = carries None kept es d c
carries (Some []) kept (event.Publish w f ∷ es) d c = absurd (omega (arith, d))
carries (Some (p ∷ told)) kept (event.Publish w f ∷ es) d c = carries (Some told) kept es (omega (arith, d)) c
carries None [] (event.Answer w g ∷ es) d c = absurd (omega (arith, c))
carries (Some told) [] (event.Answer w g ∷ es) d c = absurd (omega (arith, c))
carries None (k ∷ kept) (event.Answer w g ∷ es) d c = carries None kept es d (omega (arith, c))
carries (Some told) (k ∷ kept) (event.Answer w g ∷ es) d c = carries (Some told) kept es d (omega (arith, c))
carries None kept (event.End w x ∷ es) d c = carries None kept es d c
carries (Some told) kept (event.End w x ∷ es) d c = carries (Some told) kept es d c

-- what is told since the start is told exactly where it was told at the start
pub since_told : (plan : Plan) (log : List RunEntry) (opening now : Option ShelfTold) → now ≡ told_after plan log opening → is_some (published_since opening now) ≡ is_some opening
since_told plan log None now e = refl
since_told plan log (Some t) None e = absurd (false≢true (ap is_some e))
since_told plan log (Some t) (Some later) e = refl

-- Logs, one event more.
use Rattle.std.proofs.Common.{◌≡◌, ℕ, ◌+◌, Bool, true, false, List, [], ◌∷◌, ◌++◌, length, filter, Option, Some, None, IfSome, option_map, refl, arith, sym, ap, ◌∙◌, if◌then◌else◌}
use Rattle.std.proofs.lemmas.Bool.{false≢true}
use Rattle.std.proofs.lemmas.List.{append-nil}
use Rattle.mvn_outside.specs.declared.shelf.Published.{Published}
use Rattle.mvn_outside.specs.declared.shelf.ShelfTold.{ShelfTold}
use Rattle.build_core.specs.declared.event.Answered.{Answered}
use Rattle.build_core.specs.declared.event.Event.{Event}
use Rattle.build_core.specs.declared.event.Event.TheVariants as event
use Rattle.build_core.specs.declared.plan.Plan.{Plan}
use Rattle.event_core.specs.Runs.{answers_in, events_of, kept_by}
use Rattle.event_core.specs.declared.entry.Carried.{Carried}
use Rattle.event_core.specs.declared.entry.Carried.TheVariants as carried
use Rattle.event_core.specs.declared.entry.RunEntry.{RunEntry}
use Rattle.run_law.proofs.Kept.{answers_more}
use Rattle.run_law.proofs.Stored.{length_map}
use Rattle.board.specs.Keeping.{answer_count, is_plain, publish_count}
use Rattle.board.specs.Logs.{behind, is_shelf_end, log_of, published_as, publishes_in, shelf_endings, told_after}

abbrev pub entry : Event → Carried → RunEntry
entry e what = record { event = e; carried = what }

-- ---- the log of more events, with more publishes and answers for them

no_items : {A : Type 0} (xs : List A) → 0 ≡ length xs → xs ≡ []
no_items [] e = refl
no_items (x ∷ xs) e = absurd (omega (arith, e))

pub grown_none : (es fs : List Event) (kept kmore : List Answered) → answer_count es ≡ length kept → log_of None (kept ++ kmore) (es ++ fs) ≡ log_of None kept es ++ log_of None kmore fs
grown_none [] fs kept kmore e = ap (λ k. log_of None (k ++ kmore) fs) (no_items kept e)
grown_none (event.Start w m ∷ es) fs kept kmore e = ap (λ t. entry (event.Start w m) carried.Nothing ∷ t) (grown_none es fs kept kmore e)
grown_none (event.Skip m ∷ es) fs kept kmore e = ap (λ t. entry (event.Skip m) carried.Nothing ∷ t) (grown_none es fs kept kmore e)
grown_none (event.Take w n mode ∷ es) fs kept kmore e = ap (λ t. entry (event.Take w n mode) carried.Nothing ∷ t) (grown_none es fs kept kmore e)
grown_none (event.Free w n ∷ es) fs kept kmore e = ap (λ t. entry (event.Free w n) carried.Nothing ∷ t) (grown_none es fs kept kmore e)
grown_none (event.Read w f ∷ es) fs kept kmore e = ap (λ t. entry (event.Read w f) carried.Nothing ∷ t) (grown_none es fs kept kmore e)
grown_none (event.Publish w f ∷ es) fs kept kmore e = ap (λ t. entry (event.Publish w f) carried.Nothing ∷ t) (grown_none es fs kept kmore e)
grown_none (event.Answer w g ∷ es) fs [] kmore e = absurd (omega (arith, e))
grown_none (event.Answer w g ∷ es) fs (k ∷ kept) kmore e = ap (λ t. entry (event.Answer w g) (carried.Answered k.answer) ∷ t) (grown_none es fs kept kmore (omega (arith, e)))
grown_none (event.End w x ∷ es) fs kept kmore e = ap (λ t. entry (event.End w x) carried.Nothing ∷ t) (grown_none es fs kept kmore e)

pub grown_some : (es fs : List Event) (told more : List Published) (kept kmore : List Answered) → publish_count es ≡ length told → answer_count es ≡ length kept → log_of (Some (told ++ more)) (kept ++ kmore) (es ++ fs) ≡ log_of (Some told) kept es ++ log_of (Some more) kmore fs
grown_some [] fs told more kept kmore d e = ap (λ k. log_of (Some (told ++ more)) (k ++ kmore) fs) (no_items kept e) ∙ ap (λ t. log_of (Some (t ++ more)) kmore fs) (no_items told d)
grown_some (event.Start w m ∷ es) fs told more kept kmore d e = ap (λ t. entry (event.Start w m) carried.Nothing ∷ t) (grown_some es fs told more kept kmore d e)
grown_some (event.Skip m ∷ es) fs told more kept kmore d e = ap (λ t. entry (event.Skip m) carried.Nothing ∷ t) (grown_some es fs told more kept kmore d e)
grown_some (event.Take w n mode ∷ es) fs told more kept kmore d e = ap (λ t. entry (event.Take w n mode) carried.Nothing ∷ t) (grown_some es fs told more kept kmore d e)
grown_some (event.Free w n ∷ es) fs told more kept kmore d e = ap (λ t. entry (event.Free w n) carried.Nothing ∷ t) (grown_some es fs told more kept kmore d e)
grown_some (event.Read w f ∷ es) fs told more kept kmore d e = ap (λ t. entry (event.Read w f) carried.Nothing ∷ t) (grown_some es fs told more kept kmore d e)
grown_some (event.Publish w f ∷ es) fs [] more kept kmore d e = absurd (omega (arith, d))
grown_some (event.Publish w f ∷ es) fs (p ∷ told) more kept kmore d e = ap (λ t. entry (event.Publish w f) (carried.Published p.bytes) ∷ t) (grown_some es fs told more kept kmore (omega (arith, d)) e)
grown_some (event.Answer w g ∷ es) fs told more [] kmore d e = absurd (omega (arith, e))
grown_some (event.Answer w g ∷ es) fs told more (k ∷ kept) kmore d e = ap (λ t. entry (event.Answer w g) (carried.Answered k.answer) ∷ t) (grown_some es fs told more kept kmore d (omega (arith, e)))
grown_some (event.End w x ∷ es) fs told more kept kmore d e = ap (λ t. entry (event.End w x) carried.Nothing ∷ t) (grown_some es fs told more kept kmore d e)

-- the log of one event more that is neither a publish nor an answer
last_plain : (told : Option (List Published)) (kept : List Answered) (e : Event) → is_plain e ≡ true → log_of told kept (e ∷ []) ≡ entry e carried.Nothing ∷ []
last_plain told kept (event.Start w m) is = refl
last_plain told kept (event.Skip m) is = refl
last_plain told kept (event.Take w n mode) is = refl
last_plain told kept (event.Free w n) is = refl
last_plain told kept (event.Read w f) is = refl
last_plain told kept (event.Publish w f) is = absurd (false≢true is)
last_plain told kept (event.Answer w g) is = absurd (false≢true is)
last_plain told kept (event.End w x) is = refl

pub plain_more : (told : Option (List Published)) (kept : List Answered) (es : List Event) (e : Event) → IfSome told (λ ps. publish_count es ≡ length ps) → answer_count es ≡ length kept → is_plain e ≡ true → log_of told kept (es ++ e ∷ []) ≡ log_of told kept es ++ entry e carried.Nothing ∷ []
plain_more None kept es e d c is =
    ap (λ k. log_of None k (es ++ e ∷ [])) (sym (append-nil kept)) ∙ grown_none es (e ∷ []) kept [] c ∙ ap (λ t. log_of None kept es ++ t) (last_plain None [] e is)
plain_more (Some told) kept es e d c is =
    ap (λ k. log_of (Some told) k (es ++ e ∷ [])) (sym (append-nil kept)) ∙ ap (λ t. log_of (Some t) (kept ++ []) (es ++ e ∷ [])) (sym (append-nil told))
    ∙ grown_some es (e ∷ []) told [] kept [] d c ∙ ap (λ t. log_of (Some told) kept es ++ t) (last_plain (Some []) [] e is)

-- one answer more
pub answer_more : (told : Option (List Published)) (kept : List Answered) (a : Answered) (es : List Event) (w g : ℕ) → IfSome told (λ ps. publish_count es ≡ length ps) → answer_count es ≡ length kept → log_of told (kept ++ a ∷ []) (es ++ event.Answer w g ∷ []) ≡ log_of told kept es ++ entry (event.Answer w g) (carried.Answered a.answer) ∷ []
answer_more None kept a es w g d c = grown_none es (event.Answer w g ∷ []) kept (a ∷ []) c
answer_more (Some told) kept a es w g d c = ap (λ t. log_of (Some t) (kept ++ a ∷ []) (es ++ event.Answer w g ∷ [])) (sym (append-nil told)) ∙ grown_some es (event.Answer w g ∷ []) told [] kept (a ∷ []) d c

-- one publish more, where they are told, and where they aren't
pub publish_more : (told : List Published) (p : Published) (kept : List Answered) (es : List Event) (w f : ℕ) → publish_count es ≡ length told → answer_count es ≡ length kept → log_of (Some (told ++ p ∷ [])) kept (es ++ event.Publish w f ∷ []) ≡ log_of (Some told) kept es ++ entry (event.Publish w f) (carried.Published p.bytes) ∷ []
publish_more told p kept es w f d c = ap (λ k. log_of (Some (told ++ p ∷ [])) k (es ++ event.Publish w f ∷ [])) (sym (append-nil kept)) ∙ grown_some es (event.Publish w f ∷ []) told (p ∷ []) kept [] d c

pub untold_more : (kept : List Answered) (es : List Event) (w f : ℕ) → answer_count es ≡ length kept → log_of None kept (es ++ event.Publish w f ∷ []) ≡ log_of None kept es ++ entry (event.Publish w f) carried.Nothing ∷ []
untold_more kept es w f c = ap (λ k. log_of None k (es ++ event.Publish w f ∷ [])) (sym (append-nil kept)) ∙ grown_none es (event.Publish w f ∷ []) kept [] c

-- ---- its events

pub events_are : (told : Option (List Published)) (kept : List Answered) (es : List Event) → events_of (log_of told kept es) ≡ es
events_are told kept [] = refl
events_are told kept (event.Start w m ∷ es) = ap (λ t. (event.Start w m) ∷ t) (events_are told kept es)
events_are told kept (event.Skip m ∷ es) = ap (λ t. (event.Skip m) ∷ t) (events_are told kept es)
events_are told kept (event.Take w n mode ∷ es) = ap (λ t. (event.Take w n mode) ∷ t) (events_are told kept es)
events_are told kept (event.Free w n ∷ es) = ap (λ t. (event.Free w n) ∷ t) (events_are told kept es)
events_are told kept (event.Read w f ∷ es) = ap (λ t. (event.Read w f) ∷ t) (events_are told kept es)
events_are told kept (event.Publish w f ∷ es) = ap (λ t. (event.Publish w f) ∷ t) (events_are (option_map behind told) kept es)
events_are told kept (event.Answer w g ∷ es) = ap (λ t. (event.Answer w g) ∷ t) (events_are told (behind kept) es)
events_are told kept (event.End w x ∷ es) = ap (λ t. (event.End w x) ∷ t) (events_are told kept es)

-- ---- counts

pub publishes_append : (es fs : List Event) → publish_count (es ++ fs) ≡ publish_count es + publish_count fs
publishes_append [] fs = omega arith
publishes_append (event.Start w m ∷ es) fs = publishes_append es fs
publishes_append (event.Skip m ∷ es) fs = publishes_append es fs
publishes_append (event.Take w n mode ∷ es) fs = publishes_append es fs
publishes_append (event.Free w n ∷ es) fs = publishes_append es fs
publishes_append (event.Read w f ∷ es) fs = publishes_append es fs
publishes_append (event.Publish w f ∷ es) fs = let again = publishes_append es fs in omega (arith, again)
publishes_append (event.Answer w g ∷ es) fs = publishes_append es fs
publishes_append (event.End w x ∷ es) fs = publishes_append es fs

pub answers_append : (es fs : List Event) → answer_count (es ++ fs) ≡ answer_count es + answer_count fs
answers_append [] fs = omega arith
answers_append (event.Start w m ∷ es) fs = answers_append es fs
answers_append (event.Skip m ∷ es) fs = answers_append es fs
answers_append (event.Take w n mode ∷ es) fs = answers_append es fs
answers_append (event.Free w n ∷ es) fs = answers_append es fs
answers_append (event.Read w f ∷ es) fs = answers_append es fs
answers_append (event.Publish w f ∷ es) fs = answers_append es fs
answers_append (event.Answer w g ∷ es) fs = let again = answers_append es fs in omega (arith, again)
answers_append (event.End w x ∷ es) fs = answers_append es fs

-- an event that is neither counts as none
pub none_counted : (e : Event) → is_plain e ≡ true → (publish_count (e ∷ []) ≡ 0) × (answer_count (e ∷ []) ≡ 0)
none_counted (event.Start w m) is = (refl, refl)
none_counted (event.Skip m) is = (refl, refl)
none_counted (event.Take w n mode) is = (refl, refl)
none_counted (event.Free w n) is = (refl, refl)
none_counted (event.Read w f) is = (refl, refl)
none_counted (event.Publish w f) is = absurd (false≢true is)
none_counted (event.Answer w g) is = absurd (false≢true is)
none_counted (event.End w x) is = (refl, refl)

-- ---- what a log with one entry more says

-- as `filter_map` goes on
abbrev more_of : Option Published → List Published → List Published
more_of None ps = ps
more_of (Some p) ps = p ∷ ps

pub publishes_one : (plan : Plan) (log : List RunEntry) (e : RunEntry) → publishes_in plan (log ++ e ∷ []) ≡ publishes_in plan log ++ publishes_in plan (e ∷ [])
publishes_one plan [] e = refl
publishes_one plan (x ∷ log) e = by (published_as plan x.event x.carried) (publishes_one plan log e)
  where
    by : (found : Option Published) → publishes_in plan (log ++ e ∷ []) ≡ publishes_in plan log ++ publishes_in plan (e ∷ []) → more_of found (publishes_in plan (log ++ e ∷ [])) ≡ more_of found (publishes_in plan log) ++ publishes_in plan (e ∷ [])
    by None again = again
    by (Some p) again = ap (λ t. p ∷ t) again

-- an entry that carries nothing publishes nothing that is told
pub told_same : (plan : Plan) (log : List RunEntry) (e : Event) (told : Option ShelfTold) → told_after plan (log ++ entry e carried.Nothing ∷ []) told ≡ told_after plan log told
told_same plan log e None = refl
told_same plan log e (Some t) = ap (λ ps. Some (record t { publishes = t.publishes ++ ps })) (publishes_one plan log (entry e carried.Nothing) ∙ append-nil (publishes_in plan log))

nothing_kept : (plan : Plan) (past : List RunEntry) (e : Event) → kept_by plan past e carried.Nothing ≡ []
nothing_kept plan past (event.Start w m) = refl
nothing_kept plan past (event.Skip m) = refl
nothing_kept plan past (event.Take w n mode) = refl
nothing_kept plan past (event.Free w n) = refl
nothing_kept plan past (event.Read w f) = refl
nothing_kept plan past (event.Publish w f) = refl
nothing_kept plan past (event.Answer w g) = refl
nothing_kept plan past (event.End w x) = refl

pub answers_same : (plan : Plan) (log : List RunEntry) (e : Event) → answers_in plan (log ++ entry e carried.Nothing ∷ []) ≡ answers_in plan log
answers_same plan log e = answers_more plan log (entry e carried.Nothing) ∙ ap (λ t. answers_in plan log ++ t) (nothing_kept plan log e) ∙ append-nil (answers_in plan log)

abbrev pub one_of : Bool → ℕ
one_of true = 1
one_of false = 0

pub endings_one : (log : List RunEntry) (e : Event) (what : Carried) → shelf_endings (log ++ entry e what ∷ []) ≡ shelf_endings log + one_of (is_shelf_end e)
endings_one [] e what = by (is_shelf_end e)
  where
    by : (b : Bool) → length (if b then entry e what ∷ [] else []) ≡ 0 + one_of b
    by true = refl
    by false = refl
endings_one (x ∷ log) e what = by (is_shelf_end x.event) (endings_one log e what)
  where
    by : (b : Bool) → shelf_endings (log ++ entry e what ∷ []) ≡ shelf_endings log + one_of (is_shelf_end e) → length (if b then x ∷ filter (λ (y : RunEntry). is_shelf_end y.event) (log ++ entry e what ∷ []) else filter (λ (y : RunEntry). is_shelf_end y.event) (log ++ entry e what ∷ [])) ≡ length (if b then x ∷ filter (λ (y : RunEntry). is_shelf_end y.event) log else filter (λ (y : RunEntry). is_shelf_end y.event) log) + one_of (is_shelf_end e)
    by true again = omega (arith, again)
    by false again = again

pub length_is : (told : Option (List Published)) (kept : List Answered) (es : List Event) → length (log_of told kept es) ≡ length es
length_is told kept es = sym (length_map (λ (e : RunEntry). e.event) (log_of told kept es)) ∙ ap length (events_are told kept es)

-- When a worker's module has ended, and what a worker's endings are behind its turns.
use Rattle.std.proofs.Common.{◌≡◌, ℕ, Bool, true, false, not, nat_eq, List, [], ◌∷◌, ◌++◌, drop, length, Some, None, refl, sym, ap, subst, ◌∙◌, if◌then◌else◌}
use Rattle.std.specs.List.{cons_option, list_all}
use Rattle.std.proofs.lemmas.Bool.{false≢true}
use Rattle.std.proofs.lemmas.List.{append-nil, append_assoc}
use Rattle.std.proofs.Math.Seq.{drop-append_seam}
use Rattle.build_core.specs.declared.ending.Ending.{Ending}
use Rattle.build_core.specs.declared.event.Event.{Event}
use Rattle.build_core.specs.declared.event.Event.TheVariants as event
use Rattle.build_core.specs.declared.plan.Plan.{Plan}
use Rattle.event_core.specs.declared.entry.RunEntry.{RunEntry}
use Rattle.event_core.specs.Runs.{IsRunOf, module_by}
use Rattle.scripts.proofs.Climbs.{both}
use Rattle.event_core.proofs.Fits.{fold_more}
use Rattle.atomic_table.specs.Seated.{TableId}
use Rattle.turn_lock.specs.Turns.{Begins, is_of, open_of, opened_by}
use Rattle.board.specs.Logs.{role}
use Rattle.run_law.specs.Others.{AreOthers}
use Rattle.run_law.specs.Others as others
use Rattle.crew_turns.proofs.Counting.{endings_append}
use Rattle.crew_turns.specs.Endings.{ending_of, endings_of, endings_since}
use Rattle.crew_turns.specs.Stops.{HasEnded}
use Rattle.crew_turns.proofs.Opening.{open_is}
use Rattle.crew_turns.proofs.Taken.{itself}
use Rattle.crew_turns.specs.Seen.{Follows, IsOf, Sees, Steps, Told, seen_by}
use Rattle.crew_turns.specs.Tasks.{ModuleTask}

-- ---- logs

-- what begins with what begins with a log begins with that
pub begins_all : {E : Type 0} (a b c : List E) → Begins a b → Begins b c → Begins a c
begins_all a b c first more = (first.0 ++ more.0, more.1 ∙ ap (λ l. l ++ more.0) first.1 ∙ append_assoc a first.0 more.0)

-- and so do passes
pub follows_all : (a b c : Told) → Follows a b → Follows b c → Follows a c
follows_all a b c first more = record {
  lock = more.lock ∙ first.lock;
  quiet = more.quiet;
  number = more.number ∙ first.number;
  reach = more.reach ∙ first.reach;
  weight = more.weight ∙ first.weight;
  workers = more.workers ∙ first.workers;
  fixed = more.fixed ∙ first.fixed;
  log = begins_all (seen_by a) (seen_by b) (seen_by c) first.log more.log;
}

-- ---- endings

-- others' entries end no module of a worker
pub others_end_none : (w : ℕ) (rest : List RunEntry) → AreOthers w rest → endings_of w rest ≡ []
others_end_none w [] none = refl
others_end_none w (e ∷ rest) none =
    let parts = both (not (others.is_of w e.event)) (list_all (λ (x : RunEntry). not (others.is_of w x.event)) rest) none in
    ap (λ o. cons_option o (endings_of w rest)) (not_its e.event parts.0) ∙ others_end_none w rest parts.1
  where
    by : (v : ℕ) (x : Ending) (b : Bool) → not b ≡ true → (if b then Some x else None) ≡ None
    by v x true is = absurd (false≢true is)
    by v x false is = refl

    not_its : (e : Event) → not (others.is_of w e) ≡ true → ending_of w e ≡ None
    not_its (event.Start v m) is = refl
    not_its (event.Skip m) is = refl
    not_its (event.Take v n mode) is = refl
    not_its (event.Free v n) is = refl
    not_its (event.Read v f) is = refl
    not_its (event.Publish v f) is = refl
    not_its (event.Answer v g) is = refl
    not_its (event.End v x) is = by v x (nat_eq v w) is

-- behind others' entries and one more, a worker's endings are those before and that of this entry
ends_one : (w : ℕ) (seen rest : List RunEntry) (e : RunEntry) → AreOthers w rest → endings_of w (seen ++ rest ++ e ∷ []) ≡ endings_of w seen ++ cons_option (ending_of w e.event) []
ends_one w seen rest e apart =
    endings_append w (seen ++ rest) (e ∷ [])
    ∙ ap (λ es. es ++ cons_option (ending_of w e.event) []) (endings_append w seen rest ∙ ap (λ es. endings_of w seen ++ es) (others_end_none w rest apart) ∙ append-nil (endings_of w seen))

-- a turn without an entry of the worker ends none
pub sees_ends_none : (plan : Plan) (lock : TableId) (w : ℕ) (before pass : Told) → Sees plan lock w before pass → endings_of w (seen_by pass) ≡ endings_of w (seen_by before)
sees_ends_none plan lock w before pass turn =
    ap (endings_of w) turn.log ∙ endings_append w (seen_by before) turn.others ∙ ap (λ es. endings_of w (seen_by before) ++ es) (others_end_none w turn.others turn.apart) ∙ append-nil (endings_of w (seen_by before))

-- nor does the start of one
pub start_ends_none : (plan : Plan) (lock : TableId) (w number : ℕ) (before pass : Told) → Steps plan lock w (event.Start w number) before pass → endings_of w (seen_by pass) ≡ endings_of w (seen_by before)
start_ends_none plan lock w number before pass turn =
    ap (endings_of w) turn.log ∙ ends_one w (seen_by before) turn.others (record { event = event.Start w number; carried = turn.what }) turn.apart ∙ append-nil (endings_of w (seen_by before))

-- the end of a module is one more, and the worker builds none then
pub has_ended : (t : ModuleTask) (lock : TableId) (e : Ending) (before pass : Told) → Steps t.plan lock t.worker (event.End t.worker e) before pass → HasEnded t lock e before pass
has_ended t lock e before pass turn = record {
  of = turn.of;
  follows = turn.follows;
  ended =
      ap (endings_of t.worker) turn.log ∙ ends_one t.worker (seen_by before) turn.others entry turn.apart
      ∙ ap (λ b. endings_of t.worker (seen_by before) ++ cons_option (if b then Some e else None) []) (itself t.worker);
  idle = sym (open_is t.plan t.worker (seen_by pass) turn.of.run) ∙ closed;
}
  where
    entry : RunEntry
    entry = record { event = event.End t.worker e; carried = turn.what }

    closed : open_of role t.worker (seen_by pass) ≡ None
    closed =
        ap (open_of role t.worker) turn.log
        ∙ fold_more (λ before (x : RunEntry). if is_of t.worker (role x) then opened_by (role x) before else before) (seen_by before ++ turn.others) None entry
        ∙ ap (λ (b : Bool). if b then None else open_of role t.worker (seen_by before ++ turn.others)) (itself t.worker)

-- what ended since a worker looked, with one ending more
pub since_more : (w : ℕ) (start seen later : List RunEntry) (more : List Ending) → Begins start seen → endings_of w later ≡ endings_of w seen ++ more → endings_since w start later ≡ endings_since w start seen ++ more
since_more w start seen later more begins is =
    let old = endings_of w start in
    let new = endings_of w begins.0 in
    let front : endings_of w seen ≡ old ++ new = ap (endings_of w) begins.1 ∙ endings_append w start begins.0 in
    ap (drop (length old)) (is ∙ ap (λ es. es ++ more) front ∙ append_assoc old new more)
    ∙ drop-append_seam old (new ++ more)
    ∙ ap (λ es. es ++ more) (sym (ap (drop (length old)) front ∙ drop-append_seam old new))

-- ---- a module from its start

-- a module that ended behind turns in which the worker built it ended behind their beginning
pub ended_later : (t : ModuleTask) (lock : TableId) (e : Ending) (before mid pass : Told)
    → ((plan : Plan) (past rest : List RunEntry) (w number : ℕ) → IsRunOf plan (past ++ rest) → module_by plan past w ≡ Some number → module_by plan (past ++ rest) w ≡ Some number → endings_of w (past ++ rest) ≡ endings_of w past)
    → Follows before mid → IsOf t.plan lock t.worker mid → module_by t.plan (seen_by before) t.worker ≡ Some t.number → module_by t.plan (seen_by mid) t.worker ≡ Some t.number
    → HasEnded t lock e mid pass → HasEnded t lock e before pass
ended_later t lock e before mid pass law follows of old new ended = record {
  of = ended.of;
  follows = follows_all before mid pass follows ended.follows;
  ended =
      ended.ended
      ∙ ap (λ es. es ++ e ∷ []) (
      ap (endings_of t.worker) follows.log.1
      ∙ law t.plan (seen_by before) follows.log.0 t.worker t.number (subst (IsRunOf t.plan) follows.log.1 of.run) old (ap (λ log. module_by t.plan log t.worker) (sym follows.log.1) ∙ new)
      );
  idle = ended.idle;
}

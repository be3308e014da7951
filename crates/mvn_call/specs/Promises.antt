-- What `mvn` promises of a call: each clause as a word, and all of them as one record. Project rules.
use Rattle.std.specs.Prelude.{◌≡◌, ◌⊎◌, ◌<◌, ◌≤◌, ℕ, List, Option, Result, IfOk, IfSome}
use Rattle.mvn_shared.specs.Cause.{HasRisen}
use Rattle.mvn_shared.specs.declared.memory.OutOfMemory.{OutOfMemory}
use Rattle.mvn_outside.specs.Shelf.{IsSettled}
use Rattle.build_core.specs.declared.event.Answered.{Answered}
use Rattle.build_core.specs.declared.event.Event.{Event}
use Rattle.cli_words.specs.declared.command_line.CommandLine.{CommandLine}
use Rattle.build_outcome.specs.Left.{AreEmpty, TellAsBefore}
use Rattle.build_outcome.specs.Once.{PublishesOnce, StopsBetween}
use Rattle.build_outcome.specs.declared.outcome.Outcome.{Outcome}
use Rattle.call_plan.specs.Ending.{Ends, HasNone, IsFault, IsLow, IsWhole}
use Rattle.call_plan.specs.Headline.{IsCall, IsHistory, IsUnchanged, IsWanted, NoneFailed, OneFailed}
use Rattle.call_plan.specs.Seen.{After, IfAllTell, LeavesSo, Seen, used}
use Rattle.call_laws.specs.Numbered.{AreTheTraces}
use Rattle.call_laws.specs.Reruns.{IsCallAgain, LeavesBehind}

-- what a call answered and wrote: its status, the sink before and after, and how often that failed so far
pub record Written : Type 0 where
  pub status : ℕ
  pub before : Option (List ℕ)
  pub now : Option (List ℕ)
  pub faults : ℕ
  pub count : ℕ

-- by what the sink shows
abbrev pub written_by : {P : Type 0} → (P → Option (List ℕ)) → (P → ℕ) → (status : ℕ) → (before now : P) → Written
written_by written faults status before now = record { status = status; before = written before; now = written now; faults = faults before; count = faults now }

-- the words ask for this, unless memory ran out while they were read
abbrev pub Says : Result (Result CommandLine Outcome) OutOfMemory → Result CommandLine Outcome → Type 0
Says answer said = IfOk answer (λ a. a ≡ said)

-- An answer is written: a part from the front of its text, the whole below 3 and unless the sink failed or memory ran out. Nothing is written
-- where memory ran out before; at 3 the answer says so, or the sink failed.
pub record Writes (answer : Result Outcome OutOfMemory) (out : Written) : Type 0 where
  pub whole : IfOk answer (λ wanted. out.status < 3 → IsWhole wanted out.status out.before out.now)
  pub low : out.status < 3 → IsLow answer
  pub ends : IfOk answer (λ wanted. Ends wanted out.status out.before out.now out.faults out.count)
  pub none : HasNone answer out.status out.before out.now
  pub fault : out.status ≡ 3 → IsFault answer ⊎ HasRisen out.faults out.count
  pub quiet : out.status < 3 → out.count ≡ out.faults
  pub bound : out.status ≤ 4

-- ---- each clause

-- Below 3, where the tree and the repository tell, the areas that are used tell, and the remotes that are used tell the same files: the text,
-- the status and the repository's files are those of the build by one hand, of a plan of the files that they told, the machine and the answers
-- that are kept, whatever the number of hands and whichever was first.
abbrev pub BuildsAsOne : Result CommandLine Outcome → Seen → After → List Answered → Written → Type 0
BuildsAsOne asked seen after answers out = IfAllTell asked seen (λ files told there. out.status < 3 →
    LeavesSo told after.outside.shelf (IsCall asked files there seen.machine answers out.status out.before out.now))

-- Made again, below 3 and where they tell: over files that an earlier call or a stop in it left, the text, the status and the repository's files
-- are those of the call over the files at the start of that one, with the same answers of the goals, if each module that is built is known in
-- its project.
abbrev pub BuildsAgain : Result CommandLine Outcome → Seen → After → List Answered → Written → Type 0
BuildsAgain asked seen after answers out = IfAllTell asked seen (λ files told there. out.status < 3 →
    LeavesSo told after.outside.shelf (IsCallAgain asked files there seen.machine answers out.status out.before out.now))

-- What is written is a part from the front of the text that is wanted, the whole unless the sink failed or memory ran out. That text, unless
-- memory ran out before there was one, comes from the words, from a device that failed while planning, from what planning refused, or it is the
-- report of a run of the plan, or the line of an area.
abbrev pub WritesWanted : Result CommandLine Outcome → Seen → After → List Event → List Answered → Written → Type 0
WritesWanted asked seen after trace answers out = (wanted : Outcome) × IsWanted asked seen after trace answers wanted
    × Ends wanted out.status out.before out.now out.faults out.count

-- no area that was used has a piece left
abbrev pub AreasEmpty : Result CommandLine Outcome → After → Type 0
AreasEmpty asked after = AreEmpty (used asked after.outside).hands

-- no device failed, nor the sink; or one of them did
abbrev pub AllWorked : Result CommandLine Outcome → Seen → After → Written → Type 0
AllWorked asked seen after out = (out.count ≡ out.faults) × NoneFailed asked seen after

abbrev pub SomeBroke : Result CommandLine Outcome → Seen → After → Written → Type 0
SomeBroke asked seen after out = HasRisen out.faults out.count ⊎ OneFailed asked seen after

-- ---- all of them

pub record IsMvn (asked : Result CommandLine Outcome) (seen : Seen) (after : After) (trace : List Event) (answers : List Answered) (out : Written) : Type 0 where
  pub outcome : BuildsAsOne asked seen after answers out
  pub again : BuildsAgain asked seen after answers out
  pub remains : LeavesBehind asked seen after.outside.shelf answers
  pub history : IsHistory asked seen after trace answers
  pub kept : AreTheTraces trace answers
  pub causes : WritesWanted asked seen after trace answers out
  pub refused : out.status ≡ 2 → IsUnchanged seen after trace answers
  pub once : PublishesOnce seen.outside.shelf after.outside.shelf
  pub whole_files : StopsBetween seen.outside.shelf after.outside.shelf
  pub settled : out.status < 2 → IfSome after.outside.shelf IsSettled
  pub areas : out.status < 2 → AreasEmpty asked after
  pub quiet : out.status < 3 → AllWorked asked seen after out
  pub fault : out.status ≡ 3 → SomeBroke asked seen after out
  pub bound : out.status ≤ 4
  pub tells : TellAsBefore seen.outside.hands after.outside.hands

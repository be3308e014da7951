-- The program's own words for names on the way, and for a table of those that are finished.
use Rattle.std.specs.Prelude.{◌≡◌, ℕ, ◌+◌, ◌*◌, ◌<◌, zero, suc, true, false, List, [], ◌∷◌, ◌++◌, map, reverse, vec_len, Option, None, Some, option_to_list, Result, Ok, Err}
use Rattle.std.specs.HashMap.{get, hash_map_len}
use Rattle.std.specs.Option.{option_map_or}
use Rattle.std.specs.Str.{bytes_eq}
use Rattle.std.specs.Vec.Iter.{into_iter_items, into_iter_len}
use Rattle.mvn_base.specs.declared.machine.Pair.{Pair}
use Rattle.mvn_base.specs.declared.rule.Rule.{Rule}
use Rattle.interpolation.specs.declared.part.Part.{Part}
use Rattle.interpolation.specs.declared.part.Part.TheVariants.{Name}
use Rattle.interpolation.specs.Expressions.{last_named}
use Rattle.interpolation.specs.Parts.{parts, spelled}
use Rattle.interpolation.specs.KnownValues.{Filled, ◌>>=◌, again, filled, filled_from, is_on, limited, value}
use Rattle.interpolation.specs.declared.fault.FillFault.{FillFault}
use Rattle.interpolation.specs.declared.fault.FillFault.TheVariants.{Refused, Memory}
use Rattle.interpolation.specs.declared.step.Step.{Step}
use Rattle.interpolation.specs.declared.filler.Asked.{Asked}
use Rattle.interpolation.specs.declared.filler.Asked.TheVariants as asked
use Rattle.interpolation.specs.declared.filler.Filler.{Filler}
use Rattle.interpolation.specs.declared.filler.Stop.{Stop}
use Rattle.interpolation.specs.declared.filler.Stop.TheVariants as stop
use Rattle.interpolation.specs.declared.filler.Turn.{Turn}
use Rattle.interpolation.specs.declared.filler.Turn.TheVariants as turn
use Rattle.interpolation.specs.declared.filler.Whole.{Whole}
use Rattle.interpolation.specs.declared.filler.Whole.TheVariants as whole

-- a fault is the refusal that is said
abbrev pub Fails : {A : Type 0} → Filled A → FillFault → Type 0
Fails said (Refused rule place) = said ≡ Err (rule, place)
Fails said Memory = Unit {0}

-- what is said, and what a call answers, where it had memory
abbrev pub Tells : {A : Type 0} → Filled A → Result A FillFault → Type 0
Tells said (Ok x) = said ≡ Ok x
Tells said (Err fault) = Fails said fault

abbrev pub IsRefusal : Rule → List ℕ → FillFault → Type 0
IsRefusal rule place (Refused r p) = (r ≡ rule) × (p ≡ place)
IsRefusal rule place Memory = Unit {0}

abbrev pub rest_of : Step → List Part
rest_of step = into_iter_items step.rest

-- a name's text with one more part
abbrev pub Grows : Step → List ℕ → Result Step FillFault → Type 0
Grows step text (Ok new) = (new.name ≡ step.name) × (new.rest ≡ step.rest) × (limited step.name (step.done ++ text) ≡ Ok new.done)
Grows step text (Err (Refused rule place)) = limited step.name (step.done ++ text) ≡ Err (rule, place)
Grows step text (Err Memory) = Unit {0}

abbrev pub fresh_in : Filler → List ℕ → Option (List ℕ)
fresh_in filler name = get bytes_eq filler.fresh name

abbrev pub begun_in : Filler → List ℕ → Option (Option (List ℕ))
begun_in filler name = get bytes_eq filler.begun name

-- how many names haven't been begun
abbrev pub fresh_count : Filler → ℕ
fresh_count filler = hash_map_len filler.fresh

-- each name is begun once: how many are left to begin, and how many parts of a text
abbrev pub AskCounts : ℕ → ℕ → Result Asked FillFault → Type 0
AskCounts old new (Ok (asked.Value text)) = new ≡ old
AskCounts old new (Ok (asked.Begun step)) = new + 1 ≡ old
AskCounts old new (Err fault) = Unit {0}

abbrev pub StopCounts : ℕ → ℕ → Stop → Type 0
StopCounts old new (stop.Asks outer inner) = new + 1 ≡ old
StopCounts old new (stop.Ends step) = new ≡ old

abbrev pub TurnCounts : ℕ → ℕ → ℕ → Result Turn FillFault → Type 0
TurnCounts parts old new (Ok (turn.Goes next)) = (into_iter_len next.rest + 1 ≡ parts) × (new ≡ old)
TurnCounts parts old new (Ok (turn.Stops at)) = StopCounts old new at
TurnCounts parts old new (Err fault) = Unit {0}

abbrev pub WholeCounts : ℕ → ℕ → Result Whole FillFault → Type 0
WholeCounts old fresh (Ok (whole.Goes waiting step)) = 2 * fresh + vec_len waiting < old
WholeCounts old fresh (Ok (whole.Ends text)) = Unit {0}
WholeCounts old fresh (Err fault) = Unit {0}

abbrev pub names : List Step → List (List ℕ)
names waiting = map (λ (s : Step). s.name) waiting

module _ (known : List Pair) where
  -- the value at most this deep, whatever is on the way
  abbrev pub plain : ℕ → List ℕ → Filled (List ℕ)
  plain zero name = option_map_or (λ text. again name) (last_named known name) (Ok (spelled (Name name)))
  plain (suc n) name = option_map_or (filled name (plain n)) (last_named known name) (Ok (spelled (Name name)))

  -- one name's value wants another's, which is less deep
  abbrev pub Above : List ℕ → List ℕ → Type 0
  Above s name = (u : List ℕ) × (last_named known s ≡ Some u) × ((depth : ℕ) (text : List ℕ) → plain (suc depth) s ≡ Ok text → (inner : List ℕ) × (plain depth name ≡ Ok inner))

  -- the names on the way to another
  abbrev pub IsWay : List (List ℕ) → List ℕ → Type 0
  IsWay seen name = (s : List ℕ) → is_on s seen ≡ true → Above s name

  -- a name on its way: what came before gave what is done, and this part comes next
  pub record IsStep (seen : List (List ℕ)) (next : Option Part) (step : Step) : Type 0 where
    pub text : (u : List ℕ) × (before : List Part) × (last_named known step.name ≡ Some u) × (parts u ≡ before ++ (option_to_list next ++ rest_of step))
    pub off : is_on step.name seen ≡ false
    pub way : IsWay seen step.name
    pub comes : value known seen step.name ≡ filled_from step.name (value known (step.name ∷ seen)) step.done (option_to_list next ++ rest_of step)

  -- what a table has of a name: its value, that it is on the way, or its text
  abbrev pub Fits : List (List ℕ) → List ℕ → Option (Option (List ℕ)) → Option (List ℕ) → Type 0
  Fits seen name (Some (Some text)) text_of = (depth : ℕ) × (plain depth name ≡ Ok text)
  Fits seen name (Some None) text_of = is_on name seen ≡ true
  Fits seen name None text_of = (text_of ≡ last_named known name) × (is_on name seen ≡ false)

  unfoldable pub IsTable : List (List ℕ) → Filler → Type 0
  IsTable seen filler = (name : List ℕ) → Fits seen name (begun_in filler name) (fresh_in filler name)

  -- the names that wait for another's value, the innermost first; the last one is the whole's
  abbrev pub Waits : List Step → List ℕ → List ℕ → Type 0
  Waits [] name whole = name ≡ whole
  Waits (s ∷ waiting) name whole = IsStep (names waiting) (Some (Name name)) s × Waits waiting s.name whole

  -- a name is asked for: its value, or that it is begun
  abbrev pub Asks : List (List ℕ) → List ℕ → Filler → Result Asked FillFault → Type 0
  Asks seen name new (Ok (asked.Value text)) = (value known seen name ≡ Ok text) × IsTable seen new
  Asks seen name new (Ok (asked.Begun step)) = (step.name ≡ name) × IsStep seen None step × IsTable (step.name ∷ seen) new
  Asks seen name new (Err (Refused rule place)) = value known seen name ≡ Err (rule, place)
  Asks seen name new (Err Memory) = Unit {0}

  -- a name's text stops at one that is begun, or at its end
  abbrev pub StopsAt : List (List ℕ) → List ℕ → Filler → Stop → Type 0
  StopsAt seen name new (stop.Asks outer inner) = (outer.name ≡ name) × IsStep seen (Some (Name inner.name)) outer × IsStep (outer.name ∷ seen) None inner × IsTable (inner.name ∷ outer.name ∷ seen) new
  StopsAt seen name new (stop.Ends step) = (step.name ≡ name) × (value known seen name ≡ Ok step.done) × IsTable (step.name ∷ seen) new

  abbrev pub Stops : List (List ℕ) → List ℕ → Filler → Result Stop FillFault → Type 0
  Stops seen name new (Ok at) = StopsAt seen name new at
  Stops seen name new (Err (Refused rule place)) = value known seen name ≡ Err (rule, place)
  Stops seen name new (Err Memory) = Unit {0}

  -- one part of a name's text
  abbrev pub Turns : List (List ℕ) → Step → Filler → Result Turn FillFault → Type 0
  Turns seen step new (Ok (turn.Goes next)) = (next.name ≡ step.name) × IsStep seen None next × IsTable (next.name ∷ seen) new
  Turns seen step new (Ok (turn.Stops at)) = StopsAt seen step.name new at
  Turns seen step new (Err (Refused rule place)) = value known seen step.name ≡ Err (rule, place)
  Turns seen step new (Err Memory) = Unit {0}

  -- a whole name's value, which is on the way or there
  abbrev pub Goes : List ℕ → Filler → List Step → Step → Type 0
  Goes whole new waiting step = IsStep (names waiting) None step × Waits waiting step.name whole × IsTable (step.name ∷ names waiting) new

  abbrev pub Ends : List ℕ → Filler → Result Whole FillFault → Type 0
  Ends name new (Ok (whole.Goes waiting step)) = Goes name new (reverse waiting.items) step
  Ends name new (Ok (whole.Ends text)) = (value known [] name ≡ Ok text) × IsTable [] new
  Ends name new (Err (Refused rule place)) = value known [] name ≡ Err (rule, place)
  Ends name new (Err Memory) = Unit {0}

  -- what is said, and what a call gives that keeps a table
  abbrev pub Gives : {A : Type 0} → Filled A → Filler → Result A FillFault → Type 0
  Gives said new (Ok x) = (said ≡ Ok x) × IsTable [] new
  Gives said new (Err fault) = Fails said fault

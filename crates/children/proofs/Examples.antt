-- A worked example: a child that writes `answer` and ends with 7 is given `ask`, its input is closed, and four bytes are read.
use Rattle.std.proofs.Common.{◌≡◌, pos, List, [], ◌∷◌, codes, Option, Some, refl, true}
use Rattle.std.specs.Option.{option_map}
use Rattle.children.specs.declared.spawner.ChildRecord.{ChildRecord}
use Rattle.children.specs.Children.{fresh_child, given_more, input_closed, read_on, unread, changed, record_of}

-- what is told once it was started, and after the three calls
abbrev started : Option (List ChildRecord)
started = Some (fresh_child (codes "answer") (pos 7) ∷ [])

abbrev asked : Option (List ChildRecord)
asked = changed (read_on 4) 0 (changed input_closed 0 (changed (given_more (codes "ask")) 0 started))

told : asked ≡ Some ((record { given = codes "ask"; closed = true; output = codes "answer"; taken = 4; status = pos 7 }) ∷ [])
told = refl

-- two bytes are left
left : option_map unread (record_of 0 asked) ≡ Some (codes "er")
left = refl

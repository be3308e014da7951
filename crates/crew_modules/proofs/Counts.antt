-- What a hand is left as by a module, stage by stage.
use Rattle.std.proofs.Common.{◌≡◌, ℕ, Bool, true, false, [], ◌∷◌, length, Option, None, Some, is_some, refl, arith, sym, ap, subst, ◌∙◌, if◌then◌else◌}
use Rattle.std.proofs.lemmas.Bool.{false≢true}
use Rattle.mvn_shared.specs.Cause.{HasCause}
use Rattle.mvn_shared.specs.Files.{Files}
use Rattle.mvn_outside.specs.Pieces.{Contents, Pieces}
use Rattle.mvn_outside.specs.declared.hand.Hand.{Hand}
use Rattle.build_core.specs.declared.ending.Device.{Device}
use Rattle.build_core.specs.declared.ending.Device.TheVariants as device
use Rattle.build_core.specs.declared.ending.Ending.{Ending}
use Rattle.build_core.specs.declared.ending.Ending.TheVariants as ending
use Rattle.scripts.proofs.Climbs.{both}
use Rattle.crew_turns.specs.Endings.{faults_of, is_fault_of, is_gather_end, is_goal_end, is_install_end, is_quiet_end}
use Rattle.crew_turns.specs.Hands.{HandState, IsAreaLeft, IsCounted, IsFetchedBy, IsWorked, Test, state_by}
use Rattle.crew_turns.specs.Ends.{ends_as}

-- ---- one device

-- a count that rose by a fault, or stands, rose by the endings that blame its device
counted : (d : Device) (e : Ending) (before now : ℕ) (failed : Bool) → is_fault_of d e ≡ failed → HasCause before now failed → IsCounted (faults_of d (e ∷ [])) before now
counted d e before now true is risen =
    subst (λ n. IsCounted n before now) (sym (ap (λ b. length (if b then e ∷ [] else [])) is))
    (record { rose = record { no_fall = risen.no_fall; rise = risen.rise }; still = λ none. absurd (omega (arith, none)) })
counted d e before now false is same =
    subst (λ n. IsCounted n before now) (sym (ap (λ b. length (if b then e ∷ [] else [])) is))
    (record { rose = record { no_fall = omega (arith, same); rise = omega (arith, same) }; still = λ none. same })

-- ---- how an ending is settled

-- whether the repository failed is nothing to the other devices
abbrev IsHands : Device → Type 0
IsHands d = is_fault_of d (ending.Fault device.Shelf) ≡ false

same_blame : (d : Device) → IsHands d → (e : Ending) (marked : Bool) → is_fault_of d (ends_as e marked) ≡ is_fault_of d e
same_blame device.Shelf own e marked = absurd (false≢true (sym own))
same_blame device.Remote own ending.Built true = refl
same_blame device.Remote own (ending.Missing f) true = refl
same_blame device.Remote own ending.ClasspathTooLarge true = refl
same_blame device.Remote own (ending.Goal i) true = refl
same_blame device.Remote own (ending.OutputTooLarge i) true = refl
same_blame device.Remote own ending.NoArtifact true = refl
same_blame device.Remote own (ending.Fault d) true = refl
same_blame device.Remote own ending.Memory true = refl
same_blame device.Remote own ending.Built false = refl
same_blame device.Remote own (ending.Missing f) false = refl
same_blame device.Remote own ending.ClasspathTooLarge false = refl
same_blame device.Remote own (ending.Goal i) false = refl
same_blame device.Remote own (ending.OutputTooLarge i) false = refl
same_blame device.Remote own ending.NoArtifact false = refl
same_blame device.Remote own (ending.Fault device.Remote) false = refl
same_blame device.Remote own (ending.Fault device.Area) false = refl
same_blame device.Remote own (ending.Fault device.Shelf) false = refl
same_blame device.Remote own (ending.Fault device.Gate) false = refl
same_blame device.Remote own ending.Memory false = refl
same_blame device.Area own ending.Built true = refl
same_blame device.Area own (ending.Missing f) true = refl
same_blame device.Area own ending.ClasspathTooLarge true = refl
same_blame device.Area own (ending.Goal i) true = refl
same_blame device.Area own (ending.OutputTooLarge i) true = refl
same_blame device.Area own ending.NoArtifact true = refl
same_blame device.Area own (ending.Fault d) true = refl
same_blame device.Area own ending.Memory true = refl
same_blame device.Area own ending.Built false = refl
same_blame device.Area own (ending.Missing f) false = refl
same_blame device.Area own ending.ClasspathTooLarge false = refl
same_blame device.Area own (ending.Goal i) false = refl
same_blame device.Area own (ending.OutputTooLarge i) false = refl
same_blame device.Area own ending.NoArtifact false = refl
same_blame device.Area own (ending.Fault device.Remote) false = refl
same_blame device.Area own (ending.Fault device.Area) false = refl
same_blame device.Area own (ending.Fault device.Shelf) false = refl
same_blame device.Area own (ending.Fault device.Gate) false = refl
same_blame device.Area own ending.Memory false = refl
same_blame device.Gate own ending.Built true = refl
same_blame device.Gate own (ending.Missing f) true = refl
same_blame device.Gate own ending.ClasspathTooLarge true = refl
same_blame device.Gate own (ending.Goal i) true = refl
same_blame device.Gate own (ending.OutputTooLarge i) true = refl
same_blame device.Gate own ending.NoArtifact true = refl
same_blame device.Gate own (ending.Fault d) true = refl
same_blame device.Gate own ending.Memory true = refl
same_blame device.Gate own ending.Built false = refl
same_blame device.Gate own (ending.Missing f) false = refl
same_blame device.Gate own ending.ClasspathTooLarge false = refl
same_blame device.Gate own (ending.Goal i) false = refl
same_blame device.Gate own (ending.OutputTooLarge i) false = refl
same_blame device.Gate own ending.NoArtifact false = refl
same_blame device.Gate own (ending.Fault device.Remote) false = refl
same_blame device.Gate own (ending.Fault device.Area) false = refl
same_blame device.Gate own (ending.Fault device.Shelf) false = refl
same_blame device.Gate own (ending.Fault device.Gate) false = refl
same_blame device.Gate own ending.Memory false = refl

-- an ending that is settled as a quiet one is it
quiet_before : (e : Ending) (marked : Bool) → is_quiet_end (ends_as e marked) ≡ true → is_quiet_end e ≡ true
quiet_before ending.Built true is = refl
quiet_before (ending.Missing f) true is = refl
quiet_before ending.ClasspathTooLarge true is = refl
quiet_before (ending.Goal i) true is = refl
quiet_before (ending.OutputTooLarge i) true is = refl
quiet_before ending.NoArtifact true is = refl
quiet_before (ending.Fault d) true is = absurd (false≢true is)
quiet_before ending.Memory true is = absurd (false≢true is)
quiet_before ending.Built false is = refl
quiet_before (ending.Missing f) false is = refl
quiet_before ending.ClasspathTooLarge false is = refl
quiet_before (ending.Goal i) false is = refl
quiet_before (ending.OutputTooLarge i) false is = refl
quiet_before ending.NoArtifact false is = refl
quiet_before (ending.Fault device.Remote) false is = absurd (false≢true is)
quiet_before (ending.Fault device.Area) false is = absurd (false≢true is)
quiet_before (ending.Fault device.Shelf) false is = absurd (false≢true is)
quiet_before (ending.Fault device.Gate) false is = absurd (false≢true is)
quiet_before ending.Memory false is = absurd (false≢true is)

-- ---- a hand

-- a module ended so, and each device failed where that says so
left_by : (before now : HandState) (e : Ending) → now.told ≡ before.told
    → HasCause before.remote now.remote (is_fault_of device.Remote e) → HasCause before.area now.area (is_fault_of device.Area e) → HasCause before.gate now.gate (is_fault_of device.Gate e)
    → (is_quiet_end e ≡ true → now.pieces ≡ before.pieces) → IsWorked before now (e ∷ [])
left_by before now e told remote area gate pieces = record {
  told = told;
  remote = counted device.Remote e before.remote now.remote (is_fault_of device.Remote e) refl remote;
  area = counted device.Area e before.area now.area (is_fault_of device.Area e) refl area;
  gate = counted device.Gate e before.gate now.gate (is_fault_of device.Gate e) refl gate;
  pieces = λ quiet. pieces (both (is_quiet_end e) true quiet).0;
}

-- and as it was settled
left_as : (before now : HandState) (e result : Ending) (marked : Bool) → result ≡ ends_as e marked → now.told ≡ before.told
    → HasCause before.remote now.remote (is_fault_of device.Remote e) → HasCause before.area now.area (is_fault_of device.Area e) → HasCause before.gate now.gate (is_fault_of device.Gate e)
    → (is_quiet_end e ≡ true → now.pieces ≡ before.pieces) → IsWorked before now (result ∷ [])
left_as before now e result marked is told remote area gate pieces =
    subst (λ x. IsWorked before now (x ∷ [])) (sym is)
    (left_by before now (ends_as e marked) told
    (subst (HasCause before.remote now.remote) (sym (same_blame device.Remote refl e marked)) remote)
    (subst (HasCause before.area now.area) (sym (same_blame device.Area refl e marked)) area)
    (subst (HasCause before.gate now.gate) (sym (same_blame device.Gate refl e marked)) gate)
    (λ quiet. pieces (quiet_before e marked quiet)))

-- an ending that no device of this kind is blamed by
no_blame : (d : Device) (e : Ending) (n : ℕ) → is_fault_of d e ≡ false → HasCause n n (is_fault_of d e)
no_blame d e n none = subst (HasCause n n) (sym none) refl

-- the hand isn't used where a module stops while its classpath is gathered
gather_blames : (d : Device) → IsHands d → (e : Ending) → is_gather_end e ≡ true → is_fault_of d e ≡ false
gather_blames d own (ending.Fault device.Shelf) is = own
gather_blames d own (ending.Fault device.Remote) is = absurd (false≢true is)
gather_blames d own (ending.Fault device.Area) is = absurd (false≢true is)
gather_blames d own (ending.Fault device.Gate) is = absurd (false≢true is)
gather_blames device.Remote own ending.ClasspathTooLarge is = refl
gather_blames device.Area own ending.ClasspathTooLarge is = refl
gather_blames device.Gate own ending.ClasspathTooLarge is = refl
gather_blames device.Shelf own ending.ClasspathTooLarge is = refl
gather_blames device.Remote own ending.Memory is = refl
gather_blames device.Area own ending.Memory is = refl
gather_blames device.Gate own ending.Memory is = refl
gather_blames device.Shelf own ending.Memory is = refl
gather_blames d own ending.Built is = absurd (false≢true is)
gather_blames d own (ending.Missing f) is = absurd (false≢true is)
gather_blames d own (ending.Goal i) is = absurd (false≢true is)
gather_blames d own (ending.OutputTooLarge i) is = absurd (false≢true is)
gather_blames d own ending.NoArtifact is = absurd (false≢true is)

pub not_gathered : (hand : HandState) (e result : Ending) (marked : Bool) → result ≡ ends_as e marked → is_gather_end e ≡ true → IsWorked hand hand (result ∷ [])
not_gathered hand e result marked is end =
    left_as hand hand e result marked is refl
    (no_blame device.Remote e hand.remote (gather_blames device.Remote refl e end))
    (no_blame device.Area e hand.area (gather_blames device.Area refl e end))
    (no_blame device.Gate e hand.gate (gather_blames device.Gate refl e end))
    (λ quiet. refl)

-- a goal's end blames the gate alone
goal_blames : (e : Ending) → is_goal_end e ≡ true → (is_fault_of device.Remote e ≡ false) × (is_fault_of device.Area e ≡ false)
goal_blames (ending.Goal i) is = (refl, refl)
goal_blames (ending.OutputTooLarge i) is = (refl, refl)
goal_blames (ending.Fault device.Gate) is = (refl, refl)
goal_blames (ending.Fault device.Remote) is = absurd (false≢true is)
goal_blames (ending.Fault device.Area) is = absurd (false≢true is)
goal_blames (ending.Fault device.Shelf) is = absurd (false≢true is)
goal_blames ending.Memory is = (refl, refl)
goal_blames ending.Built is = absurd (false≢true is)
goal_blames (ending.Missing f) is = absurd (false≢true is)
goal_blames ending.ClasspathTooLarge is = absurd (false≢true is)
goal_blames ending.NoArtifact is = absurd (false≢true is)

-- and that of an installed module the area
install_blames : (e : Ending) → is_install_end e ≡ true → (is_fault_of device.Remote e ≡ false) × (is_fault_of device.Gate e ≡ false)
install_blames ending.Built is = (refl, refl)
install_blames ending.NoArtifact is = (refl, refl)
install_blames (ending.Fault device.Area) is = (refl, refl)
install_blames (ending.Fault device.Shelf) is = (refl, refl)
install_blames (ending.Fault device.Remote) is = absurd (false≢true is)
install_blames (ending.Fault device.Gate) is = absurd (false≢true is)
install_blames ending.Memory is = (refl, refl)
install_blames (ending.Missing f) is = absurd (false≢true is)
install_blames ending.ClasspathTooLarge is = absurd (false≢true is)
install_blames (ending.Goal i) is = absurd (false≢true is)
install_blames (ending.OutputTooLarge i) is = absurd (false≢true is)

module _ {R A G : Type 0} (files : R → Option Files) (remote_faults : R → ℕ) (contents : A → Option Contents) (area_faults : A → ℕ) (pieces : A → Pieces) (answers : G → Option Test) (gate_faults : G → ℕ) where
  abbrev state : Hand R A G → HandState
  state hand = state_by files remote_faults contents area_faults pieces answers gate_faults hand

  -- a stage that stops while files are fetched
  pub not_ready : (before now : Hand R A G) (e result : Ending) (marked : Bool) → result ≡ ends_as e marked → now.gate ≡ before.gate → is_fault_of device.Gate e ≡ false
      → IsFetchedBy files remote_faults contents area_faults pieces before.remote now.remote before.area now.area (Some e) → IsWorked (state before) (state now) (result ∷ [])
  not_ready before now e result marked is gate none left =
      left_as (state before) (state now) e result marked is
      (ap (λ f. record { remote = f; area = is_some (contents now.area); gate = answers now.gate }) left.told
      ∙ ap (λ b. record { remote = files before.remote; area = b; gate = answers now.gate }) left.area_left.tells
      ∙ ap (λ g. record { remote = files before.remote; area = is_some (contents before.area); gate = answers g }) gate)
      left.cause left.area_left.cause (subst (HasCause (gate_faults before.gate) (gate_faults now.gate)) (sym none) (ap gate_faults gate)) left.area_left.same

  -- one that doesn't
  pub ready : (before now : Hand R A G) → now.gate ≡ before.gate → IsFetchedBy files remote_faults contents area_faults pieces before.remote now.remote before.area now.area None → state now ≡ state before
  ready before now gate left =
      ap (λ f. record { told = record { remote = f; area = is_some (contents now.area); gate = answers now.gate }; remote = remote_faults now.remote; area = area_faults now.area; gate = gate_faults now.gate; pieces = pieces now.area }) left.told
      ∙ ap (λ b. record { told = record { remote = files before.remote; area = b; gate = answers now.gate }; remote = remote_faults now.remote; area = area_faults now.area; gate = gate_faults now.gate; pieces = pieces now.area }) left.area_left.tells
      ∙ ap (λ g. record { told = record { remote = files before.remote; area = is_some (contents before.area); gate = answers g }; remote = remote_faults now.remote; area = area_faults now.area; gate = gate_faults g; pieces = pieces now.area }) gate
      ∙ ap (λ n. record { told = (state before).told; remote = n; area = area_faults now.area; gate = gate_faults before.gate; pieces = pieces now.area }) left.cause
      ∙ ap (λ n. record { told = (state before).told; remote = remote_faults before.remote; area = n; gate = gate_faults before.gate; pieces = pieces now.area }) left.area_left.cause
      ∙ ap (λ p. record { told = (state before).told; remote = remote_faults before.remote; area = area_faults before.area; gate = gate_faults before.gate; pieces = p }) (left.area_left.same refl)

  -- goals that stop a module
  pub not_answered : (before now : Hand R A G) (e result : Ending) (marked : Bool) → result ≡ ends_as e marked → now.remote ≡ before.remote → now.area ≡ before.area
      → answers now.gate ≡ answers before.gate → HasCause (gate_faults before.gate) (gate_faults now.gate) (is_fault_of device.Gate e) → is_goal_end e ≡ true → IsWorked (state before) (state now) (result ∷ [])
  not_answered before now e result marked is remote area tests cause end =
      let none = goal_blames e end in
      left_as (state before) (state now) e result marked is
      (ap (λ r. record { remote = files r; area = is_some (contents now.area); gate = answers now.gate }) remote
      ∙ ap (λ a. record { remote = files before.remote; area = is_some (contents a); gate = answers now.gate }) area
      ∙ ap (λ g. record { remote = files before.remote; area = is_some (contents before.area); gate = g }) tests)
      (subst (HasCause (remote_faults before.remote) (remote_faults now.remote)) (sym none.0) (ap remote_faults remote))
      (subst (HasCause (area_faults before.area) (area_faults now.area)) (sym none.1) (ap area_faults area))
      cause (λ quiet. ap pieces area)

  -- goals that don't, and the installing
  pub installed : (before now : Hand R A G) (result : Ending) → now.remote ≡ before.remote
      → answers now.gate ≡ answers before.gate → gate_faults now.gate ≡ gate_faults before.gate
      → IsAreaLeft contents area_faults pieces before.area now.area (Some result) → is_install_end result ≡ true → IsWorked (state before) (state now) (result ∷ [])
  installed before now result remote tests same left end =
      let none = install_blames result end in
      left_by (state before) (state now) result
      (ap (λ r. record { remote = files r; area = is_some (contents now.area); gate = answers now.gate }) remote
      ∙ ap (λ b. record { remote = files before.remote; area = b; gate = answers now.gate }) left.tells
      ∙ ap (λ g. record { remote = files before.remote; area = is_some (contents before.area); gate = g }) tests)
      (subst (HasCause (remote_faults before.remote) (remote_faults now.remote)) (sym none.0) (ap remote_faults remote))
      left.cause
      (subst (HasCause (gate_faults before.gate) (gate_faults now.gate)) (sym none.1) same) left.same

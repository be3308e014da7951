-- How a worker's module ends. Project rule.
use Rattle.std.specs.Prelude.{Bool, if◌then◌else◌}
use Rattle.build_core.specs.declared.ending.Device.TheVariants as device
use Rattle.build_core.specs.declared.ending.Ending.{Ending}
use Rattle.build_core.specs.declared.ending.Ending.TheVariants as ending

-- where the repository failed in the module, it ends by that, unless it ends by a fault or for want of memory anyway
abbrev pub marked_end : Ending → Ending
marked_end (ending.Fault d) = ending.Fault d
marked_end ending.Memory = ending.Memory
marked_end other = ending.Fault device.Shelf

-- where it didn't, the repository isn't blamed: the module ends for want of memory
abbrev pub unmarked_end : Ending → Ending
unmarked_end (ending.Fault device.Shelf) = ending.Memory
unmarked_end other = other

abbrev pub ends_as : Ending → (marked : Bool) → Ending
ends_as e marked = if marked then marked_end e else unmarked_end e

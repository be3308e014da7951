-- Which device failed first. Project rule.
use Rattle.std.specs.Prelude.{Bool, true, false, Option, None, Some}
use Rattle.model_resolver.specs.declared.failures.PomDevice.{PomDevice}

-- after a failure of a device
abbrev pub first_noted : PomDevice → Option PomDevice → Option PomDevice
first_noted device None = Some device
first_noted device (Some first) = Some first

-- after a call that asked it, by whether the call failed
abbrev pub first_after : PomDevice → Bool → Option PomDevice → Option PomDevice
first_after device false first = first
first_after device true first = first_noted device first

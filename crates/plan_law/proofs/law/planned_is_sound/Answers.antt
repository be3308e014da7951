use Rattle.plan_law.proofs.Whole.{events_numbered, is_numbered, is_there_at, sound_numbered}
use Rattle.plan_law.proofs.law.planned_is_sound.Goals as goal

pub returns : goal.returns
returns c = record { numbered = is_numbered; sound = sound_numbered; present = is_there_at; events = events_numbered }

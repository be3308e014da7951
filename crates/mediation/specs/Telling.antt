-- What look-ups tell, call after call. Project rule.

-- from the first to the last by calls, each of which tells the same
pub data TellsOn {L : Type 0} (same : L → L → Type 0) : L → L → Type 0 where
  here : (lookup : L) → TellsOn same lookup lookup
  onward : (first next last : L) → same first next → TellsOn same next last → TellsOn same first last

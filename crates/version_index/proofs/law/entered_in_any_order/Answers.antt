use Rattle.version_index.proofs.Entered.{entered_is, entered_read, entered_swap, listed_again, listed_ascends}
use Rattle.version_index.proofs.law.entered_in_any_order.Goals as goal

pub returns : goal.returns
returns c = record { listed = listed_ascends; again = listed_again; text = entered_is; read = entered_read; order = entered_swap }

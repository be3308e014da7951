use Rattle.std.proofs.Common.{◌≡◌, ℕ, List, Option, IfOk, subst}
use Rattle.goal_program.proofs.Replies.{reply_is}
use Rattle.goal_program.proofs.answering.reply_to.Goals as goal

pub returns : goal.returns
returns c =
    subst (λ (told : Option (List ℕ)). IfOk c.reply_of.result (λ reply. reply ≡ told))
    (reply_is c.args.bytes.now c.in_ok-found.found c.in_ok-found.ensures.text c.in_ok-found.ensures.no_text) c.reply_of.ensures

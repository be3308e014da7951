use Rattle.std.proofs.Common.{◌+◌, ◌*◌, Some, reverse, vec_len, ap, subst, ◌∙◌, if◌then◌else◌}
use Rattle.std.specs.HashMap.{get, hash_map_len}
use Rattle.std.specs.Str.{bytes_eq}
use Rattle.interpolation.specs.Tables.{WholeCounts, begun_in, fresh_count, names}
use Rattle.interpolation.proofs.Steps.{is_there, last_first, table_ended}
use Rattle.interpolation.proofs.filler.Filler.end.Goals as goal

pub returns-in-None-clause-says : goal.returns-in-None-clause-says
returns-in-None-clause-says c = λ known whole has waits table.
    let step = c.args.step in
    let waiting = reverse c.args.waiting.items in
    let settled = table_ended known (names waiting) c.args.self.now c.set.new.self step.name step.done table has
    (λ q. c.in_ok-set.ensures.begun q ∙ ap (λ v. if bytes_eq step.name q then Some (Some v) else begun_in c.args.self.now q) c.in_ok-value.ensures)
    (λ q. ap (λ f. get bytes_eq f q) c.in_ok-set.ensures.fresh) in
    is_there known step.name step.done whole waiting c.set.new.self (ap reverse c.in-None.ensures.items) has waits settled

pub returns-clause-says : goal.returns-clause-says
returns-clause-says c = λ known whole has waits table.
    let step = c.args.step in
    let waiting = reverse c.args.waiting.items in
    let settled = table_ended known (names waiting) c.args.self.now c.set.new.self step.name step.done table has
    (λ q. c.in_ok-set.ensures.begun q ∙ ap (λ v. if bytes_eq step.name q then Some (Some v) else begun_in c.args.self.now q) c.in_ok-value.ensures)
    (λ q. ap (λ f. get bytes_eq f q) c.in_ok-set.ensures.fresh) in
    c.resumed.ensures.says known step.name whole waiting c.set.new.self (last_first c.args.waiting.items c.in-Some.rest.items c.in-Some.outer c.in-Some.ensures.items) has waits settled

pub returns-clause-count : goal.returns-clause-count
returns-clause-count c =
    let fresh = fresh_count c.set.new.self in
    subst (λ f. WholeCounts (2 * f + vec_len c.args.waiting) fresh c.resumed.result) (ap hash_map_len c.in_ok-set.ensures.fresh)
    (subst (λ n. WholeCounts (2 * fresh + n) fresh c.resumed.result) c.in-Some.ensures.count (c.resumed.ensures.count fresh))

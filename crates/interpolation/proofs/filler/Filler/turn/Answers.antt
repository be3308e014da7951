use Rattle.std.proofs.Common.{◌∷◌, Some, refl, ap, subst, ◌∙◌}
use Rattle.std.specs.Vec.Iter.{into_iter_items}
use Rattle.interpolation.specs.declared.part.Part.TheVariants.{Plain}
use Rattle.interpolation.specs.Tables.{TurnCounts, fresh_count}
use Rattle.interpolation.specs.declared.step.Step.{Step}
use Rattle.interpolation.proofs.Steps.{taken}
use Rattle.interpolation.proofs.filler.Filler.turn.Goals as goal

pub returns-in-Some-Plain-clause-says : goal.returns-in-Some-Plain-clause-says
returns-in-Some-Plain-clause-says c = λ known seen table is.
    let next : Step = record { name = c.args.step.name; rest = c.next-next.new.self; done = c.args.step.done } in
    c.grown.ensures.says known seen (Plain c.in-Some-Plain.text) c.args.self.now table
    (taken known seen (Some (Plain c.in-Some-Plain.text)) c.args.step next is refl refl (c.in-Some-Plain.ensures.items ∙ ap (λ p. p ∷ into_iter_items c.next-next.new.self) c.in-Some-Plain.field-0-is))
    refl

pub returns-in-Some-Plain-clause-count : goal.returns-in-Some-Plain-clause-count
returns-in-Some-Plain-clause-count c = subst (λ n. TurnCounts n (fresh_count c.args.self.now) (fresh_count c.args.self.now) c.grown.result) c.in-Some-Plain.ensures.len (c.grown.ensures.count (fresh_count c.args.self.now))

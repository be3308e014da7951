use Rattle.std.proofs.Common.{length, ◌-◌, sym, ap, ◌∙◌}
use Rattle.std.specs.List.{slice_get}
use Rattle.versions.specs.Cuts.{cut_token}
use Rattle.versions.proofs.Ends.{end_goes, end_stays}
use Rattle.versions.proofs.version.strip.Goals as goal

pub loop-last-preserved : goal.loop-last-preserved
loop-last-preserved c = end_goes (cut_token c.args.text.now) c.loop-last.cuts.items c.pop.new.self.items c.pop.result c.in-Some.last.now c.pop.ensures.items (c.in-Some.ensures.value ∙ ap (λ xs. slice_get xs (length xs - 1)) c.deref.ensures.value) (sym c.is_null.ensures ∙ c.if-not-is_null.false) ∙ c.loop-last.invariant

pub returns-then-not-is_null : goal.returns-then-not-is_null
returns-then-not-is_null c = end_stays (cut_token c.args.text.now) c.loop-last.cuts.items c.in-Some.last.now (c.in-Some.ensures.value ∙ ap (λ xs. slice_get xs (length xs - 1)) c.deref.ensures.value) (sym c.is_null.ensures ∙ c.if-not-is_null.true) ∙ c.loop-last.invariant

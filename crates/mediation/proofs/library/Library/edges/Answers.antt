use Rattle.std.proofs.Common.{rules, ◌≡◌, [], is_some, IfOk, false, sym, ap, subst, ◌∙◌}
use Rattle.std.specs.List.{list_any}
use Rattle.managed_deps.specs.Managed.{find_pair}
use Rattle.collector.specs.Edges.{transitive_edges}
use Rattle.mediation.proofs.Unmanaged.{all_plain}
use Rattle.mediation.proofs.library.Library.edges.Goals as goal

pub returns : goal.returns
returns c =
    let at : c.as_slice.result.now ≡ c.self.inside.edges = c.as_slice.ensures ∙ c.deref.ensures in
    let free : list_any (λ e. is_some (find_pair c.args.managed.now e.key)) c.self.inside.edges ≡ false =
    sym (ap (list_any (λ e. is_some (find_pair c.args.managed.now e.key))) at) ∙ sym c.is_managed.ensures ∙ c.if-is_managed.false in
    let cut : c.args.cut.now ≡ [] = search rules in
    subst (λ m. IfOk c.share.result (λ list. list ≡ transitive_edges m.base.dependencies c.args.managed.now c.args.cut.now)) c.self.view_is
    (subst (λ t. IfOk c.share.result (λ list. list ≡ t))
    (all_plain c.args.managed.now c.self.inside.model.base.dependencies c.args.cut.now c.self.inside.edges c.self.invariant.0 cut free) c.share.ensures)

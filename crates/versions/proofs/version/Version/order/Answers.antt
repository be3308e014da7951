use Rattle.std.proofs.Common.{◌≡◌, map, ap, ◌∙◌}
use Rattle.std.specs.Cmp.Lexicographic.{slice_cmp}
use Rattle.versions.specs.Order.{ended, token_cmp, version_cmp}
use Rattle.versions.specs.Cuts.{cut_token}
use Rattle.versions.proofs.Equals.{equal_exactly}
use Rattle.versions.proofs.version.Version.order.Goals as goal

pub returns : goal.returns
unfolding version_cmp
returns c =
    let mine : map (cut_token c.deref.result.now) c.deref-2.result.now ≡ ended c.args.self.now =
    (λ i. map (cut_token (c.deref.ensures.value i)) (c.deref-2.ensures.value i)) ∙ c.self.invariant ∙ ap ended c.self.view_is in
    let theirs : map (cut_token c.deref-3.result.now) c.deref-4.result.now ≡ ended c.args.other.now =
    (λ i. map (cut_token (c.deref-3.ensures.value i)) (c.deref-4.ensures.value i)) ∙ c.other.invariant ∙ ap ended c.other.view_is in
    let is : c.order_cuts.result ≡ slice_cmp token_cmp (ended c.args.self.now) (ended c.args.other.now) = c.order_cuts.ensures ∙ (λ i. slice_cmp token_cmp (mine i) (theirs i)) in
    record { value = is; equal = rw is (equal_exactly c.args.self.now c.args.other.now) }

use Rattle.std.proofs.Common.{◌≡◌, ℕ, ◌+◌, ◌++◌, List, [], ◌∷◌, Option, Some, None, take, sym, ap, ◌∙◌}
use Rattle.std.specs.List.{filter_map}
use Rattle.std.proofs.lemmas.List.{take_more, append-nil}
use Rattle.std.proofs.lemmas.List.Elements.{filter_map-append}
use Rattle.mvn_base.specs.FileName.{version_in}
use Rattle.mvn_outside.proofs.versions.versions_among.Goals as goal
use Rattle.mvn_outside.proofs.versions.versions_among.Goals.{in-Some+in_ok-push, in_default}

pub loop-name-preserved : goal.loop-name-preserved
loop-name-preserved c =
    let f = version_in c.args.group.now c.args.artifact.now in
    let done = take c.loop-name.name-index c.args.names.now in
    let name = c.name-item.result in
    let more : take (c.loop-name.name-index + 1) c.args.names.now ≡ done ++ name ∷ [] =
    take_more c.args.names.now c.loop-name.name-index name c.loop-name-test.true ∙ ap (λ x. done ++ x ∷ []) (sym c.name-item.is) in
    let both : filter_map f done ++ filter_map f (name ∷ []) ≡ filter_map f (take (c.loop-name.name-index + 1) c.args.names.now) =
    sym (ap (filter_map f) more ∙ filter_map-append f done (name ∷ [])) in
    let keeps : (o : Option (List ℕ)) → c.in_ok-version.field-0 ≡ o → filter_map f done ++ filter_map (λ (_ : List ℕ). o) (name ∷ []) ≡ filter_map f (take (c.loop-name.name-index + 1) c.args.names.now) =
    λ o same. ap (λ (p : Option (List ℕ)). filter_map f done ++ filter_map (λ (_ : List ℕ). p) (name ∷ [])) (sym same ∙ c.in_ok-version.ensures) ∙ both in
    elim c.match-branch-2.branch [
      | in-Some+in_ok-push w ↦ ap (λ v. v.items) w.versions-is ∙ w.in_ok-push.ensures.items ∙ ap (λ v. v ++ w.in-Some.version ∷ []) c.loop-name.invariant ∙ keeps (Some w.in-Some.version) w.in-Some.is
      | in_default w ↦ ap (λ v. v.items) w.versions-is ∙ c.loop-name.invariant ∙ sym (append-nil (filter_map f done)) ∙ keeps None w.in_default.is
    ]

use Rattle.std.proofs.Common.{◌≡◌, false, ◌||◌, is_some, sym, ap, ◌∙◌}
use Rattle.std.specs.List.{list_any}
use Rattle.std.specs.FinMap as map
use Rattle.mvn_shared.specs.Files.{is_below, is_there, file_at}
use Rattle.mvn_shared.proofs.FileMaps.{get_file, keys_same}
use Rattle.mvn_shared.proofs.file_map.FileMap.is_there.Goals as goal

pub returns-then-contains_key : goal.returns-then-contains_key
unfolding is_there
returns-then-contains_key c =
    let path = c.args.path.now in
    let found = sym c.if-contains_key.true ∙ c.contains_key.ensures ∙ sym (ap is_some (get_file c.self.inside.files.entries path)) ∙ ap (λ m. is_some (file_at m path)) c.self.view_is in
    ap (λ b. b || list_any (is_below path) (map.keys c.args.self.now)) found

pub loop-name-init : goal.loop-name-init
loop-name-init c =
    ap (list_any (is_below c.args.path.now)) (c.into_iter-name-iterator.ensures.into_iter_gives ∙ c.keys-name-items.ensures.rest
    ∙ keys_same c.self.inside.files.entries c.args.self.now c.keys-name-items.ensures.ordered c.self.view_is)

pub returns : goal.returns
unfolding is_there
returns c =
    let path = c.args.path.now in
    let lacks = sym c.if-contains_key.false ∙ c.contains_key.ensures ∙ sym (ap is_some (get_file c.self.inside.files.entries path)) ∙ ap (λ m. is_some (file_at m path)) c.self.view_is in
    let none : false ≡ list_any (is_below path) (map.keys c.args.self.now) =
    sym (ap (list_any (is_below path)) c.in-None.ensures.steps.0) ∙ c.loop-name.invariant in
    none ∙ ap (λ b. b || list_any (is_below path) (map.keys c.args.self.now)) lacks

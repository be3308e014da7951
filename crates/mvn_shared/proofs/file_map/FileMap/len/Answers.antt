use Rattle.std.proofs.Common.{◌≡◌, ℕ, List, length, map, sym, ap, ◌∙◌}
use Rattle.std.proofs.lemmas.List.{length-map}
use Rattle.mvn_shared.proofs.FileMaps.{keys_same}
use Rattle.mvn_shared.proofs.file_map.FileMap.len.Goals as goal

pub returns : goal.returns
returns c =
    let es = c.self.inside.files.entries in
    let names : length (map (λ (e : List ℕ × List ℕ). e.0) es) ≡ length es = length-map _ _ in
    c.len.ensures.len ∙ sym names ∙ ap length (keys_same es c.args.self.now c.len.ensures.ordered c.self.view_is)

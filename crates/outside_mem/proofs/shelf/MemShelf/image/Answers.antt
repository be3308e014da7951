use Rattle.std.proofs.Common.{◌≡◌, sym, subst, ◌∙◌}
use Rattle.std.proofs.lemmas.Result.{IfOk-weaker}
use Rattle.mvn_outside.specs.Shelf.{Standing}
use Rattle.outside_mem.specs.FilesNamed.{files_named}
use Rattle.outside_mem.specs.Image.{IsImage, image_of}
use Rattle.outside_mem.specs.Shelf.{shelf_told, settled_before}
use Rattle.outside_mem.proofs.Moments.{made_image, image_stands}
use Rattle.outside_mem.proofs.shelf.MemShelf.image.Goals as goal

pub returns-clause-image : goal.returns-clause-image
returns-clause-image g c =
    let told = shelf_told c.args.self.now in
    let low = settled_before c.args.self.now c.args.moment in
    IfOk-weaker c.without_failures.result (λ image. files_named image.given ≡ files_named c.in_ok-files.files) (λ image. IsImage told low c.args.moment c.args.newest.now (files_named image.given))
    (λ image same. subst (IsImage told low c.args.moment c.args.newest.now) (sym (same ∙ c.in_ok-files.ensures)) (made_image told low c.args.moment c.args.newest.now (c.args.self.now.early c.args.moment)))
    c.without_failures.ensures.opening

pub returns-clause-left : goal.returns-clause-left
returns-clause-left g c =
    let told = shelf_told c.args.self.now in
    let low = settled_before c.args.self.now c.args.moment in
    let early = c.args.self.now.early c.args.moment in
    IfOk-weaker c.without_failures.result (λ image. files_named image.given ≡ files_named c.in_ok-files.files) (λ image. Standing told low c.args.moment (files_named image.given))
    (λ image same. subst (Standing told low c.args.moment) (sym (same ∙ c.in_ok-files.ensures)) (image_stands told low c.args.moment c.args.newest.now (image_of told low c.args.moment c.args.newest.now) early (made_image told low c.args.moment c.args.newest.now early)))
    c.without_failures.ensures.opening

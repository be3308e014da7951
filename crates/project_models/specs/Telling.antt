-- What is said where the project's folder and both repositories tell what they hold. Project rule.
use Rattle.std.specs.Prelude.{Option, IfSome}
use Rattle.mvn_shared.specs.Files.{Files}
use Rattle.mvn_outside.specs.Shelf.{files_now}
use Rattle.mvn_outside.specs.declared.shelf.ShelfTold.{ShelfTold}

-- of the folder's files, the local repository's and the remote one's
abbrev pub IfTold : Option Files → Option ShelfTold → Option Files → (Files → Files → Files → Type 0) → Type 0
IfTold tree shelf remote P = IfSome tree (λ files. IfSome shelf (λ told. IfSome remote (λ there. P files (files_now told) there)))

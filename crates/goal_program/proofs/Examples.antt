-- Worked examples: texts that are cut, and the parts of a file's name.
use Rattle.std.proofs.Common.{◌≡◌, [], ◌∷◌, codes, Some, None, refl}
use Rattle.goal_program.specs.Calls.{plugin_in}
use Rattle.goal_program.specs.Names.{classifier_in}
use Rattle.goal_program.specs.Texts.{cuts}

-- a plugin's text is cut at its first two colons; with one it is none
three : plugin_in (codes "g:a:1:2") ≡ Some (record { group = codes "g"; artifact = codes "a"; version = codes "1:2" })
three = refl

two : plugin_in (codes "g:a") ≡ None
two = refl

-- what stands behind an artifact and its version is cut at each of its dots: into a classifier and an extension, or an extension alone
classified : cuts 46 [] (codes "-tests.tar.gz") ≡ (codes "-tests", codes "tar.gz") ∷ (codes "-tests.tar", codes "gz") ∷ []
classified = refl

plain : cuts 46 [] (codes ".jar") ≡ ([], codes "jar") ∷ []
plain = refl

named : classifier_in (codes "-tests") ≡ Some (codes "tests")
named = refl

unnamed : classifier_in [] ≡ Some []
unnamed = refl

other : classifier_in (codes "2") ≡ None
other = refl

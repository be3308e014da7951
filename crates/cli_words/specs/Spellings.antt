-- The words of a command line. Maven's command-line options; `--full` and `--generated` are own words.
use Rattle.std.specs.Prelude.{ℕ, Bool, ◌||◌, nat_eq, List, codes, Option, Some, None, if◌then◌else◌}
use Rattle.std.specs.Cmp.Lexicographic.{pointwise}
use Rattle.cli_words.specs.declared.spelling.Wanted.TheVariants.{Workers, Profiles, Define, Projects, ResumeFrom, Generated}
use Rattle.cli_words.specs.declared.spelling.Spelling.{Spelling}
use Rattle.cli_words.specs.declared.spelling.Spelling.TheVariants.{Takes, AlsoMake, AlsoMakeDependents, Full, NoEffect}

abbrev pub is_word : List ℕ → List ℕ → Bool
is_word word name = pointwise nat_eq word name

-- what is done anyway: all modules are built that can be, and nobody is asked
abbrev pub has_no_effect : List ℕ → Bool
has_no_effect word = is_word word (codes "-fae") || is_word word (codes "--fail-at-end") || is_word word (codes "-B") || is_word word (codes "--batch-mode") || is_word word (codes "-ntp") || is_word word (codes "--no-transfer-progress")

-- what a word stands for that is spelled exactly so
unfoldable pub spelled : List ℕ → Option Spelling
spelled word =
    if is_word word (codes "-T") || is_word word (codes "--threads") then Some (Takes Workers)
    else (if is_word word (codes "-P") || is_word word (codes "--activate-profiles") then Some (Takes Profiles)
    else (if is_word word (codes "-D") then Some (Takes Define)
    else (if is_word word (codes "-pl") || is_word word (codes "--projects") then Some (Takes Projects)
    else (if is_word word (codes "-rf") || is_word word (codes "--resume-from") then Some (Takes ResumeFrom)
    else (if is_word word (codes "--generated") then Some (Takes Generated)
    else (if is_word word (codes "-am") || is_word word (codes "--also-make") then Some AlsoMake
    else (if is_word word (codes "-amd") || is_word word (codes "--also-make-dependents") then Some AlsoMakeDependents
    else (if is_word word (codes "--full") then Some Full
    else (if has_no_effect word then Some NoEffect
    else None)))))))))

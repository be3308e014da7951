-- How many workers a command line asks for: at least one, and no more than there are hands.
use Rattle.std.proofs.Common.{◌≡◌, ℕ, ◌+◌, ◌-◌, ◌≤◌, Bool, true, false, not, ◌&&◌, ◌==◌, nat_lt, if◌then◌else◌, List, [], ◌∷◌, ◌++◌, length, drop, Option, Some, None, is_some, Result, Ok, Err, IfOk, IfSome, refl, sym, subst, arith}
use Rattle.std.specs.List.{list_all}
use Rattle.std.specs.Char.{is_ascii_digit}
use Rattle.std.specs.Str.{is_utf8}
use Rattle.std.proofs.lemmas.Bool.Decides.{nat_tests}
use Rattle.mvn_base.specs.Phase.{phase_of}
use Rattle.mvn_base.specs.declared.phase.Phase.{Phase}
use Rattle.mvn_base.specs.declared.phase.Phase.TheVariants.{Validate, Initialize, GenerateSources, ProcessSources, GenerateResources, ProcessResources, Compile, ProcessClasses, GenerateTestSources, ProcessTestSources, GenerateTestResources, ProcessTestResources, TestCompile, ProcessTestClasses, Test, PreparePackage, Package, PreIntegrationTest, IntegrationTest, PostIntegrationTest, Verify, Install, Deploy}
use Rattle.mvn_base.specs.Limits.{most_modules}
use Rattle.cli_words.specs.declared.command_line.CommandLine.{CommandLine}
use Rattle.cli_words.specs.declared.fault.WordFault.{WordFault}
use Rattle.cli_words.specs.declared.fault.WordKind.TheVariants.{BadNumber, DeployPhase, MissingValue, NoPhase, NotUtf8, Repeated, TooManyWorkers, TwoPhases, UnknownPhase, UnknownWord}
use Rattle.cli_words.specs.declared.line.Count.{Count}
use Rattle.cli_words.specs.declared.line.Line.{Line}
use Rattle.cli_words.specs.declared.spelling.Wanted.{Wanted}
use Rattle.cli_words.specs.declared.spelling.Wanted.TheVariants.{Workers, Profiles, Define, Projects, ResumeFrom, Generated}
use Rattle.cli_words.specs.declared.spelling.Spelling.{Spelling}
use Rattle.cli_words.specs.declared.spelling.Spelling.TheVariants.{Takes, AlsoMake, AlsoMakeDependents, Full, NoEffect}
use Rattle.cli_words.specs.Spellings.{spelled}
use Rattle.cli_words.specs.Options.{are_bad_selectors, begins_with, command_line, digit, digits_value, fault, is_bad_selector, is_there, items, joined_value, joined_word, name_of, next_value, next_word, no_words, number, option_word, options, other_word, phase_word, read_words, selector, trimmed, value_of, whole_line, with_define, with_generated, with_hands, with_spelling, with_value, with_workers}

-- the workers that were read so far are at least one
abbrev AtLeastOne : Line → Type 0
AtLeastOne line = IfSome line.workers (λ (c : Count). 1 ≤ c.value)

abbrev Keeps : Result Line WordFault → Type 0
Keeps r = IfOk r AtLeastOne

keeps_if : (b : Bool) (x y : Result Line WordFault) → Keeps x → Keeps y → Keeps (if b then x else y)
keeps_if true x y p q = p
keeps_if false x y p q = q

-- ---- a number

if_some : (b : Bool) (x : Option ℕ) (n : ℕ) → (if b then x else None) ≡ Some n → (b ≡ true) × (x ≡ Some n)
if_some true x n e = (refl, e)
if_some false x n e = cc

first_of : (a b : Bool) → a && b ≡ true → a ≡ true
first_of true b e = refl
first_of false b e = cc

last_of : (a b : Bool) → a && b ≡ true → b ≡ true
last_of true b e = e
last_of false b e = cc

not_true : (b : Bool) → not b ≡ true → b ≡ false
not_true true e = cc
not_true false e = refl

digit_one : (a : ℕ) → is_ascii_digit a ≡ true → a == 48 ≡ false → 1 ≤ digit a
digit_one a p q = grind (arith, nat_tests, p, q)

some_is : (m n : ℕ) → Some m ≡ Some n → 1 ≤ m → 1 ≤ n
some_is m n e p = let same : m ≡ n = cc in omega (arith, same, p)

one_of : (word : List ℕ) (n : ℕ) → list_all is_ascii_digit word ≡ true → begins_with 48 word ≡ false → digits_value word ≡ Some n → 1 ≤ n
one_of [] n d z e = cc
one_of (a ∷ []) n d z e = some_is (digit a) n e (digit_one a (first_of (is_ascii_digit a) true d) z)
one_of (a ∷ b ∷ []) n d z e = some_is _ n e (let one = digit_one a (first_of (is_ascii_digit a) (list_all is_ascii_digit (b ∷ [])) d) z in omega (arith, one))
one_of (a ∷ b ∷ c ∷ []) n d z e = some_is _ n e (let one = digit_one a (first_of (is_ascii_digit a) (list_all is_ascii_digit (b ∷ c ∷ [])) d) z in omega (arith, one))
one_of (a ∷ b ∷ c ∷ d4 ∷ []) n d z e = some_is _ n e (let one = digit_one a (first_of (is_ascii_digit a) (list_all is_ascii_digit (b ∷ c ∷ d4 ∷ [])) d) z in omega (arith, one))
one_of (a ∷ b ∷ c ∷ d4 ∷ e5 ∷ word) n d z e = cc

number_one : (word : List ℕ) (n : ℕ) → number word ≡ Some n → 1 ≤ n
unfolding number
number_one word n e =
    let is = if_some (list_all is_ascii_digit word && not (begins_with 48 word)) (digits_value word) n e in
    one_of word n (first_of (list_all is_ascii_digit word) (not (begins_with 48 word)) is.0) (not_true (begins_with 48 word) (last_of (list_all is_ascii_digit word) (not (begins_with 48 word)) is.0)) is.1

-- ---- the values of options

keeps_workers : (at : ℕ) (value : List ℕ) (line : Line) (o : Option ℕ) → number value ≡ o → Keeps (with_workers at value line)
keeps_workers at value line None e =
    let is : with_workers at value line ≡ fault at BadNumber = rw e refl in subst Keeps (sym is) tt
keeps_workers at value line (Some n) e =
    let is : with_workers at value line ≡ Ok (record line { workers = Some (record { place = at; value = n }) }) = rw e refl in subst Keeps (sym is) (number_one value n e)

keeps_define : (at : ℕ) (value : List ℕ) (line : Line) (name : List ℕ) → trimmed (name_of value) ≡ name → AtLeastOne line → Keeps (with_define at value line)
keeps_define at value line [] e ok =
    let is : with_define at value line ≡ fault at UnknownWord = rw e refl in subst Keeps (sym is) tt
keeps_define at value line (b ∷ name) e ok =
    let is : with_define at value line ≡ Ok (record line { defines = line.defines ++ (record { name = b ∷ name; value = value_of value }) ∷ [] }) = rw e refl in subst Keeps (sym is) ok

keeps_generated : (at : ℕ) (value : List ℕ) (line : Line) (o : Option ℕ) → number value ≡ o → AtLeastOne line → Keeps (with_generated at value line)
keeps_generated at value line None e ok =
    let is : with_generated at value line ≡ fault at BadNumber = rw e refl in subst Keeps (sym is) tt
keeps_generated at value line (Some n) e ok =
    let is : with_generated at value line ≡ (if nat_lt (1 + most_modules) n then fault at BadNumber else Ok (record line { generated = Some n })) = rw e refl in subst Keeps (sym is) (keeps_if (nat_lt (1 + most_modules) n) _ _ tt ok)

keeps_value : (at : ℕ) (wanted : Wanted) (value : List ℕ) (line : Line) → AtLeastOne line → Keeps (with_value at wanted value line)
unfolding with_value
keeps_value at Workers value line ok = keeps_workers at value line (number value) refl
keeps_value at Profiles value line ok = ok
keeps_value at Define value line ok = keeps_define at value line (trimmed (name_of value)) refl ok
keeps_value at Projects value line ok = keeps_if (are_bad_selectors (items value)) _ _ tt ok
keeps_value at ResumeFrom value line ok = keeps_if (is_bad_selector (trimmed value)) _ _ tt ok
keeps_value at Generated value line ok = keeps_generated at value line (number value) refl ok

keeps_next_value : (at : ℕ) (wanted : Wanted) (value : List ℕ) (line : Line) → AtLeastOne line → Keeps (next_value at wanted value line)
unfolding next_value
keeps_next_value at wanted value line ok =
    keeps_if (is_there wanted line) _ _ tt (keeps_if (not (is_utf8 value)) _ _ tt (keeps_value at wanted value (record line { awaits = None }) ok))

keeps_joined : (at : ℕ) (wanted : Wanted) (value : List ℕ) (line : Line) (r : Result Line WordFault) → with_value at wanted value line ≡ r → Keeps r → Keeps (joined_value at wanted value line)
keeps_joined at wanted value line (Err found) e ok =
    let is : joined_value at wanted value line ≡ Err found = rw e refl in subst Keeps (sym is) tt
keeps_joined at wanted value line (Ok more) e ok =
    let is : joined_value at wanted value line ≡ (if is_there wanted line then fault at Repeated else Ok more) = rw e refl in subst Keeps (sym is) (keeps_if (is_there wanted line) _ _ tt ok)

keeps_joined_value : (at : ℕ) (wanted : Wanted) (value : List ℕ) (line : Line) → AtLeastOne line → Keeps (joined_value at wanted value line)
keeps_joined_value at wanted value line ok = keeps_joined at wanted value line (with_value at wanted value line) refl (keeps_value at wanted value line ok)

-- ---- a word

keeps_phase : (at : ℕ) (word : List ℕ) (line : Line) (o : Option Phase) → phase_of word ≡ o → AtLeastOne line → Keeps (phase_word at word line)
keeps_phase at word line None e ok =
    let is : phase_word at word line ≡ fault at UnknownPhase = rw e refl in subst Keeps (sym is) tt
keeps_phase at word line (Some Deploy) e ok =
    let is : phase_word at word line ≡ (if is_some line.phase then fault at TwoPhases else fault at DeployPhase) = rw e refl in subst Keeps (sym is) (keeps_if (is_some line.phase) _ _ tt tt)
keeps_phase at word line (Some Validate) e ok =
    let is : phase_word at word line ≡ (if is_some line.phase then fault at TwoPhases else Ok (record line { phase = Some Validate })) = rw e refl in subst Keeps (sym is) (keeps_if (is_some line.phase) _ _ tt ok)
keeps_phase at word line (Some Initialize) e ok =
    let is : phase_word at word line ≡ (if is_some line.phase then fault at TwoPhases else Ok (record line { phase = Some Initialize })) = rw e refl in subst Keeps (sym is) (keeps_if (is_some line.phase) _ _ tt ok)
keeps_phase at word line (Some GenerateSources) e ok =
    let is : phase_word at word line ≡ (if is_some line.phase then fault at TwoPhases else Ok (record line { phase = Some GenerateSources })) = rw e refl in subst Keeps (sym is) (keeps_if (is_some line.phase) _ _ tt ok)
keeps_phase at word line (Some ProcessSources) e ok =
    let is : phase_word at word line ≡ (if is_some line.phase then fault at TwoPhases else Ok (record line { phase = Some ProcessSources })) = rw e refl in subst Keeps (sym is) (keeps_if (is_some line.phase) _ _ tt ok)
keeps_phase at word line (Some GenerateResources) e ok =
    let is : phase_word at word line ≡ (if is_some line.phase then fault at TwoPhases else Ok (record line { phase = Some GenerateResources })) = rw e refl in subst Keeps (sym is) (keeps_if (is_some line.phase) _ _ tt ok)
keeps_phase at word line (Some ProcessResources) e ok =
    let is : phase_word at word line ≡ (if is_some line.phase then fault at TwoPhases else Ok (record line { phase = Some ProcessResources })) = rw e refl in subst Keeps (sym is) (keeps_if (is_some line.phase) _ _ tt ok)
keeps_phase at word line (Some Compile) e ok =
    let is : phase_word at word line ≡ (if is_some line.phase then fault at TwoPhases else Ok (record line { phase = Some Compile })) = rw e refl in subst Keeps (sym is) (keeps_if (is_some line.phase) _ _ tt ok)
keeps_phase at word line (Some ProcessClasses) e ok =
    let is : phase_word at word line ≡ (if is_some line.phase then fault at TwoPhases else Ok (record line { phase = Some ProcessClasses })) = rw e refl in subst Keeps (sym is) (keeps_if (is_some line.phase) _ _ tt ok)
keeps_phase at word line (Some GenerateTestSources) e ok =
    let is : phase_word at word line ≡ (if is_some line.phase then fault at TwoPhases else Ok (record line { phase = Some GenerateTestSources })) = rw e refl in subst Keeps (sym is) (keeps_if (is_some line.phase) _ _ tt ok)
keeps_phase at word line (Some ProcessTestSources) e ok =
    let is : phase_word at word line ≡ (if is_some line.phase then fault at TwoPhases else Ok (record line { phase = Some ProcessTestSources })) = rw e refl in subst Keeps (sym is) (keeps_if (is_some line.phase) _ _ tt ok)
keeps_phase at word line (Some GenerateTestResources) e ok =
    let is : phase_word at word line ≡ (if is_some line.phase then fault at TwoPhases else Ok (record line { phase = Some GenerateTestResources })) = rw e refl in subst Keeps (sym is) (keeps_if (is_some line.phase) _ _ tt ok)
keeps_phase at word line (Some ProcessTestResources) e ok =
    let is : phase_word at word line ≡ (if is_some line.phase then fault at TwoPhases else Ok (record line { phase = Some ProcessTestResources })) = rw e refl in subst Keeps (sym is) (keeps_if (is_some line.phase) _ _ tt ok)
keeps_phase at word line (Some TestCompile) e ok =
    let is : phase_word at word line ≡ (if is_some line.phase then fault at TwoPhases else Ok (record line { phase = Some TestCompile })) = rw e refl in subst Keeps (sym is) (keeps_if (is_some line.phase) _ _ tt ok)
keeps_phase at word line (Some ProcessTestClasses) e ok =
    let is : phase_word at word line ≡ (if is_some line.phase then fault at TwoPhases else Ok (record line { phase = Some ProcessTestClasses })) = rw e refl in subst Keeps (sym is) (keeps_if (is_some line.phase) _ _ tt ok)
keeps_phase at word line (Some Test) e ok =
    let is : phase_word at word line ≡ (if is_some line.phase then fault at TwoPhases else Ok (record line { phase = Some Test })) = rw e refl in subst Keeps (sym is) (keeps_if (is_some line.phase) _ _ tt ok)
keeps_phase at word line (Some PreparePackage) e ok =
    let is : phase_word at word line ≡ (if is_some line.phase then fault at TwoPhases else Ok (record line { phase = Some PreparePackage })) = rw e refl in subst Keeps (sym is) (keeps_if (is_some line.phase) _ _ tt ok)
keeps_phase at word line (Some Package) e ok =
    let is : phase_word at word line ≡ (if is_some line.phase then fault at TwoPhases else Ok (record line { phase = Some Package })) = rw e refl in subst Keeps (sym is) (keeps_if (is_some line.phase) _ _ tt ok)
keeps_phase at word line (Some PreIntegrationTest) e ok =
    let is : phase_word at word line ≡ (if is_some line.phase then fault at TwoPhases else Ok (record line { phase = Some PreIntegrationTest })) = rw e refl in subst Keeps (sym is) (keeps_if (is_some line.phase) _ _ tt ok)
keeps_phase at word line (Some IntegrationTest) e ok =
    let is : phase_word at word line ≡ (if is_some line.phase then fault at TwoPhases else Ok (record line { phase = Some IntegrationTest })) = rw e refl in subst Keeps (sym is) (keeps_if (is_some line.phase) _ _ tt ok)
keeps_phase at word line (Some PostIntegrationTest) e ok =
    let is : phase_word at word line ≡ (if is_some line.phase then fault at TwoPhases else Ok (record line { phase = Some PostIntegrationTest })) = rw e refl in subst Keeps (sym is) (keeps_if (is_some line.phase) _ _ tt ok)
keeps_phase at word line (Some Verify) e ok =
    let is : phase_word at word line ≡ (if is_some line.phase then fault at TwoPhases else Ok (record line { phase = Some Verify })) = rw e refl in subst Keeps (sym is) (keeps_if (is_some line.phase) _ _ tt ok)
keeps_phase at word line (Some Install) e ok =
    let is : phase_word at word line ≡ (if is_some line.phase then fault at TwoPhases else Ok (record line { phase = Some Install })) = rw e refl in subst Keeps (sym is) (keeps_if (is_some line.phase) _ _ tt ok)

keeps_joined_word : (at : ℕ) (word : List ℕ) (line : Line) → AtLeastOne line → Keeps (joined_word at word line)
keeps_joined_word at word line ok =
    keeps_if (not (begins_with 45 word)) _ _ (keeps_phase at word line (phase_of word) refl ok)
    (keeps_if (begins_with 84 (drop 1 word)) _ _ (keeps_joined_value at Workers (drop 2 word) line ok)
    (keeps_if (begins_with 80 (drop 1 word)) _ _ (keeps_joined_value at Profiles (drop 2 word) line ok)
    (keeps_if (begins_with 68 (drop 1 word)) _ _ (keeps_joined_value at Define (drop 2 word) line ok) tt)))

keeps_other : (at : ℕ) (word : List ℕ) (line : Line) (o : Option Spelling) → spelled (name_of word) ≡ o → AtLeastOne line → Keeps (other_word at word line)
keeps_other at word line None e ok =
    let is : other_word at word line ≡ joined_word at word line = rw e refl in subst Keeps (sym is) (keeps_joined_word at word line ok)
keeps_other at word line (Some (Takes wanted)) e ok =
    let is : other_word at word line ≡ joined_value at wanted (value_of word) line = rw e refl in subst Keeps (sym is) (keeps_joined_value at wanted (value_of word) line ok)
keeps_other at word line (Some AlsoMake) e ok =
    let is : other_word at word line ≡ joined_word at word line = rw e refl in subst Keeps (sym is) (keeps_joined_word at word line ok)
keeps_other at word line (Some AlsoMakeDependents) e ok =
    let is : other_word at word line ≡ joined_word at word line = rw e refl in subst Keeps (sym is) (keeps_joined_word at word line ok)
keeps_other at word line (Some Full) e ok =
    let is : other_word at word line ≡ joined_word at word line = rw e refl in subst Keeps (sym is) (keeps_joined_word at word line ok)
keeps_other at word line (Some NoEffect) e ok =
    let is : other_word at word line ≡ joined_word at word line = rw e refl in subst Keeps (sym is) (keeps_joined_word at word line ok)

keeps_spelling : (meant : Spelling) (line : Line) → AtLeastOne line → AtLeastOne (with_spelling meant line)
keeps_spelling (Takes wanted) line ok = ok
keeps_spelling AlsoMake line ok = ok
keeps_spelling AlsoMakeDependents line ok = ok
keeps_spelling Full line ok = ok
keeps_spelling NoEffect line ok = ok

keeps_option : (at : ℕ) (word : List ℕ) (line : Line) (o : Option Spelling) → spelled word ≡ o → AtLeastOne line → Keeps (option_word at word line)
keeps_option at word line None e ok =
    let is : option_word at word line ≡ other_word at word line = rw e refl in subst Keeps (sym is) (keeps_other at word line (spelled (name_of word)) refl ok)
keeps_option at word line (Some meant) e ok =
    let is : option_word at word line ≡ Ok (with_spelling meant line) = rw e refl in subst Keeps (sym is) (keeps_spelling meant line ok)

keeps_next : (at : ℕ) (word : List ℕ) (line : Line) (o : Option Wanted) → line.awaits ≡ o → AtLeastOne line → Keeps (next_word at word line)
unfolding next_word
keeps_next at word line None e ok =
    let is : next_word at word line ≡ (if not (is_utf8 word) then fault at NotUtf8 else option_word at word line) = rw e refl in
    subst Keeps (sym is) (keeps_if (not (is_utf8 word)) _ _ tt (keeps_option at word line (spelled word) refl ok))
keeps_next at word line (Some wanted) e ok =
    let is : next_word at word line ≡ next_value at wanted word line = rw e refl in subst Keeps (sym is) (keeps_next_value at wanted word line ok)

keeps_read : (at : ℕ) (line : Line) (words : List (List ℕ)) → AtLeastOne line → Keeps (read_words at line words)
keeps_read at line [] ok = ok
keeps_read at line (word ∷ words) ok = by (next_word at word line) refl (keeps_next at word line line.awaits refl ok) (λ more. keeps_read (at + 1) more words)
  where
    by : (r : Result Line WordFault) → next_word at word line ≡ r → Keeps r → ((more : Line) → AtLeastOne more → Keeps (read_words (at + 1) more words)) → Keeps (read_words at line (word ∷ words))
    by (Err found) e kept rest = let is : read_words at line (word ∷ words) ≡ Err found = rw e refl in subst Keeps (sym is) tt
    by (Ok more) e kept rest = let is : read_words at line (word ∷ words) ≡ read_words (at + 1) more words = rw e refl in subst Keeps (sym is) (rest more kept)

-- ---- the whole line

abbrev AsMany : (hands : ℕ) → Result CommandLine WordFault → Type 0
AsMany hands r = IfOk r (λ (line : CommandLine). (1 ≤ line.workers) × (line.workers ≤ hands))

many_if : (hands : ℕ) (b : Bool) (x y : Result CommandLine WordFault) → (b ≡ true → AsMany hands x) → (b ≡ false → AsMany hands y) → AsMany hands (if b then x else y)
many_if hands true x y p q = p refl
many_if hands false x y p q = q refl

not_lower : (a b : ℕ) → nat_lt a b ≡ false → b ≤ a
not_lower a b e = grind (arith, nat_tests, e)

many_hands : (hands : ℕ) (phase : Phase) (line : Line) (o : Option Count) → line.workers ≡ o → 1 ≤ hands → AtLeastOne line → AsMany hands (with_hands hands phase line)
many_hands hands phase line None e low ok =
    let is : with_hands hands phase line ≡ Ok (command_line 1 phase line) = rw e refl in subst (AsMany hands) (sym is) (omega (arith), low)
many_hands hands phase line (Some count) e low ok =
    let is : with_hands hands phase line ≡ (if nat_lt hands count.value then fault count.place TooManyWorkers else Ok (command_line count.value phase line)) = rw e refl in
    subst (AsMany hands) (sym is) (many_if hands (nat_lt hands count.value) _ _ (λ t. tt) (λ f. (subst (λ (o : Option Count). IfSome o (λ (c : Count). 1 ≤ c.value)) e ok, not_lower hands count.value f)))

many_line : (count hands : ℕ) (line : Line) (awaits : Option Wanted) (phase : Option Phase) → line.awaits ≡ awaits → line.phase ≡ phase → 1 ≤ hands → AtLeastOne line → AsMany hands (whole_line count hands line)
unfolding whole_line
many_line count hands line (Some wanted) phase e f low ok =
    let is : whole_line count hands line ≡ fault (count - 1) MissingValue = rw e refl in subst (AsMany hands) (sym is) tt
many_line count hands line None None e f low ok =
    let is : whole_line count hands line ≡ fault count NoPhase = rw e (rw f refl) in subst (AsMany hands) (sym is) tt
many_line count hands line None (Some phase) e f low ok =
    let is : whole_line count hands line ≡ with_hands hands phase line = rw e (rw f refl) in subst (AsMany hands) (sym is) (many_hands hands phase line line.workers refl low ok)

many_options : (words : List (List ℕ)) (hands : ℕ) (r : Result Line WordFault) → read_words 0 no_words words ≡ r → 1 ≤ hands → Keeps r → AsMany hands (options words hands)
unfolding options
many_options words hands (Err found) e low ok =
    let is : options words hands ≡ Err found = rw e refl in subst (AsMany hands) (sym is) tt
many_options words hands (Ok line) e low ok =
    let is : options words hands ≡ whole_line (length words) hands line = rw e refl in
    subst (AsMany hands) (sym is) (many_line (length words) hands line line.awaits line.phase refl refl low ok)

pub workers_of : (words : List (List ℕ)) (hands : ℕ) (line : CommandLine) → options words hands ≡ Ok line → 1 ≤ hands → (1 ≤ line.workers) × (line.workers ≤ hands)
workers_of words hands line e low = subst (AsMany hands) e (many_options words hands (read_words 0 no_words words) refl low (keeps_read 0 no_words words tt))

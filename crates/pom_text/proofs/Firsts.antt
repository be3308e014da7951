-- What the first character says of what is read there.
use Rattle.std.proofs.Common.{◌≡◌, ℕ, ◌+◌, ◌<◌, ◌≤◌, Bool, true, false, ◌==◌, nat_eq, List, [], ◌∷◌, length, get_or, drop, Some, None, is_some, refl, sym, ap, ◌∙◌, arith, if◌then◌else◌}
use Rattle.std.proofs.lemmas.Bool.{false≢true}
use Rattle.std.proofs.lemmas.Bool.Decides.{nat_tests}
use Rattle.std.specs.List.{prefix_len, starts_with}
use Rattle.std.specs.Str.{IsUtf8, chars}
use Rattle.pom_text.specs.Characters.{is_space}
use Rattle.pom_text.specs.Encodings.{begins_space}
use Rattle.pom_text.specs.Parts.{Character}
use Rattle.pom_text.specs.Reads.{after, begins, marked_of, piece_of, quoted, value_of}
use Rattle.pom_text.specs.Lent.{is_run, unfed}
use Rattle.pom_text.proofs.Bytes.{begins_alike}
use Rattle.pom_text.proofs.Flat.{space_flat}
use Rattle.pom_text.proofs.Fronts.{after_reads, after_splits, none_some}
use Rattle.pom_text.proofs.Needles.{no_true}

-- a mark of one character that isn't there
pub not_here : (m c : ℕ) (text : List ℕ) → None ≡ after (m ∷ []) (c ∷ text) → (c == m) ≡ false
not_here m c text none = no_true (c == m) (λ yes.
    let same : c ≡ m = grind (arith, nat_tests, yes) in
    none_some text (none ∙ ap (λ x. after (m ∷ []) (x ∷ text)) same ∙ after_reads (m ∷ []) text))

-- white space
same_test : (text : List ℕ) → begins is_space text ≡ begins_space text
same_test [] = refl
same_test (c ∷ text) = refl

pub begins_some : (bs : List ℕ) → IsUtf8 bs → 1 ≤ length bs → is_space (get_or bs 0 0) ≡ begins_space (chars bs)
begins_some [] u a = absurd (omega (arith, a))
begins_some (b ∷ bs) u a = sym (begins_alike is_space (b ∷ bs) space_flat u) ∙ same_test (chars (b ∷ bs))

pub begins_none : (bs : List ℕ) → IsUtf8 bs → length bs < 1 → false ≡ begins_space (chars bs)
begins_none [] u a = sym (begins_alike is_space [] space_flat u) ∙ same_test (chars [])
begins_none (b ∷ bs) u a = absurd (omega (arith, a))

pub some_space : (text : List ℕ) → begins_space text ≡ true → (prefix_len is_space text == 0) ≡ false
some_space [] e = absurd (false≢true e)
some_space (c ∷ text) e =
    let more : (1 + prefix_len is_space text == 0) ≡ false = grind (arith, nat_tests) in
    ap (λ b. (if b then 1 + prefix_len is_space text else 0) == 0) e ∙ more

pub no_space : (text : List ℕ) → begins_space text ≡ false → (prefix_len is_space text == 0) ≡ true
no_space [] e = refl
no_space (c ∷ text) e = ap (λ b. (if b then 1 + prefix_len is_space text else 0) == 0) e

-- quotes
pub double : (text rest : List ℕ) → Some rest ≡ after (34 ∷ []) text → value_of 34 rest ≡ quoted text
unfolding quoted
double text rest e = sym (ap quoted (after_splits (34 ∷ []) text rest (sym e)))

pub single : (text rest : List ℕ) → Some rest ≡ after (39 ∷ []) text → value_of 39 rest ≡ quoted text
unfolding quoted
single text rest e = sym (ap quoted (after_splits (39 ∷ []) text rest (sym e)))

pub no_quote : (text : List ℕ) → None ≡ after (34 ∷ []) text → None ≡ after (39 ∷ []) text → None ≡ quoted text
unfolding quoted
no_quote [] a b = refl
no_quote (c ∷ text) a b = rw (not_here 34 c text a, not_here 39 c text b) refl

-- pieces
pub marked : (text rest : List ℕ) → Some rest ≡ after (60 ∷ []) text → piece_of text ≡ marked_of rest
unfolding piece_of
marked text rest e = ap piece_of (after_splits (60 ∷ []) text rest (sym e))

pub referred_to : (text rest : List ℕ) → Some rest ≡ after (38 ∷ []) text → piece_of (38 ∷ rest) ≡ piece_of text
referred_to text rest e = sym (ap piece_of (after_splits (38 ∷ []) text rest (sym e)))

pub returned : (text rest : List ℕ) → Some rest ≡ after (13 ∷ []) text → piece_of text ≡ Some (Character 13, rest)
unfolding piece_of
returned text rest e = ap piece_of (after_splits (13 ∷ []) text rest (sym e))

is_run_so : (c : ℕ) → (c == 60) ≡ false → (c == 38) ≡ false → (c == 13) ≡ false → is_run c ≡ true
unfolding is_run
is_run_so c a b d = rw (a, b, d) refl

pub nothing : (text : List ℕ) → begins is_run text ≡ false → None ≡ after (60 ∷ []) text → None ≡ after (38 ∷ []) text → None ≡ after (13 ∷ []) text → piece_of text ≡ None
unfolding piece_of
nothing [] stop a b d = refl
nothing (c ∷ text) stop a b d = absurd (false≢true (sym stop ∙ is_run_so c (not_here 60 c text a) (not_here 38 c text b) (not_here 13 c text d)))

-- a line feed
pub unreturned : (fed : Bool) (text : List ℕ) → fed ≡ false → text ≡ unfed fed text
unreturned fed text is = ap (λ b. unfed b text) (sym is)

pub with_feed : (fed : Bool) (text rest : List ℕ) → fed ≡ true → Some rest ≡ after (10 ∷ []) text → rest ≡ unfed fed text
with_feed fed text rest is e = sym (ap (unfed true) (after_splits (10 ∷ []) text rest (sym e))) ∙ ap (λ b. unfed b text) (sym is)

no_feed : (text : List ℕ) → None ≡ after (10 ∷ []) text → text ≡ unfed true text
no_feed [] a = refl
no_feed (c ∷ text) a = sym (ap (λ b. if b then text else c ∷ text) (not_here 10 c text a))

pub without_feed : (fed : Bool) (text : List ℕ) → fed ≡ true → None ≡ after (10 ∷ []) text → text ≡ unfed fed text
without_feed fed text is a = no_feed text a ∙ ap (λ b. unfed b text) (sym is)

-- whether a mark stands at the front
is_after : (mark text : List ℕ) → is_some (after mark text) ≡ starts_with nat_eq text mark
unfolding after
is_after mark text = by (starts_with nat_eq text mark)
  where
    by : (b : Bool) → is_some (if b then Some (drop (length mark) text) else None) ≡ b
    by true = refl
    by false = refl

pub starts_so : (mark text rest : List ℕ) → Some rest ≡ after mark text → true ≡ starts_with nat_eq text mark
starts_so mark text rest e = ap is_some e ∙ is_after mark text

pub starts_not : (mark text : List ℕ) → None ≡ after mark text → false ≡ starts_with nat_eq text mark
starts_not mark text e = ap is_some e ∙ is_after mark text

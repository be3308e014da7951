-- A text is cut behind the run at its front.
use Rattle.std.proofs.Common.{◌≡◌, ℕ, suc, ◌+◌, Bool, true, false, List, [], ◌∷◌, ◌++◌, take, drop, refl, sym, ap, ◌∙◌, arith, if◌then◌else◌}
use Rattle.std.specs.List.{list_all, prefix_len}
use Rattle.std.specs.Str.{IsUtf8, chars}
use Rattle.pom_text.specs.Reads.{begins}
use Rattle.pom_text.specs.Lent.{IsRunOf, is_run}
use Rattle.pom_text.proofs.Bytes.{cut_back, cut_front}
use Rattle.pom_text.proofs.Flat.{run_flat}
use Rattle.pom_text.proofs.Fronts.{run_all, run_splits}

-- where a run of characters ends, none of them stands next
pub run_stops : (p : ℕ → Bool) (text : List ℕ) → begins p (drop (prefix_len p text) text) ≡ false
run_stops p [] = refl
run_stops p (c ∷ text) = by (p c) refl (run_stops p text)
  where
    by : (b : Bool) → p c ≡ b → begins p (drop (prefix_len p text) text) ≡ false → begins p (drop (prefix_len p (c ∷ text)) (c ∷ text)) ≡ false
    by true e rest =
        let one : 1 + prefix_len p text ≡ suc (prefix_len p text) = omega arith in
        ap (λ b. begins p (drop (if b then 1 + prefix_len p text else 0) (c ∷ text))) e ∙ ap (λ k. begins p (drop k (c ∷ text))) one ∙ rest
    by false e rest = ap (λ b. begins p (drop (if b then 1 + prefix_len p text else 0) (c ∷ text))) e ∙ e

-- the run at the front, in bytes and in characters
pub run_cut : (bs xs ys : List ℕ) (n : ℕ) → IsUtf8 bs → n ≡ prefix_len is_run bs → xs ≡ take n bs → ys ≡ drop n bs → IsRunOf (chars bs) (chars xs) (chars ys)
run_cut bs xs ys n u is a b =
    let front = cut_front is_run bs xs n run_flat u is a in
    let back = cut_back is_run bs ys n run_flat u is b in
    record {
      splits = run_splits is_run (chars bs) ∙ ap (λ l. l ++ drop (prefix_len is_run (chars bs)) (chars bs)) (sym front) ∙ ap (λ l. chars xs ++ l) (sym back);
      all = ap (list_all is_run) front ∙ run_all is_run (chars bs);
      stops = ap (begins is_run) back ∙ run_stops is_run (chars bs);
    }

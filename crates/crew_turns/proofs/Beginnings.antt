-- Entries with their bytes, one after another.
use Rattle.std.proofs.Common.{◌≡◌, ℕ, zero, suc, ◌+◌, ◌≤◌, List, [], ◌∷◌, ◌++◌, length, map, slice_get, take, Some, unwrap_or, refl, arith, sym, ap, subst, ◌∙◌}
use Rattle.mvn_shared.specs.Files.{Files}
use Rattle.goal_types.specs.declared.goal.OwnBytes.{OwnBytes}
use Rattle.goal_types.specs.declared.goal.PathEntry.{PathEntry}
use Rattle.build_core.specs.OneThread.{bytes_len, entries_len, origin_bytes, path_entry}
use Rattle.build_core.specs.declared.plan.Entry.{Entry}
use Rattle.build_core.specs.declared.plan.Plan.{Plan}
use Rattle.event_core.proofs.Weights.{nothing_is}
use Rattle.run_law.proofs.Paths.{part, summed}
use Rattle.crew_turns.specs.Parts.{IsPart}

-- one item more is the next
taken_more : {A : Type 0} (xs : List A) (at : ℕ) (x : A) → slice_get xs at ≡ Some x → take (suc at) xs ≡ take at xs ++ x ∷ []
taken_more [] at x is = absurd (nothing_is x is)
taken_more (y ∷ xs) zero x is = ap (λ o. unwrap_or o y ∷ []) is
taken_more (y ∷ xs) (suc at) x is = ap (λ ys. y ∷ ys) (taken_more xs at x is)

map_more : {A B : Type 0} (f : A → B) (xs : List A) (x : A) → map f (xs ++ x ∷ []) ≡ map f xs ++ f x ∷ []
map_more f [] x = refl
map_more f (y ∷ xs) x = ap (λ ys. f y ∷ ys) (map_more f xs x)

map_take : {A B : Type 0} (f : A → B) (n : ℕ) (xs : List A) → map f (take n xs) ≡ take n (map f xs)
map_take f zero [] = refl
map_take f zero (x ∷ xs) = refl
map_take f (suc n) [] = refl
map_take f (suc n) (x ∷ xs) = ap (λ ys. f x ∷ ys) (map_take f n xs)

module _ (plan : Plan) (files : Files) (outputs : List (List OwnBytes)) (entries : List Entry) where
  abbrev entry_of : Entry → PathEntry
  entry_of = path_entry plan files outputs

  pub begun : IsPart plan files outputs entries 0 []
  begun = by entries
    where
      by : (es : List Entry) → [] ≡ map entry_of (take 0 es)
      by [] = refl
      by (e ∷ es) = refl

  pub more : (at : ℕ) (e : Entry) (paths : List PathEntry) → slice_get entries at ≡ Some e → IsPart plan files outputs entries at paths → IsPart plan files outputs entries (at + 1) (paths ++ entry_of e ∷ [])
  more at e paths is are = let next : suc at ≡ at + 1 = omega arith in
      subst (λ n. paths ++ entry_of e ∷ [] ≡ map entry_of (take n entries)) next
      (ap (λ ps. ps ++ entry_of e ∷ []) are ∙ sym (map_more entry_of (take at entries) e) ∙ ap (map entry_of) (sym (taken_more entries at e is)))

  pub all : (paths : List PathEntry) → IsPart plan files outputs entries (length entries) paths → paths ≡ map entry_of entries
  all paths are = are ∙ ap (map entry_of) (whole entries)
    where
      whole : (es : List Entry) → take (length es) es ≡ es
      whole [] = refl
      whole (e ∷ es) = ap (λ xs. e ∷ xs) (whole es)

  pub within : (at : ℕ) (e : Entry) (paths : List PathEntry) → slice_get entries at ≡ Some e → IsPart plan files outputs entries at paths → entries_len paths + bytes_len (origin_bytes plan files outputs e.origin) ≤ entries_len (map entry_of entries)
  within at e paths is are =
      let sum = summed paths (entry_of e) in
      let low = subst (λ ps. entries_len ps ≤ entries_len (map entry_of entries)) (sym (more at e paths is are ∙ map_take entry_of (at + 1) entries)) (part (map entry_of entries) (at + 1)) in
      omega (arith, sum, low)

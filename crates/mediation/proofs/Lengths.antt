-- Winners, length by length.
use Rattle.std.proofs.Common.{◌≡◌, ◌≤◌, ◌+◌, ◌-◌, ℕ, zero, suc, List, [], ◌∷◌, ◌++◌, drop, flat_map, map, length, None, slice_get, Err, All, refl, sym, ap, subst, ◌∙◌, arith, append-nil}
use Rattle.std.specs.Option.{option_or, option_to_list}
use Rattle.std.proofs.lemmas.List.{drop_all}
use Rattle.std.proofs.lemmas.List.Elements.{All-nil}
use Rattle.collector.specs.declared.edge.Edge.{Edge}
use Rattle.mediation.specs.declared.fault.MediationFault.{MediationFault}
use Rattle.mediation.specs.declared.fault.MediationFault.TheVariants.{Refused, Lookup, Memory}
use Rattle.mediation.specs.declared.winner.Winner.{Winner}
use Rattle.mediation.specs.Libraries.{Libraries}
use Rattle.mediation.specs.Rows.{Adds, Grows, IsPicked, IsWhole, Resolves, first_reason, paths_of}
use Rattle.collector.specs.Winners.{Graph, Path, firsts, level, longer, winners}
use Rattle.mediation.proofs.Growing.{reasons_behind}
use Rattle.mediation.proofs.Paths.{length_paths}

dropped : (paths more : List Path) → drop (length paths) (paths ++ more) ≡ more
dropped [] more = refl
dropped (p ∷ paths) more = dropped paths more

-- a level more
pub winners_more : (graph : Graph) (n : ℕ) (paths after : List Path) (part : List Path) → paths ≡ winners graph n → part ≡ level graph n → after ≡ paths ++ firsts paths (flat_map (longer graph) part) → after ≡ winners graph (suc n)
winners_more graph n paths after part won last is =
    is ∙ ap (λ l. paths ++ firsts paths (flat_map (longer graph) l)) last ∙ ap (λ w. w ++ firsts w (flat_map (longer graph) (level graph n))) won

pub level_more : (graph : Graph) (n : ℕ) (paths after : List Path) (part : List Path) → paths ≡ winners graph n → part ≡ level graph n → after ≡ paths ++ firsts paths (flat_map (longer graph) part) → drop (length paths) after ≡ level graph (suc n)
level_more graph n paths after part won last is =
    ap (λ l. drop (length paths) l) is
    ∙ dropped paths (firsts paths (flat_map (longer graph) part))
    ∙ ap (λ l. firsts paths (flat_map (longer graph) l)) last
    ∙ ap (λ w. firsts w (flat_map (longer graph) (level graph n))) won

-- the next path of a level, and the rest
pub next_drop : (paths : List Path) (at : ℕ) → drop at paths ≡ option_to_list (slice_get paths at) ++ drop (suc at) paths
next_drop [] zero = refl
next_drop [] (suc at) = refl
next_drop (p ∷ paths) zero = refl
next_drop (p ∷ paths) (suc at) = next_drop paths at

-- behind a length of which none wins, nothing changes
still : (graph : Graph) (n k : ℕ) → level graph n ≡ [] → (winners graph (n + k) ≡ winners graph n) × (level graph (n + k) ≡ [])
still graph n zero none =
    let same : n + 0 ≡ n = omega arith in
    (ap (λ m. winners graph m) same, ap (λ m. level graph m) same ∙ none)
still graph n (suc k) none =
    let rest = still graph n k none in
    let next : n + suc k ≡ suc (n + k) = omega arith in
    let empty : level graph (suc (n + k)) ≡ [] = ap (λ l. firsts (winners graph (n + k)) (flat_map (longer graph) l)) rest.1 in
    (ap (λ m. winners graph m) next ∙ ap (λ l. winners graph (n + k) ++ l) empty ∙ append-nil (winners graph (n + k)) ∙ rest.0, ap (λ m. level graph m) next ∙ empty)

-- the winners up to a length stand, and those of it from a place on; none is refused
pub record IsUpTo (libraries : Libraries) (graph : Graph) (rows : List Winner) (from : ℕ) : Type 0 where
  pub count : ℕ
  pub wins : paths_of rows ≡ winners graph count
  pub last : drop from (paths_of rows) ≡ level graph count
  pub free : first_reason libraries 0 (paths_of rows) ≡ None
  pub versions : All (IsPicked libraries) rows

module _ (libraries : Libraries) (graph : Graph) where
  -- the project's own declarations
  begun_so : (new : List Winner) → Grows libraries [] new (map (λ e. e ∷ []) graph.direct) → IsUpTo libraries graph new 0
  begun_so new grown =
      let all : paths_of new ≡ winners graph (suc zero) = grown.wins ∙ ap (λ l. firsts [] l) (sym (append-nil (map (λ e. e ∷ []) graph.direct))) in
      record {
        count = suc zero;
        wins = all;
        last = all;
        free = ap (λ l. first_reason libraries 0 l) grown.wins ∙ grown.free;
        versions = grown.versions (All-nil (IsPicked libraries));
      }

  pub begun : (old new : List Winner) (edges : List Edge) → old ≡ [] → edges ≡ graph.direct → Grows libraries old new (map (λ e. e ∷ []) edges) → IsUpTo libraries graph new 0
  begun old new edges none all grown = begun_so new (subst (λ l. Grows libraries [] new (map (λ e. e ∷ []) l)) all (subst (λ o. Grows libraries o new (map (λ e. e ∷ []) edges)) none grown))

  not_begun_so : (new : List Winner) (fault : MediationFault) → Adds {T = Unit {0}} libraries [] new (map (λ e. e ∷ []) graph.direct) (Err fault) → Resolves libraries graph (Err fault)
  not_begun_so new (Refused rule place) is = (suc zero, ap (λ l. first_reason libraries 0 (firsts [] l)) (append-nil (map (λ e. e ∷ []) graph.direct)) ∙ is)
  not_begun_so new Lookup is = tt
  not_begun_so new Memory is = tt

  pub not_begun : (old new : List Winner) (edges : List Edge) (fault : MediationFault) → old ≡ [] → edges ≡ graph.direct → Adds {T = Unit {0}} libraries old new (map (λ e. e ∷ []) edges) (Err fault) → Resolves libraries graph (Err fault)
  not_begun old new edges fault none all is =
      not_begun_so new fault
      (subst (λ l. Adds {T = Unit {0}} libraries [] new (map (λ e. e ∷ []) l) (Err fault)) all
      (subst (λ o. Adds {T = Unit {0}} libraries o new (map (λ e. e ∷ []) edges) (Err fault)) none is))

  zero_behind : (n : ℕ) → 0 + n ≡ n
  zero_behind n = omega arith

  reasons_more : (won more : List Path) → first_reason libraries 0 won ≡ None → first_reason libraries 0 (won ++ more) ≡ first_reason libraries (length won) more
  reasons_more won more free =
      reasons_behind libraries 0 won more
      ∙ ap (λ o. option_or o (first_reason libraries (0 + length won) more)) free
      ∙ ap (λ n. first_reason libraries n more) (zero_behind (length won))

  -- a length more
  pub turned : (rows new : List Winner) (from : ℕ) → IsUpTo libraries graph rows from → Grows libraries rows new (flat_map (longer graph) (drop from (paths_of rows))) → IsUpTo libraries graph new (length rows)
  turned rows new from up grown =
      let part = drop from (paths_of rows) in
      record {
        count = suc up.count;
        wins = winners_more graph up.count (paths_of rows) (paths_of new) part up.wins up.last grown.wins;
        last = ap (λ n. drop n (paths_of new)) (sym (length_paths rows)) ∙ level_more graph up.count (paths_of rows) (paths_of new) part up.wins up.last grown.wins;
        free = ap (λ l. first_reason libraries 0 l) grown.wins ∙ reasons_more (paths_of rows) (firsts (paths_of rows) (flat_map (longer graph) part)) up.free ∙ grown.free;
        versions = grown.versions up.versions;
      }

  pub not_turned : (rows new : List Winner) (from : ℕ) (fault : MediationFault) → IsUpTo libraries graph rows from
      → Adds {T = Unit {0}} libraries rows new (flat_map (longer graph) (drop from (paths_of rows))) (Err fault) → Resolves libraries graph (Err fault)
  not_turned rows new from (Refused rule place) up is =
      let part = drop from (paths_of rows) in
      let more = firsts (paths_of rows) (flat_map (longer graph) part) in
      let all : paths_of rows ++ more ≡ winners graph (suc up.count) = winners_more graph up.count (paths_of rows) (paths_of rows ++ more) part up.wins up.last refl in
      (suc up.count, ap (λ l. first_reason libraries 0 l) (sym all) ∙ reasons_more (paths_of rows) more up.free ∙ is)
  not_turned rows new from Lookup up is = tt
  not_turned rows new from Memory up is = tt

  -- there is no longer one
  pub ended : (rows : List Winner) (from : ℕ) → IsUpTo libraries graph rows from → length rows ≤ from → IsWhole libraries graph rows
  ended rows from up low =
      let past : length (paths_of rows) ≤ from = omega (arith, length_paths rows, low) in
      let none : level graph up.count ≡ [] = sym up.last ∙ drop_all from (paths_of rows) past in
      record {
        longest = up.count;
        wins = λ n more.
            let there : up.count + (n - up.count) ≡ n = omega (arith, more) in
            up.wins ∙ sym (still graph up.count (n - up.count) none).0 ∙ ap (λ m. winners graph m) there;
        free = up.free;
        versions = up.versions;
      }

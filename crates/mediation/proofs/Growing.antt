-- How winners grow, path by path.
use Rattle.std.proofs.Common.{◌≡◌, ◌+◌, ℕ, suc, Bool, true, false, List, [], ◌∷◌, ◌++◌, length, Option, Some, None, is_some, Result, Ok, Err, refl, sym, ap, subst, ◌∙◌, arith, if◌then◌else◌, append-nil, append_assoc, length-append, All}
use Rattle.std.specs.Option.{option_or}
use Rattle.std.specs.Prelude.{codes, nat_lt, OnOk}
use Rattle.std.proofs.lemmas.List.Elements.{All-push}
use Rattle.mvn_base.specs.declared.rule.Rule.TheVariants.{GraphTooLarge}
use Rattle.collector.specs.declared.edge.Edge.{Edge}
use Rattle.mediation.specs.declared.fault.MediationFault.{MediationFault}
use Rattle.mediation.specs.declared.fault.MediationFault.TheVariants.{Refused, Lookup, Memory}
use Rattle.mediation.specs.declared.winner.Winner.{Winner}
use Rattle.mediation.specs.Faults.{Reason, Says}
use Rattle.mediation.specs.Libraries.{Libraries, chosen, gav_of, most_winners, picked}
use Rattle.mediation.specs.Rows.{Adds, Grows, IsPicked, Leads, first_reason, paths_of, reason, reason_at, row_of, won_by}
use Rattle.collector.specs.Winners.{Path, firsts, is_won, winner_of}
use Rattle.mediation.proofs.Paths.{above_is, has_path, length_paths, path_more}

firsts_joined : (won xs ys : List Path) → firsts won (xs ++ ys) ≡ firsts won xs ++ firsts (won ++ firsts won xs) ys
firsts_joined won [] ys = ap (λ w. firsts w ys) (sym (append-nil won))
firsts_joined won (p ∷ xs) ys = by (is_won won p) (firsts_joined won xs ys) (firsts_joined (won ++ p ∷ []) xs ys)
  where
    by : (b : Bool) → firsts won (xs ++ ys) ≡ firsts won xs ++ firsts (won ++ firsts won xs) ys
        → firsts (won ++ p ∷ []) (xs ++ ys) ≡ firsts (won ++ p ∷ []) xs ++ firsts ((won ++ p ∷ []) ++ firsts (won ++ p ∷ []) xs) ys
        → (if b then firsts won (xs ++ ys) else p ∷ firsts (won ++ p ∷ []) (xs ++ ys)) ≡ (if b then firsts won xs else p ∷ firsts (won ++ p ∷ []) xs) ++ firsts (won ++ (if b then firsts won xs else p ∷ firsts (won ++ p ∷ []) xs)) ys
    by true rest further = rest
    by false rest further = ap (λ l. p ∷ l) (further ∙ ap (λ w. firsts (won ++ p ∷ []) xs ++ firsts w ys) (append_assoc won (p ∷ []) (firsts (won ++ p ∷ []) xs)))

or_assoc : (a b c : Option Reason) → option_or a (option_or b c) ≡ option_or (option_or a b) c
or_assoc (Some x) b c = refl
or_assoc None b c = refl

module _ (libraries : Libraries) where
  at_sum : (a b : ℕ) → suc a + b ≡ a + suc b
  at_sum a b = omega arith

  pub reasons_behind : (place : ℕ) (xs ys : List Path) → first_reason libraries place (xs ++ ys) ≡ option_or (first_reason libraries place xs) (first_reason libraries (place + length xs) ys)
  reasons_behind place [] ys = ap (λ n. first_reason libraries n ys) (here place)
    where
      here : (n : ℕ) → n ≡ n + 0
      here n = omega arith
  reasons_behind place (p ∷ xs) ys =
      ap (λ o. option_or (reason_at libraries place p) o) (reasons_behind (suc place) xs ys ∙ ap (λ n. option_or (first_reason libraries (suc place) xs) (first_reason libraries n ys)) (at_sum place (length xs)))
      ∙ or_assoc (reason_at libraries place p) (first_reason libraries (suc place) xs) (first_reason libraries (place + length (p ∷ xs)) ys)

  -- nothing is added
  pub same_rows : (rows : List Winner) → Grows libraries rows rows []
  same_rows rows = record { wins = sym (append-nil (paths_of rows)); free = refl; versions = λ all. all }

  -- after paths that are added, the first refusal is that of the rest
  reasons_after : (old mid : List Winner) (xs ys : List Path) → Grows libraries old mid xs
      → first_reason libraries (length (paths_of old)) (firsts (paths_of old) (xs ++ ys)) ≡ first_reason libraries (length (paths_of mid)) (firsts (paths_of mid) ys)
  reasons_after old mid xs ys grown =
      let won = paths_of old in
      let first = firsts won xs in
      ap (λ l. first_reason libraries (length won) l) (firsts_joined won xs ys)
      ∙ reasons_behind (length won) first (firsts (won ++ first) ys)
      ∙ ap (λ o. option_or o (first_reason libraries (length won + length first) (firsts (won ++ first) ys))) grown.free
      ∙ ap (λ n. first_reason libraries n (firsts (won ++ first) ys)) (sym (length-append won first))
      ∙ ap (λ w. first_reason libraries (length w) (firsts w ys)) (sym grown.wins)

  grown_more : (old mid new : List Winner) (xs ys : List Path) → Grows libraries old mid xs → Grows libraries mid new ys → Grows libraries old new (xs ++ ys)
  grown_more old mid new xs ys grown more =
      let won = paths_of old in
      record {
        wins = more.wins ∙ ap (λ w. w ++ firsts w ys) grown.wins ∙ append_assoc won (firsts won xs) (firsts (won ++ firsts won xs) ys) ∙ ap (λ l. won ++ l) (sym (firsts_joined won xs ys));
        free = reasons_after old mid xs ys grown ∙ more.free;
        versions = λ all. more.versions (grown.versions all);
      }

  -- paths are added, and then others
  pub add_more : {T : Type 0} (old mid new : List Winner) (xs ys : List Path) (result : Result T MediationFault) → Grows libraries old mid xs → Adds libraries mid new ys result → Adds libraries old new (xs ++ ys) result
  add_more old mid new xs ys (Ok x) grown more = grown_more old mid new xs ys grown more
  add_more old mid new xs ys (Err (Refused rule place)) grown more = reasons_after old mid xs ys grown ∙ more
  add_more old mid new xs ys (Err Lookup) grown more = tt
  add_more old mid new xs ys (Err Memory) grown more = tt

  early : (o rest : Option Reason) (r : Reason) → o ≡ Some r → option_or o rest ≡ Some r
  early o rest r is = ap (λ o. option_or o rest) is

  -- what is refused stays refused, whatever comes behind it
  pub refused_early : (old new other : List Winner) (xs ys : List Path) (fault : MediationFault) → Adds {T = Unit {0}} libraries old new xs (Err fault) → Adds {T = Unit {0}} libraries old other (xs ++ ys) (Err fault)
  refused_early old new other xs ys (Refused rule place) is =
      let won = paths_of old in
      ap (λ l. first_reason libraries (length won) l) (firsts_joined won xs ys)
      ∙ reasons_behind (length won) (firsts won xs) (firsts (won ++ firsts won xs) ys)
      ∙ early (first_reason libraries (length won) (firsts won xs)) (first_reason libraries (length won + length (firsts won xs)) (firsts (won ++ firsts won xs) ys)) (rule, place) is
  refused_early old new other xs ys Lookup is = tt
  refused_early old new other xs ys Memory is = tt

  one_kept : (won : List Path) (e : Edge) (front : Path) (b : Bool) → is_some (winner_of won e.key) ≡ b → firsts won ((e ∷ front) ∷ []) ≡ (if b then [] else (e ∷ front) ∷ [])
  one_kept won e front b is = ap (λ b. if b then [] else (e ∷ front) ∷ []) is

  -- a path whose key is won adds nothing
  pub lost : (rows : List Winner) (e : Edge) (front : Path) → is_some (row_of rows e.key) ≡ true → Grows libraries rows rows ((e ∷ front) ∷ [])
  lost rows e front there =
      let none = one_kept (paths_of rows) e front true (has_path rows e.key ∙ there) in
      record {
        wins = sym (append-nil (paths_of rows)) ∙ ap (λ l. paths_of rows ++ l) (sym none);
        free = ap (λ l. first_reason libraries (length (paths_of rows)) l) none;
        versions = λ all. all;
      }

  or_none : (o : Option Reason) → option_or o None ≡ o
  or_none (Some x) = refl
  or_none None = refl

  only : (rows : List Winner) (e : Edge) (front : Path) → is_some (row_of rows e.key) ≡ false → first_reason libraries (length (paths_of rows)) (firsts (paths_of rows) ((e ∷ front) ∷ [])) ≡ reason (chosen libraries (length rows) e)
  only rows e front new =
      ap (λ l. first_reason libraries (length (paths_of rows)) l) (one_kept (paths_of rows) e front false (has_path rows e.key ∙ new))
      ∙ or_none (reason (chosen libraries (length (paths_of rows)) e))
      ∙ ap (λ n. reason (chosen libraries n e)) (length_paths rows)

  picks : (place : ℕ) (e : Edge) (version : List ℕ) → chosen libraries place e ≡ Ok version → picked libraries e ≡ Ok version
  unfolding chosen
  picks place e version is = by (nat_lt place most_winners) (GraphTooLarge, codes "keys") is
    where
      never : (r : Reason) → ◌≡◌ {A = Result (List ℕ) Reason} (Err r) (Ok version) → ⊥
      never r e = cc

      by : (b : Bool) (r : Reason) → (if b then picked libraries e else Err r) ≡ Ok version → picked libraries e ≡ Ok version
      by true r is = is
      by false r is = absurd (never r is)

  -- a path whose key isn't won adds a winner, with the version that is chosen
  pub won : (rows new : List Winner) (w : Winner) (front : Path) → is_some (row_of rows w.edge.key) ≡ false → Leads (paths_of rows) w.above front
      → chosen libraries (length rows) w.edge ≡ Ok w.version → w.known ≡ libraries.at (gav_of w.edge.key w.version) → new ≡ rows ++ w ∷ [] → Grows libraries rows new ((w.edge ∷ front) ∷ [])
  won rows new w front none leads is known more = record {
    wins =
        ap paths_of more ∙ path_more rows w ∙ ap (λ f. paths_of rows ++ (w.edge ∷ f) ∷ []) (above_is (paths_of rows) w.edge w.above front leads)
        ∙ ap (λ l. paths_of rows ++ l) (sym (one_kept (paths_of rows) w.edge front false (has_path rows w.edge.key ∙ none)));
    free = only rows w.edge front none ∙ ap reason is;
    versions = λ all. subst (All (IsPicked libraries)) (sym more) (All-push (IsPicked libraries) rows w all (record { version = picks (length rows) w.edge w.version is; known = known }));
  }

  -- or is refused
  pub stopped : (rows new : List Winner) (e : Edge) (front : Path) (fault : MediationFault) → is_some (row_of rows e.key) ≡ false
      → Says {T = List ℕ} (chosen libraries (length rows) e) (Err fault) → Adds {T = Unit {0}} libraries rows new ((e ∷ front) ∷ []) (Err fault)
  stopped rows new e front (Refused rule place) none is = only rows e front none ∙ ap reason is
  stopped rows new e front Lookup none is = tt
  stopped rows new e front Memory none is = tt

  -- a path whose key isn't won, where its version is chosen and its winner added
  pub settled : (rows new : List Winner) (e : Edge) (above : Option ℕ) (version : List ℕ) (front : Path) (result : Result (Unit {0}) MediationFault)
      → is_some (row_of rows e.key) ≡ false → Leads (paths_of rows) above front → chosen libraries (length rows) e ≡ Ok version
      → OnOk result (new ≡ rows ++ won_by libraries e above version ∷ []) → Says (Ok tt) result → Adds libraries rows new ((e ∷ front) ∷ []) result
  settled rows new e above version front (Ok x) none leads is more says = won rows new (won_by libraries e above version) front none leads is refl more
  settled rows new e above version front (Err (Refused rule place)) none leads is more says = absurd (other says)
    where
      other : ◌≡◌ {A = Result (Unit {0}) Reason} (Ok tt) (Err (rule, place)) → ⊥
      other e = cc
  settled rows new e above version front (Err Lookup) none leads is more says = tt
  settled rows new e above version front (Err Memory) none leads is more says = tt

  -- a fault says the same of any answer
  pub fault_stays : (T U : Type 0) (old new : List Winner) (paths : List Path) (fault : MediationFault) → Adds {T = U} libraries old new paths (Err fault) → Adds {T = T} libraries old new paths (Err fault)
  fault_stays T U old new paths (Refused rule place) is = is
  fault_stays T U old new paths Lookup is = tt
  fault_stays T U old new paths Memory is = tt

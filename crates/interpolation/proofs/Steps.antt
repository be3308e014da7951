-- The names on the way, and the table.
use Rattle.std.proofs.Common.{◌≡◌, ℕ, Bool, true, false, List, [], ◌∷◌, ◌++◌, Option, None, Some, option_to_list, reverse, Ok, Err, refl, sym, ap, ◌∙◌, subst, if◌then◌else◌}
use Rattle.std.specs.Str.{bytes_eq}
use Rattle.std.specs.Vec.Iter.{into_iter_items}
use Rattle.std.proofs.lemmas.List.{append_assoc, reverse-append}
use Rattle.mvn_base.specs.declared.machine.Pair.{Pair}
use Rattle.mvn_base.specs.declared.rule.Rule.{Rule}
use Rattle.interpolation.specs.declared.part.Part.{Part}
use Rattle.interpolation.specs.declared.part.Part.TheVariants.{Name}
use Rattle.interpolation.specs.Expressions.{last_named}
use Rattle.interpolation.specs.Parts.{parts, spelled}
use Rattle.interpolation.specs.KnownValues.{◌>>=◌, again, filled_from, is_on, limited, part_value, value}
use Rattle.interpolation.specs.Tables.{Asks, Ends, Fits, Goes, Grows, IsRefusal, IsStep, IsTable, IsWay, Stops, StopsAt, Turns, Waits, begun_in, names, fresh_in, plain, rest_of}
use Rattle.interpolation.specs.declared.fault.FillFault.{FillFault}
use Rattle.interpolation.specs.declared.fault.FillFault.TheVariants.{Refused, Memory}
use Rattle.interpolation.specs.declared.step.Step.{Step}
use Rattle.interpolation.specs.declared.filler.Filler.{Filler}
use Rattle.interpolation.specs.declared.filler.Stop.TheVariants as stop
use Rattle.interpolation.proofs.Plain.{above_part, finished, hit, met_again, on_first, on_more, same_text, unfolds, unknown, way_more}

module _ (known : List Pair) (seen : List (List ℕ)) where
  -- a name that is begun
  pub begun : (u : List ℕ) (step : Step) → step.done ≡ [] → rest_of step ≡ parts u → is_on step.name seen ≡ false → last_named known step.name ≡ Some u → IsWay known seen step.name → IsStep known seen None step
  begun u step nothing all off has way = record {
    text = (u, [], has, sym all);
    off = off;
    way = way;
    comes = unfolds known seen step.name u off has
        ∙ ap (filled_from step.name (value known (step.name ∷ seen)) []) (sym all)
        ∙ ap (λ d. filled_from step.name (value known (step.name ∷ seen)) d (rest_of step)) (sym nothing);
  }

  -- its next part is taken
  pub taken : (next : Option Part) (old new : Step) → IsStep known seen None old → new.name ≡ old.name → new.done ≡ old.done → rest_of old ≡ option_to_list next ++ rest_of new → IsStep known seen next new
  taken next old new is same kept rest = record {
    text = (is.text.0, is.text.1, ap (last_named known) same ∙ is.text.2, is.text.3 ∙ ap (λ l. is.text.1 ++ l) rest);
    off = ap (λ n. is_on n seen) same ∙ is.off;
    way = subst (IsWay known seen) (sym same) is.way;
    comes = ap (value known seen) same ∙ is.comes ∙ ap (filled_from old.name (value known (old.name ∷ seen)) old.done) rest
        ∙ ap (λ d. filled_from old.name (value known (old.name ∷ seen)) d (option_to_list next ++ rest_of new)) (sym kept)
        ∙ ap (λ n. filled_from n (value known (n ∷ seen)) new.done (option_to_list next ++ rest_of new)) (sym same);
  }

  -- its next part has come
  pub come : (p : Part) (t d : List ℕ) (old new : Step) → IsStep known seen (Some p) old → part_value (value known (old.name ∷ seen)) p ≡ Ok t → limited old.name (old.done ++ t) ≡ Ok d → new.name ≡ old.name → new.done ≡ d → rest_of new ≡ rest_of old → IsStep known seen None new
  come p t d old new is has short same done rest = record {
    text = (is.text.0, is.text.1 ++ p ∷ [], ap (last_named known) same ∙ is.text.2, is.text.3 ∙ sym (append_assoc is.text.1 (p ∷ []) (rest_of old)) ∙ ap (λ l. (is.text.1 ++ p ∷ []) ++ l) (sym rest));
    off = ap (λ n. is_on n seen) same ∙ is.off;
    way = subst (IsWay known seen) (sym same) is.way;
    comes = ap (value known seen) same ∙ is.comes
        ∙ ap (λ r. r >>= (λ text. limited old.name (old.done ++ text)) >>= (λ more. filled_from old.name (value known (old.name ∷ seen)) more (rest_of old))) has
        ∙ ap (λ r. r >>= (λ more. filled_from old.name (value known (old.name ∷ seen)) more (rest_of old))) short
        ∙ ap (filled_from old.name (value known (old.name ∷ seen)) d) (sym rest)
        ∙ ap (λ e. filled_from old.name (value known (old.name ∷ seen)) e (rest_of new)) (sym done)
        ∙ ap (λ n. filled_from n (value known (n ∷ seen)) new.done (rest_of new)) (sym same);
  }

  -- its next part is refused
  pub part_fails : (p : Part) (e : Rule × List ℕ) (step : Step) → IsStep known seen (Some p) step → part_value (value known (step.name ∷ seen)) p ≡ Err e → value known seen step.name ≡ Err e
  part_fails p e step is fails = is.comes ∙ ap (λ r. r >>= (λ text. limited step.name (step.done ++ text)) >>= (λ more. filled_from step.name (value known (step.name ∷ seen)) more (rest_of step))) fails

  -- with its next part it is too long
  pub too_long : (p : Part) (t : List ℕ) (e : Rule × List ℕ) (step : Step) → IsStep known seen (Some p) step → part_value (value known (step.name ∷ seen)) p ≡ Ok t → limited step.name (step.done ++ t) ≡ Err e → value known seen step.name ≡ Err e
  too_long p t e step is has long =
      is.comes
      ∙ ap (λ r. r >>= (λ text. limited step.name (step.done ++ text)) >>= (λ more. filled_from step.name (value known (step.name ∷ seen)) more (rest_of step))) has
      ∙ ap (λ r. r >>= (λ more. filled_from step.name (value known (step.name ∷ seen)) more (rest_of step))) long

  -- nothing is left of it
  pub ended : (step : Step) → IsStep known seen None step → rest_of step ≡ [] → value known seen step.name ≡ Ok step.done
  ended step is nothing = is.comes ∙ ap (filled_from step.name (value known (step.name ∷ seen)) step.done) nothing

  -- a name in its text has it on its way
  pub inner_way : (n : List ℕ) (step : Step) → IsStep known seen (Some (Name n)) step → IsWay known (step.name ∷ seen) n
  inner_way n step is = way_more known seen step.name n is.way (above_part known step.name is.text.0 is.text.1 n (rest_of step) is.text.2 is.text.3)

  -- the table knows the name: its value is there, it is on the way, or nothing can be met
  pub known_value : (filler : Filler) (name t : List ℕ) → IsTable known seen filler → begun_in filler name ≡ Some (Some t) → IsWay known seen name → value known seen name ≡ Ok t
  unfolding IsTable
  known_value filler name t table has way =
      let fits : Fits known seen name (Some (Some t)) (fresh_in filler name) = subst (λ b. Fits known seen name b (fresh_in filler name)) has (table name) in
      hit known fits.0 seen name t fits.1 way

  pub known_cycle : (filler : Filler) (name : List ℕ) → IsTable known seen filler → begun_in filler name ≡ Some None → value known seen name ≡ again name
  unfolding IsTable
  known_cycle filler name table has = met_again known seen name (subst (λ b. Fits known seen name b (fresh_in filler name)) has (table name))

  pub not_begun : (filler : Filler) (name : List ℕ) → IsTable known seen filler → begun_in filler name ≡ None → Fits known seen name None (fresh_in filler name)
  unfolding IsTable
  not_begun filler name table has = subst (λ b. Fits known seen name b (fresh_in filler name)) has (table name)

  pub known_unknown : (filler : Filler) (name : List ℕ) → IsTable known seen filler → begun_in filler name ≡ None → fresh_in filler name ≡ None → value known seen name ≡ Ok (spelled (Name name))
  known_unknown filler name table has closed =
      let fits = not_begun filler name table has in
      unknown known seen name fits.1 (sym fits.0 ∙ closed)

  -- a refusal is what is said
  pub asks_refused : (filler : Filler) (rule : Rule) (name : List ℕ) (fault : FillFault) → IsRefusal rule name fault → value known seen name ≡ Err (rule, name) → Asks known seen name filler (Err fault)
  asks_refused filler rule name (Refused r p) is says = says ∙ (λ i. Err (sym is.0 i, sym is.1 i))
  asks_refused filler rule name Memory is says = record {}

  -- a name is begun in the table
  pub table_begun : (old new : Filler) (name : List ℕ) → IsTable known seen old → begun_in old name ≡ None
      → ((q : List ℕ) → begun_in new q ≡ (if bytes_eq name q then Some None else begun_in old q)) → ((q : List ℕ) → fresh_in new q ≡ (if bytes_eq name q then None else fresh_in old q)) → IsTable known (name ∷ seen) new
  unfolding IsTable
  table_begun old new name table none begins opens q = by (bytes_eq name q) refl
    where
      others : bytes_eq name q ≡ false → (b : Option (Option (List ℕ))) → Fits known seen q b (fresh_in old q) → Fits known (name ∷ seen) q b (fresh_in old q)
      others e (Some (Some t)) fits = fits
      others e (Some None) fits = on_more name q seen e ∙ fits
      others e None fits = (fits.0, on_more name q seen e ∙ fits.1)

      by : (b : Bool) → bytes_eq name q ≡ b → Fits known (name ∷ seen) q (begun_in new q) (fresh_in new q)
      by true e = subst (λ b. Fits known (name ∷ seen) q b (fresh_in new q)) (sym (begins q ∙ ap (λ b. if b then Some None else begun_in old q) e)) (on_first name q seen e)
      by false e =
          subst (λ b. Fits known (name ∷ seen) q b (fresh_in new q)) (sym (begins q ∙ ap (λ b. if b then Some None else begun_in old q) e))
          (subst (λ o. Fits known (name ∷ seen) q (begun_in old q) o) (sym (opens q ∙ ap (λ b. if b then None else fresh_in old q) e)) (others e (begun_in old q) (table q)))

  -- a name is finished in the table
  pub table_ended : (old new : Filler) (name t : List ℕ) → IsTable known (name ∷ seen) old → value known seen name ≡ Ok t
      → ((q : List ℕ) → begun_in new q ≡ (if bytes_eq name q then Some (Some t) else begun_in old q)) → ((q : List ℕ) → fresh_in new q ≡ fresh_in old q) → IsTable known seen new
  unfolding IsTable
  table_ended old new name t table has begins opens q = by (bytes_eq name q) refl
    where
      others : bytes_eq name q ≡ false → (b : Option (Option (List ℕ))) → Fits known (name ∷ seen) q b (fresh_in old q) → Fits known seen q b (fresh_in old q)
      others e (Some (Some t)) fits = fits
      others e (Some None) fits = sym (on_more name q seen e) ∙ fits
      others e None fits = (fits.0, sym (on_more name q seen e) ∙ fits.1)

      done : bytes_eq name q ≡ true → (depth : ℕ) × (plain known depth q ≡ Ok t)
      done e = subst (λ x. (depth : ℕ) × (plain known depth x ≡ Ok t)) (same_text name q e) (finished known seen name t has)

      by : (b : Bool) → bytes_eq name q ≡ b → Fits known seen q (begun_in new q) (fresh_in new q)
      by true e = subst (λ b. Fits known seen q b (fresh_in new q)) (sym (begins q ∙ ap (λ b. if b then Some (Some t) else begun_in old q) e)) (done e)
      by false e =
          subst (λ b. Fits known seen q b (fresh_in new q)) (sym (begins q ∙ ap (λ b. if b then Some (Some t) else begun_in old q) e))
          (subst (λ o. Fits known seen q (begun_in old q) o) (sym (opens q)) (others e (begun_in old q) (table q)))

  -- a text that can't grow is refused, or memory ran out
  pub grow_fails : (p : Part) (text : List ℕ) (filler : Filler) (step : Step) (fault : FillFault) → IsStep known seen (Some p) step → part_value (value known (step.name ∷ seen)) p ≡ Ok text → Grows step text (Err fault) → Turns known seen step filler (Err fault)
  grow_fails p text filler step (Refused r place) is has long = too_long p text (r, place) step is has long
  grow_fails p text filler step Memory is has long = record {}

  -- and so is one with a name that is refused
  pub ask_fails : (n : List ℕ) (filler asked : Filler) (step : Step) (fault : FillFault) → IsStep known seen (Some (Name n)) step → Asks known (step.name ∷ seen) n asked (Err fault) → Turns known seen step filler (Err fault)
  ask_fails n filler asked step (Refused r place) is says = part_fails (Name n) (r, place) step is says
  ask_fails n filler asked step Memory is says = record {}

module _ (known : List Pair) where
  -- what waits for a name is refused where the name is
  pub fails : (waiting : List Step) (name whole : List ℕ) (e : Rule × List ℕ) → Waits known waiting name whole → value known (names waiting) name ≡ Err e → value known [] whole ≡ Err e
  fails [] name whole e waits is = ap (value known []) (sym waits) ∙ is
  fails (s ∷ waiting) name whole e waits is = fails waiting s.name whole e waits.1 (part_fails known (names waiting) (Name name) e s waits.0 is)

  pub run_fails : (waiting : List Step) (name whole : List ℕ) (old new : Filler) (fault : FillFault) → Waits known waiting name whole → Stops known (names waiting) name old (Err fault) → Ends known whole new (Err fault)
  run_fails waiting name whole old new (Refused r place) waits says = fails waiting name whole (r, place) waits says
  run_fails waiting name whole old new Memory waits says = record {}

  -- the innermost that waits goes on
  pub goes_on : (name done whole : List ℕ) (outer step : Step) (rest waiting : List Step) (new : Filler) → waiting ≡ outer ∷ rest → value known (names waiting) name ≡ Ok done → Waits known waiting name whole → IsTable known (names waiting) new → Grows outer done (Ok step) → Goes known whole new rest step
  goes_on name done whole outer step rest waiting new is has waits table grows =
      subst (λ w. value known (names w) name ≡ Ok done → Waits known w name whole → IsTable known (names w) new → Goes known whole new rest step) (sym is)
      (λ has waits table. (
        come known (names rest) (Name name) done step.done outer step waits.0 has grows.2 grows.0 refl (ap into_iter_items grows.1),
        subst (λ n. Waits known rest n whole) (sym grows.0) waits.1,
        subst (λ n. IsTable known (n ∷ names rest) new) (sym grows.0) table,
      ))
      has waits table

  pub goes_wrong : (name done whole : List ℕ) (outer : Step) (rest waiting : List Step) (new : Filler) (fault : FillFault) → waiting ≡ outer ∷ rest → value known (names waiting) name ≡ Ok done → Waits known waiting name whole → Grows outer done (Err fault) → Ends known whole new (Err fault)
  goes_wrong name done whole outer rest waiting new Memory is has waits grows = record {}
  goes_wrong name done whole outer rest waiting new (Refused r place) is has waits grows =
      subst (λ w. value known (names w) name ≡ Ok done → Waits known w name whole → value known [] whole ≡ Err (r, place)) (sym is)
      (λ has waits. fails rest outer.name whole (r, place) waits.1 (too_long known (names rest) (Name name) done (r, place) outer waits.0 has grows))
      has waits

  -- the whole is there
  pub is_there : (name done whole : List ℕ) (waiting : List Step) (new : Filler) → waiting ≡ [] → value known (names waiting) name ≡ Ok done → Waits known waiting name whole → IsTable known (names waiting) new → (value known [] whole ≡ Ok done) × IsTable known [] new
  is_there name done whole waiting new is has waits table =
      subst (λ w. value known (names w) name ≡ Ok done → Waits known w name whole → IsTable known (names w) new → (value known [] whole ≡ Ok done) × IsTable known [] new) (sym is)
      (λ has waits table. (ap (value known []) (sym waits) ∙ has, table))
      has waits table

  -- one more waits
  pub waits_more : (name whole : List ℕ) (outer inner : Step) (waiting more : List Step) (new : Filler) → more ≡ outer ∷ waiting → Waits known waiting name whole → StopsAt known (names waiting) name new (stop.Asks outer inner) → Goes known whole new more inner
  waits_more name whole outer inner waiting more new is waits stops =
      subst (λ m. Goes known whole new m inner) (sym is)
      (stops.2, (stops.1, subst (λ n. Waits known waiting n whole) (sym stops.0) waits), stops.3)

-- a whole name is begun
pub started : (known : List Pair) (items : List Step) (step : Step) (filler : Filler) → items ≡ [] → IsStep known [] None step → IsTable known (step.name ∷ []) filler → Goes known step.name filler (reverse items) step
started known items step filler nothing is table = subst (λ l. Goes known step.name filler (reverse l) step) (sym nothing) (is, refl, table)

-- the last of a vector is the first the other way round
pub last_first : (items : List Step) (rest : List Step) (s : Step) → items ≡ rest ++ s ∷ [] → reverse items ≡ s ∷ reverse rest
last_first items rest s is = ap reverse is ∙ reverse-append rest (s ∷ [])

-- What discovery finds is a project.
use Rattle.std.proofs.Common.{◌≡◌, ◌≤◌, ◌+◌, ◌⊎◌, inl, inr, ℕ, zero, suc, Bool, true, false, List, [], ◌∷◌, ◌++◌, length, Option, None, Some, Result, Ok, Err, refl, ap, sym, subst, ◌∙◌, arith, if◌then◌else◌}
use Rattle.std.proofs.lemmas.List.{append_assoc, append-nil, length-append}
use Rattle.mvn_base.specs.declared.refusal.PomId.TheVariants as ids
use Rattle.mvn_base.specs.declared.rule.Rule.TheVariants.{DuplicateProject}
use Rattle.mvn_base.specs.Limits.{most_modules}
use Rattle.mvn_base.specs.Paths.{joined}
use Rattle.pom_source.specs.Answers.{Built, ◌>>=◌}
use Rattle.pom_source.specs.Chains.{bound, ok_is}
use Rattle.pom_source.specs.Worlds.{World}
use Rattle.pom_source.specs.declared.found.Given.{Given}
use Rattle.lineage.specs.Beside.{read_at}
use Rattle.lineage.specs.Reading.{read, read_file}
use Rattle.discovery.specs.Discovery.{at_either, at_last, begun, collected, discovered, taken_up, listed_by, named, new_at, one_too_many, or_at, or_missing, path_of, pom_of, pom_xml, read_pom, refuse, root, with_module, with_none, with_pom}
use Rattle.discovery.specs.Listing.{AreApart, AreListed, IsProject, IsRead, LeadsTo}
use Rattle.discovery.specs.Listing.AreApart.{no_pom, one_more}
use Rattle.discovery.specs.Listing.AreListed.{no_module, one_module}
use Rattle.discovery.specs.Met.{is_met}
use Rattle.discovery.specs.declared.pom.Listed.{Listed}
use Rattle.discovery.specs.declared.pom.ModulePom.{ModulePom}
use Rattle.discovery.specs.declared.progress.Progress.{Progress}

some_is : {A : Type 0} (x y : A) → ◌≡◌ {A = Option A} (Some x) (Some y) → x ≡ y
some_is x y e = cc

some_none : {A B : Type 0} (x : A) → ◌≡◌ {A = Option A} (Some x) None → B
some_none x e = cc

none_some : {A B : Type 0} (x : A) → ◌≡◌ {A = Option A} None (Some x) → B
none_some x e = cc

same_first : {A : Type 0} (x y : A) (xs ys : List A) → x ∷ xs ≡ y ∷ ys → x ≡ y
same_first x y xs ys e = cc

same_rest : {A : Type 0} (x y : A) (xs ys : List A) → x ∷ xs ≡ y ∷ ys → xs ≡ ys
same_rest x y xs ys e = cc

no_cons : {A B : Type 0} (x : A) (xs : List A) → ◌≡◌ {A = List A} [] (x ∷ xs) → B
no_cons x xs e = cc

module _ (world : World) (given : Given) where
  -- a POM that was read at a path, where none of these was met
  record IsNew (found : List ModulePom) (path : List ℕ) (pom : ModulePom) : Type 0 where
    at : pom.path ≡ path
    new : is_met found pom.path ≡ false
    is_read : IsRead world pom

  -- a POM that was read is what is at its path
  read_there : (pom : ModulePom) → IsRead world pom → read_at world pom.path ≡ Ok (Some pom.raw)
  read_there pom r = ap (read_file (ids.Path pom.path)) r.there ∙ ap (λ said. said >>= (λ raw. Ok (Some raw))) r.says

  -- what is read of a file
  read_is : (path bytes : List ℕ) (pom : ModulePom) → world.by_path path ≡ Some bytes → read_pom path bytes ≡ Ok pom → (pom.path ≡ path) × IsRead world pom
  read_is path bytes pom t e =
      let r = bound (read (ids.Path path) bytes) (λ raw. Ok (pom_of path bytes raw)) pom e in
      let same = ok_is (pom_of path bytes r.0) pom r.2 in
      (ap (λ (p : ModulePom). p.path) (sym same), subst (λ p. IsRead world p) same (record { there = t; says = r.1 }))

  -- a POM that is found at a path is new, and if none is, no file is there
  new_some : (l : Listed) (found : List ModulePom) (path : List ℕ) (pom : ModulePom) → new_at world read_pom l found path ≡ Ok (Some pom) → IsNew found path pom
  new_some l found path pom = by (is_met found path) (world.by_path path) refl refl
    where
      by : (met : Bool) (there : Option (List ℕ)) → is_met found path ≡ met → world.by_path path ≡ there → new_at world read_pom l found path ≡ Ok (Some pom) → IsNew found path pom
      by true there m t e = absurd cc
      by false None m t e = absurd cc
      by false (Some bytes) m t e =
          let whole : (read_pom path bytes >>= (λ p. Ok (Some p))) ≡ Ok (Some pom) = sym (ap (taken_up read_pom path) t) ∙ sym (ap (λ b. if b then refuse l.by DuplicateProject path else taken_up read_pom path (world.by_path path)) m) ∙ e in
          let r = bound (read_pom path bytes) (λ p. Ok (Some p)) (Some pom) whole in
          let same = some_is r.0 pom (ok_is (Some r.0) (Some pom) r.2) in
          let is = read_is path bytes pom t (subst (λ p. read_pom path bytes ≡ Ok p) same r.1) in
          record { at = is.0; new = ap (is_met found) is.0 ∙ m; is_read = is.1 }

  new_none : (l : Listed) (found : List ModulePom) (path : List ℕ) → new_at world read_pom l found path ≡ Ok None → world.by_path path ≡ None
  new_none l found path = by (is_met found path) (world.by_path path) refl refl
    where
      by : (met : Bool) (there : Option (List ℕ)) → is_met found path ≡ met → world.by_path path ≡ there → new_at world read_pom l found path ≡ Ok None → world.by_path path ≡ None
      by true there m t e = absurd cc
      by false None m t e = t
      by false (Some bytes) m t e =
          let whole : (read_pom path bytes >>= (λ p. Ok (Some p))) ≡ Ok None = sym (ap (taken_up read_pom path) t) ∙ sym (ap (λ b. if b then refuse l.by DuplicateProject path else taken_up read_pom path (world.by_path path)) m) ∙ e in
          let r = bound (read_pom path bytes) (λ p. Ok (Some p)) None whole in
          absurd (some_none r.0 (ok_is (Some r.0) None r.2))

  -- the POM that a module leads to
  named_is : (l : Listed) (found : List ModulePom) (pom : ModulePom) → named world read_pom l found ≡ Ok pom → LeadsTo world l pom × (is_met found pom.path ≡ false)
  named_is l found pom e =
      let p = bound (path_of l) (at_either world read_pom l found) pom e in
      let first = bound (new_at world read_pom l found (joined p.0 pom_xml)) (or_at world read_pom l found p.0) pom p.2 in
      by p.0 p.1 first.0 first.1 first.2
    where
      last : (path : List ℕ) → path_of l ≡ Ok path → world.by_path (joined path pom_xml) ≡ None → (o : Option ModulePom) → new_at world read_pom l found path ≡ Ok o → or_missing l o ≡ Ok pom → LeadsTo world l pom × (is_met found pom.path ≡ false)
      last path names none None at is = absurd cc
      last path names none (Some q) at is =
          let n = new_some l found path pom (at ∙ ap (λ x. Ok (Some x)) (ok_is q pom is)) in
          (record { path = path; names = names; at = inr (none, n.at); is_read = n.is_read }, n.new)

      by : (path : List ℕ) → path_of l ≡ Ok path → (o : Option ModulePom) → new_at world read_pom l found (joined path pom_xml) ≡ Ok o → or_at world read_pom l found path o ≡ Ok pom → LeadsTo world l pom × (is_met found pom.path ≡ false)
      by path names (Some q) at is =
          let n = new_some l found (joined path pom_xml) pom (at ∙ ap (λ x. Ok (Some x)) (ok_is q pom is)) in
          (record { path = path; names = names; at = inl n.at; is_read = n.is_read }, n.new)
      by path names None at is =
          let second = bound (new_at world read_pom l found path) (or_missing l) pom is in
          last path names (new_none l found (joined path pom_xml) at) second.0 second.1 second.2

  -- no module is one too many and leads to a POM
  never : (l : Listed) (found : List ModulePom) (pom : ModulePom) → named world (one_too_many l) l found ≡ Ok pom → ⊥
  never l found pom e =
      let p = bound (path_of l) (at_either world (one_too_many l) l found) pom e in
      let first = bound (new_at world (one_too_many l) l found (joined p.0 pom_xml)) (or_at world (one_too_many l) l found p.0) pom p.2 in
      by p.0 first.0 first.1 first.2
    where
      full : (path : List ℕ) (q : ModulePom) → new_at world (one_too_many l) l found path ≡ Ok (Some q) → ⊥
      full path q = at (is_met found path) (world.by_path path) refl refl
        where
          at : (met : Bool) (there : Option (List ℕ)) → is_met found path ≡ met → world.by_path path ≡ there → new_at world (one_too_many l) l found path ≡ Ok (Some q) → ⊥
          at true there m t e = cc
          at false None m t e = cc
          at false (Some bytes) m t e = cc

      by : (path : List ℕ) (o : Option ModulePom) → new_at world (one_too_many l) l found (joined path pom_xml) ≡ Ok o → or_at world (one_too_many l) l found path o ≡ Ok pom → ⊥
      by path (Some q) at is = full (joined path pom_xml) q at
      by path None at is =
          let second = bound (new_at world (one_too_many l) l found path) (or_missing l) pom is in
          last path second.0 second.1 second.2
        where
          last : (path : List ℕ) (o : Option ModulePom) → new_at world (one_too_many l) l found path ≡ Ok o → or_missing l o ≡ Ok pom → ⊥
          last path None at is = cc
          last path (Some q) at is = full path q at

  -- the POMs of two lists of modules are those of the first, and then those of the second
  record AreSplit (first second : List Listed) (poms : List ModulePom) : Type 0 where
    front : List ModulePom
    back : List ModulePom
    is : poms ≡ front ++ back
    firsts : AreListed world given first front
    seconds : AreListed world given second back

  split : {whole : List Listed} {poms : List ModulePom} → AreListed world given whole poms → (first second : List Listed) → whole ≡ first ++ second → AreSplit first second poms
  split no_module [] second e = record { front = []; back = []; is = refl; firsts = no_module; seconds = subst (λ w. AreListed world given w []) e no_module }
  split no_module (f ∷ first) second e = no_cons f (first ++ second) e
  split (one_module l modules own pom below others leads lists inside rest) [] second e =
      record { front = []; back = pom ∷ below ++ others; is = refl; firsts = no_module; seconds = subst (λ w. AreListed world given w (pom ∷ below ++ others)) e (one_module l modules own pom below others leads lists inside rest) }
  split (one_module l modules own pom below others leads lists inside rest) (f ∷ first) second e =
      let s = split rest first second (same_rest l f modules (first ++ second) e) in
      record {
        front = pom ∷ below ++ s.front;
        back = s.back;
        is = ap (λ x. pom ∷ below ++ x) s.is ∙ ap (λ x. pom ∷ x) (sym (append_assoc below s.front s.back));
        firsts = one_module f first own pom below s.front (subst (λ x. LeadsTo world x pom) (same_first l f modules (first ++ second) e) leads) lists inside s.firsts;
        seconds = s.seconds;
      }

  -- what is found besides
  record AreMore (room : ℕ) (found : List ModulePom) (waiting : List Listed) (poms : List ModulePom) : Type 0 where
    more : List ModulePom
    is : poms ≡ found ++ more
    are : AreListed world given waiting more
    few : length more ≤ room
    apart : AreApart poms

  nothing_more : (room : ℕ) (found poms : List ModulePom) → AreApart found → ◌≡◌ {A = Built (List ModulePom)} (Ok found) (Ok poms) → AreMore room found [] poms
  nothing_more room found poms apart e =
      let same = ok_is found poms e in
      record { more = []; is = sym same ∙ sym (append-nil found); are = no_module; few = omega arith; apart = subst AreApart same apart }

  more_are : (room : ℕ) (found : List ModulePom) (waiting : List Listed) (poms : List ModulePom) → AreApart found → collected world given room found waiting ≡ Ok poms → AreMore room found waiting poms
  unfolding collected
  more_are zero found [] poms apart e = nothing_more zero found poms apart e
  more_are zero found (l ∷ waiting) poms apart e =
      let b = bound (named world (one_too_many l) l found) (λ pom. Ok (found ++ pom ∷ [])) poms e in
      absurd (never l found b.0 b.1)
  more_are (suc room) found [] poms apart e = nothing_more (suc room) found poms apart e
  more_are (suc room) found (l ∷ waiting) poms apart e =
      let b = bound (with_module world given found waiting l) (λ (p : Progress). collected world given room p.found p.waiting) poms e in
      let n = bound (named world read_pom l found) (with_pom world given found waiting) b.0 b.1 in
      let own = bound (listed_by world given n.0) (λ modules. Ok (record { found = found ++ n.0 ∷ []; waiting = modules ++ waiting })) b.0 n.2 in
      let leads = named_is l found n.0 n.1 in
      step n.0 own.0 b.0 (ok_is _ b.0 own.2) leads.0 leads.1 own.1
      (λ a. more_are room (found ++ n.0 ∷ []) (own.0 ++ waiting) poms a (subst (λ (p : Progress). collected world given room p.found p.waiting ≡ Ok poms) (sym (ok_is _ b.0 own.2)) b.2))
    where
      step : (pom : ModulePom) (own : List Listed) (p : Progress) → ◌≡◌ {A = Progress} (record { found = found ++ pom ∷ []; waiting = own ++ waiting }) p → LeadsTo world l pom → is_met found pom.path ≡ false → listed_by world given pom ≡ Ok own
          → (AreApart (found ++ pom ∷ []) → AreMore room (found ++ pom ∷ []) (own ++ waiting) poms) → AreMore (suc room) found (l ∷ waiting) poms
      step pom own p same leads new lists rest =
          let m = rest (one_more found pom apart new) in
          let s = split m.are own waiting refl in
          let long : suc (length m.more) ≤ suc room = omega (arith, m.few) in
          record {
            more = pom ∷ m.more;
            is = m.is ∙ append_assoc found (pom ∷ []) m.more;
            are = subst (λ x. AreListed world given (l ∷ waiting) (pom ∷ x)) (sym s.is) (one_module l waiting own pom s.front s.back leads lists s.firsts s.seconds);
            few = long;
            apart = m.apart;
          }

  -- the root
  root_is : (pom : ModulePom) → root world ≡ Ok pom → (pom.path ≡ pom_xml) × IsRead world pom
  root_is pom e =
      let r = bound (taken_up read_pom pom_xml (world.by_path pom_xml)) (or_missing (record { by = pom_xml; text = pom_xml })) pom e in
      by r.0 r.2 (world.by_path pom_xml) refl r.1
    where
      by : (o : Option ModulePom) → or_missing (record { by = pom_xml; text = pom_xml }) o ≡ Ok pom → (there : Option (List ℕ)) → world.by_path pom_xml ≡ there → taken_up read_pom pom_xml (world.by_path pom_xml) ≡ Ok o → (pom.path ≡ pom_xml) × IsRead world pom
      by None is there t at = absurd cc
      by (Some q) is None t at = absurd (none_some q (ok_is None (Some q) (sym (ap (taken_up read_pom pom_xml) t) ∙ at)))
      by (Some q) is (Some bytes) t at =
          let r = bound (read_pom pom_xml bytes) (λ p. Ok (Some p)) (Some q) (sym (ap (taken_up read_pom pom_xml) t) ∙ at) in
          let same = some_is r.0 q (ok_is (Some r.0) (Some q) r.2) ∙ ok_is q pom is in
          read_is pom_xml bytes pom t (subst (λ p. read_pom pom_xml bytes ≡ Ok p) same r.1)

  -- what was read of a POM is what is at its path
  pub named_there : (l : Listed) (found : List ModulePom) (pom : ModulePom) → named world read_pom l found ≡ Ok pom → read_at world pom.path ≡ Ok (Some pom.raw)
  named_there l found pom e = read_there pom (named_is l found pom e).0.is_read

  pub root_there : (pom : ModulePom) → root world ≡ Ok pom → read_at world pom.path ≡ Ok (Some pom.raw)
  root_there pom e = read_there pom (root_is pom e).1

  pub is_project : (poms : List ModulePom) → discovered world given ≡ Ok poms → IsProject world given poms
  is_project poms e =
      let b = bound (begun world given) (λ (p : Progress). collected world given most_modules p.found p.waiting) poms e in
      let r = bound (root world) (with_pom world given [] []) b.0 b.1 in
      let own = bound (listed_by world given r.0) (λ modules. Ok (record { found = r.0 ∷ []; waiting = modules ++ [] })) b.0 r.2 in
      let at = root_is r.0 r.1 in
      let whole : collected world given most_modules (r.0 ∷ []) own.0 ≡ Ok poms = subst (λ w. collected world given most_modules (r.0 ∷ []) w ≡ Ok poms) (append-nil own.0) (subst (λ (p : Progress). collected world given most_modules p.found p.waiting ≡ Ok poms) (sym (ok_is _ b.0 own.2)) b.2) in
      let m = more_are most_modules (r.0 ∷ []) own.0 poms (one_more [] r.0 no_pom refl) whole in
      let long : length (r.0 ∷ m.more) ≤ 1 + most_modules = omega (arith, m.few) in
      record { root = r.0; own = own.0; rest = m.more; begins = m.is; at = at.0; is_read = at.1; lists = own.1; are_listed = m.are; apart = m.apart; few = subst (λ x. length x ≤ 1 + most_modules) (sym m.is) long }

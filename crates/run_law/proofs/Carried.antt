-- What the sequential build carries answers a fetched name as the start and the remote do.
use Rattle.std.proofs.Common.{◌≡◌, ℕ, Bool, true, false, not, ◌||◌, nat_eq, cond, List, [], ◌∷◌, find, Option, Some, None, is_some, option_map, refl, sym, ap, subst, ◌∙◌, if◌then◌else◌}
use Rattle.std.specs.Option.{option_or}
use Rattle.std.specs.FinMap as finite
use Rattle.std.specs.Ordering.{eq_by_cmp, is_eq, nat_cmp}
use Rattle.std.specs.declared.cmp.Ordering.{Ordering}
use Rattle.std.specs.declared.cmp.Ordering.TheVariants.{Less, Equal, Greater}
use Rattle.std.specs.Cmp.{eq_by_cmp_equiv}
use Rattle.std.specs.Cmp.Lexicographic.{slice_cmp, nat_list_cmp_total}
use Rattle.std.proofs.lemmas.Bool.{eqb-true, false≢true}
use Rattle.mvn_shared.specs.Files.{Files, file_at}
use Rattle.build_core.specs.declared.plan.Plan.{Plan}
use Rattle.build_core.specs.OneThread.{Fetched, fetched, name_of, remote_bytes, with_fetched}
use Rattle.scripts.specs.Outlines.{is_listed}
use Rattle.run_law.proofs.Once.{find_same}
use Rattle.event_core.proofs.Weights.{nothing_is}

-- the bytes that a name has with these files and the remote
abbrev pub had : Files → Files → List ℕ → Option (List ℕ)
had remote files name = option_or (file_at files name) (remote_bytes remote name)

-- what stands at a name behind a put
pub at_insert : (files : Files) (name bytes q : List ℕ) → file_at (finite.insert files name bytes) q ≡ cond (eq_by_cmp (slice_cmp nat_cmp) q name) (Some bytes) (file_at files q)
at_insert files name bytes q = finite.get-insert nat_list_cmp_total files name bytes q

-- names that compare equal are equal
pub same_name : (q name : List ℕ) → eq_by_cmp (slice_cmp nat_cmp) q name ≡ true → q ≡ name
same_name q name is = finite.slice_cmp-IsAntisymmetric finite.nat_cmp-IsAntisymmetric q name (equal (slice_cmp nat_cmp q name) is)
  where
    equal : (r : Ordering) → is_eq r ≡ true → r ≡ Equal
    equal Less e = absurd (false≢true e)
    equal Equal e = refl
    equal Greater e = absurd (false≢true e)

-- a name compares equal with itself
pub name_itself : (name : List ℕ) → eq_by_cmp (slice_cmp nat_cmp) name name ≡ true
name_itself name = (eq_by_cmp_equiv nat_list_cmp_total).refl name

pub record IsPut (remote files more : Files) (name : List ℕ) : Type 0 where
  pub alike : (q : List ℕ) → had remote more q ≡ had remote files q
  pub here : file_at more name ≡ had remote files name
  pub is : is_some (file_at more name) ≡ true
  pub kept : (q : List ℕ) → is_some (file_at files q) ≡ true → file_at more q ≡ file_at files q

module _ (remote : Files) where
  -- what putting a fetched file makes of the files
  abbrev pub Puts : Files → List ℕ → Option Files → Type 0
  Puts files name None = had remote files name ≡ None
  Puts files name (Some more) = IsPut remote files more name

  -- putting what the remote has for a name that wasn't there is such a put
  put_new : (files : Files) (name bytes : List ℕ) → file_at files name ≡ None → remote_bytes remote name ≡ Some bytes → IsPut remote files (finite.insert files name bytes) name
  put_new files name bytes none got = record {
    alike = λ q. by q (eq_by_cmp (slice_cmp nat_cmp) q name) refl;
    here = now ∙ sym (ap (λ o. option_or o (remote_bytes remote name)) none ∙ got);
    is = ap is_some now;
    kept = λ q some. keeps q some (eq_by_cmp (slice_cmp nat_cmp) q name) refl;
  }
    where
      now : file_at (finite.insert files name bytes) name ≡ Some bytes
      now = at_insert files name bytes name ∙ ap (λ b. cond b (Some bytes) (file_at files name)) (name_itself name)

      by : (q : List ℕ) (b : Bool) → eq_by_cmp (slice_cmp nat_cmp) q name ≡ b → had remote (finite.insert files name bytes) q ≡ had remote files q
      by q true e =
          let same = same_name q name e in
          subst (λ x. had remote (finite.insert files name bytes) x ≡ had remote files x) (sym same) (ap (λ o. option_or o (remote_bytes remote name)) now ∙ sym (ap (λ o. option_or o (remote_bytes remote name)) none ∙ got))
      by q false e = ap (λ o. option_or o (remote_bytes remote q)) (at_insert files name bytes q ∙ ap (λ b. cond b (Some bytes) (file_at files q)) e)

      keeps : (q : List ℕ) → is_some (file_at files q) ≡ true → (b : Bool) → eq_by_cmp (slice_cmp nat_cmp) q name ≡ b → file_at (finite.insert files name bytes) q ≡ file_at files q
      keeps q some true e = absurd (false≢true (sym (ap is_some none) ∙ subst (λ x. is_some (file_at files x) ≡ true) (same_name q name e) some))
      keeps q some false e = at_insert files name bytes q ∙ ap (λ b. cond b (Some bytes) (file_at files q)) e

  -- so is fetching a name
  pub put : (files : Files) (name : List ℕ) → Puts files name (with_fetched remote name files)
  put files name = by (file_at files name) (remote_bytes remote name) refl refl
    where
      by : (a b : Option (List ℕ)) → file_at files name ≡ a → remote_bytes remote name ≡ b → Puts files name (if is_some a then Some files else option_map (finite.insert files name) b)
      by (Some bytes) b e got = record { alike = λ q. refl; here = e ∙ sym (ap (λ o. option_or o (remote_bytes remote name)) e); is = ap is_some e; kept = λ q some. refl }
      by None (Some bytes) e got = put_new files name bytes e got
      by None None e got = ap (λ o. option_or o (remote_bytes remote name)) e ∙ got

  -- and fetching a list
  pub record IsFetched (plan : Plan) (list : List ℕ) (files : Files) (got : Fetched) : Type 0 where
    pub missing : got.missing ≡ find (λ f. not (is_some (had remote files (name_of plan f)))) list
    pub alike : (q : List ℕ) → had remote got.files q ≡ had remote files q
    pub kept : (q : List ℕ) → is_some (file_at files q) ≡ true → file_at got.files q ≡ file_at files q
    pub there : got.missing ≡ None → (f : ℕ) → is_listed f list ≡ true → file_at got.files (name_of plan f) ≡ had remote files (name_of plan f)

  -- fetching a list stops at the first that can't be had, and leaves what can be had as it was
  pub fetch_all : (plan : Plan) (list : List ℕ) (files : Files) → IsFetched plan list files (fetched plan remote list files)
  fetch_all plan [] files = record { missing = refl; alike = λ q. refl; kept = λ q some. refl; there = λ none f is. absurd (false≢true is) }
  fetch_all plan (file ∷ list) files = by (with_fetched remote (name_of plan file) files) (put files (name_of plan file)) (λ more. fetch_all plan list more)
    where
      name : List ℕ
      name = name_of plan file

      by : (found : Option Files) → Puts files (name_of plan file) found → ((more : Files) → IsFetched plan list more (fetched plan remote list more)) → IsFetched plan (file ∷ list) files (elim found [ None ↦ record { files = files; missing = Some file } | Some more ↦ fetched plan remote list more ])
      by None none rest = record { missing = sym (ap (λ o. if not (is_some o) then Some file else find (λ f. not (is_some (had remote files (name_of plan f)))) list) none); alike = λ q. refl; kept = λ q some. refl; there = λ gone f is. absurd (nothing_is file (sym gone)) }
      by (Some more) is rest =
          let again = rest more in
          let found : is_some (had remote files name) ≡ true = ap is_some (sym is.here) ∙ is.is in
          record {
            missing = again.missing ∙ find_same (λ f. not (is_some (had remote more (name_of plan f)))) (λ f. not (is_some (had remote files (name_of plan f)))) list (λ f l. ap (λ o. not (is_some o)) (is.alike (name_of plan f))) ∙ sym (ap (λ b. if not b then Some file else find (λ f. not (is_some (had remote files (name_of plan f)))) list) found);
            alike = λ q. again.alike q ∙ is.alike q;
            kept = λ q some. again.kept q (ap is_some (is.kept q some) ∙ some) ∙ is.kept q some;
            there = λ none f l. whose (fetched plan remote list more).files f (nat_eq file f) refl l (again.kept name is.is ∙ is.here) (λ l. again.there none f l ∙ is.alike (name_of plan f));
          }
        where
          whose : (after : Files) → (f : ℕ) → (b : Bool) → nat_eq file f ≡ b → (b || is_listed f list) ≡ true → file_at after name ≡ had remote files name → (is_listed f list ≡ true → file_at after (name_of plan f) ≡ had remote files (name_of plan f)) → file_at after (name_of plan f) ≡ had remote files (name_of plan f)
          whose after f true e l here later = subst (λ x. file_at after (name_of plan x) ≡ had remote files (name_of plan x)) (eqb-true file f e) here
          whose after f false e l here later = later l

-- What a POM is refused for is the first of all that is wrong in it.
use Rattle.std.proofs.Common.{◌≡◌, ◌↔◌, ℕ, List, [], Option, Some, None, Result, Ok, Err, slice_get, sym, ap, ◌∙◌}
use Rattle.mvn_base.specs.declared.refusal.PomId.{PomId}
use Rattle.mvn_base.specs.declared.refusal.Refusal.{Refusal}
use Rattle.model_types.specs.declared.model.RawModel.{RawModel}
use Rattle.pom_text.specs.declared.node.Node.{Node}
use Rattle.pom_text.specs.Texts.{IsText}
use Rattle.pom_model.specs.Faults.{first_fault}
use Rattle.pom_model.specs.Fields.{model}
use Rattle.pom_model.specs.Raw.{raw, refusal, unless}
use Rattle.model_laws.specs.Breaks.{HasNone, IsFirst, IsWrong, IsWrongAbove, Told}
use Rattle.model_laws.specs.Refused.{IsRefusedFor, refusal_of}
use Rattle.model_laws.proofs.Firsts.{all_least}
use Rattle.model_laws.proofs.Least.{Fault, IsLeast}
use Rattle.model_laws.proofs.Levels.{levels}
use Rattle.model_laws.proofs.Told.{one_first}

ok_err : {A B : Type 0} (x : A) (y : B) → ◌≡◌ {A = Result A B} (Ok x) (Err y) → ⊥
ok_err x y e = cc

ok_is : {A B : Type 0} (x y : A) → ◌≡◌ {A = Result A B} (Ok x) (Ok y) → x ≡ y
ok_is x y e = cc

err_is : {A B : Type 0} (x y : B) → ◌≡◌ {A = Result A B} (Err x) (Err y) → x ≡ y
err_is x y e = cc

abbrev IsRefused : List Node → PomId → Refusal → Type 0
IsRefused nodes pom told = IsRefusedFor (IsWrongAbove nodes) pom told

abbrev IsRead : List Node → PomId → RawModel → Type 0
IsRead nodes pom said = HasNone (IsWrongAbove nodes) × (said ≡ model nodes pom (slice_get nodes 0))

pub refused_exactly : (nodes : List Node) (pom : PomId) (told : Refusal) → (raw nodes pom ≡ Err told) ↔ IsRefusedFor (IsWrongAbove nodes) pom told
unfolding raw
refused_exactly nodes pom told = (to (first_fault nodes) (all_least nodes), from (first_fault nodes) (all_least nodes))
  where
    to : (o : Option Fault) → IsLeast (IsWrongAbove nodes) o → unless o nodes pom ≡ Err told → IsRefused nodes pom told
    to (Some fault) x e = record { told = x.told; first = x.least; is = sym (err_is (refusal pom fault) told e) ∙ x.sees [] pom }
    to None x e = absurd (ok_err (model nodes pom (slice_get nodes 0)) told e)

    from : (o : Option Fault) → IsLeast (IsWrongAbove nodes) o → IsRefused nodes pom told → unless o nodes pom ≡ Err told
    from (Some fault) x r = ap Err (x.sees [] pom ∙ ap (refusal_of pom) (one_first nodes x.told r.told x.least r.first) ∙ sym r.is)
    from None x r = absurd (x r.first.place r.first.turn r.told r.first.has)

pub read_exactly : (nodes : List Node) (pom : PomId) (said : RawModel) → (raw nodes pom ≡ Ok said) ↔ (HasNone (IsWrongAbove nodes) × (said ≡ model nodes pom (slice_get nodes 0)))
unfolding raw
read_exactly nodes pom said = (to (first_fault nodes) (all_least nodes), from (first_fault nodes) (all_least nodes))
  where
    to : (o : Option Fault) → IsLeast (IsWrongAbove nodes) o → unless o nodes pom ≡ Ok said → IsRead nodes pom said
    to (Some fault) x e = absurd (ok_err said (refusal pom fault) (sym e))
    to None x e = (x, sym (ok_is (model nodes pom (slice_get nodes 0)) said e))

    from : (o : Option Fault) → IsLeast (IsWrongAbove nodes) o → IsRead nodes pom said → unless o nodes pom ≡ Ok said
    from (Some fault) x r = absurd (r.0 x.least.place x.least.turn x.told x.least.has)
    from None x r = ap Ok (sym r.1)

-- of a text all that is wrong stands in the first levels
module _ (bytes : List ℕ) (nodes : List Node) (t : IsText bytes nodes) where
  above : (told : Told) → IsFirst (IsWrong nodes) told → IsFirst (IsWrongAbove nodes) told
  above told f = record { place = f.place; turn = f.turn; has = (f.has, levels bytes nodes f.place f.turn told t f.has); first = λ q l g w. f.first q l g w.0 }

  of_all : (told : Told) → IsFirst (IsWrongAbove nodes) told → IsFirst (IsWrong nodes) told
  of_all told f = record { place = f.place; turn = f.turn; has = f.has.0; first = λ q l g w. f.first q l g (w, levels bytes nodes q l g t w) }

  pub text_refused : (pom : PomId) (told : Refusal) → (raw nodes pom ≡ Err told) ↔ IsRefusedFor (IsWrong nodes) pom told
  text_refused pom told =
      let all = refused_exactly nodes pom told in (
        λ e. let r = all.0 e in record { told = r.told; first = of_all r.told r.first; is = r.is },
        λ r. all.1 (record { told = r.told; first = above r.told r.first; is = r.is }),
      )

  pub text_read : (pom : PomId) (said : RawModel) → (raw nodes pom ≡ Ok said) ↔ (HasNone (IsWrong nodes) × (said ≡ model nodes pom (slice_get nodes 0)))
  text_read pom said =
      let all = read_exactly nodes pom said in (
        λ e. let r = all.0 e in (λ q l g w. r.0 q l g (w, levels bytes nodes q l g t w), r.1),
        λ r. all.1 (λ q l g w. r.0 q l g w.0, r.1),
      )

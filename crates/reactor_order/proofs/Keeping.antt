-- Soft edges one after another.
use Rattle.std.proofs.Common.{◌≡◌, inl, inr, ℕ, suc, ◌+◌, ◌<◌, Bool, true, false, ◌==◌, ◌||◌, List, [], ◌∷◌, ◌++◌, length, get_or, drop, refl, sym, ap, subst, ◌∙◌, arith}
use Rattle.std.proofs.Math.Seq.{drop-cons}
use Rattle.reactor_order.specs.Graph.{Edges}
use Rattle.reactor_order.specs.Keep.{Closes, Keeps, Tries}

-- what is kept so far: the rest goes on from it
pub record KeepsOn (firm soft : Edges) (i : ℕ) (kept : Edges) : Type 0 where
  pub on : (result : Edges) → Keeps kept (drop i soft) result → Keeps firm soft result

pub keeps_first : (firm soft : Edges) → KeepsOn firm soft 0 firm
keeps_first firm soft = record { on = λ result k. k }

at_edge : (soft : Edges) (i : ℕ) (kept result : Edges) → i < length soft → Keeps kept (get_or soft i (0, 0) ∷ drop (i + 1) soft) result → Keeps kept (drop i soft) result
at_edge soft i kept result low k =
    let one : i + 1 ≡ suc i = omega arith in
    subst (λ es. Keeps kept es result) (ap (λ n. get_or soft i (0, 0) ∷ drop n soft) one ∙ sym (drop-cons soft i (0, 0) low)) k

pub keeps_out : (firm soft : Edges) (i : ℕ) (kept : Edges) → i < length soft → KeepsOn firm soft i kept → Closes kept (get_or soft i (0, 0)) → KeepsOn firm soft (i + 1) kept
keeps_out firm soft i kept low so_far closes = record { on = λ result k. so_far.on result (at_edge soft i kept result low (inl (closes, k))) }

pub keeps_in : (firm soft : Edges) (i : ℕ) (kept : Edges) → i < length soft → KeepsOn firm soft i kept → ¬ (Closes kept (get_or soft i (0, 0))) → KeepsOn firm soft (i + 1) (kept ++ get_or soft i (0, 0) ∷ [])
keeps_in firm soft i kept low so_far apart = record { on = λ result k. so_far.on result (at_edge soft i kept result low (inr (apart, k))) }

pub keeps_step : (firm soft : Edges) (i : ℕ) (kept now : Edges) → i < length soft → KeepsOn firm soft i kept → Tries kept (get_or soft i (0, 0)) now → KeepsOn firm soft (i + 1) now
keeps_step firm soft i kept now low so_far (inl (closes, same)) = subst (KeepsOn firm soft (i + 1)) (sym same) (keeps_out firm soft i kept low so_far closes)
keeps_step firm soft i kept now low so_far (inr (apart, more)) = subst (KeepsOn firm soft (i + 1)) (sym more) (keeps_in firm soft i kept low so_far apart)

-- Kept edges are between modules.
use Rattle.std.proofs.Common.{◌≡◌, ◌⊎◌, inl, inr, ℕ, zero, suc, ◌<◌, List, [], ◌∷◌, ◌++◌, length, sym, subst, arith}
use Rattle.reactor_order.specs.Graph.{AreEdgesBelow, Edges}
use Rattle.reactor_order.specs.Keep.{Keeps}

-- one edge more
push_below : (n : ℕ) (kept : Edges) (e : ℕ × ℕ) → AreEdgesBelow n kept → (e.0 < n) × (e.1 < n) → AreEdgesBelow n (kept ++ e ∷ [])
push_below n [] e k s zero lt = s
push_below n [] e k s (suc i) lt = absurd (omega (arith, lt))
push_below n (x ∷ kept) e k s zero lt = k 0 (omega arith)
push_below n (x ∷ kept) e k s (suc i) lt = push_below n kept e (λ j low. k (suc j) (omega (arith, low))) s i (omega (arith, lt))

pub keeps_below : (n : ℕ) (kept soft result : Edges) → AreEdgesBelow n kept → AreEdgesBelow n soft → Keeps kept soft result → AreEdgesBelow n result
keeps_below n kept [] result k s e = subst (AreEdgesBelow n) (sym e) k
keeps_below n kept (e ∷ soft) result k s (inl closes) = keeps_below n kept soft result k (λ j low. s (suc j) (omega (arith, low))) closes.1
keeps_below n kept (e ∷ soft) result k s (inr opens) = keeps_below n (kept ++ e ∷ []) soft result (push_below n kept e k (s 0 (omega arith))) (λ j low. s (suc j) (omega (arith, low))) opens.1

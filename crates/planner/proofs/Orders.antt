-- The checks of an order: what clears them, and what they leave. No other law says what they are.
-- Assumes nothing.
use mathlib.Core.List.{List}
use mathlib.Core.Path.{◌≡◌, sym, subst}
use Prim.Native.Nat.{ℕ, ◌<◌}
use native.Mathlib.Omega.{arith}
use Rattle.schedule.specs.Listed.{Chain, join}
use Rattle.schedule.proofs.Tests.{lt_by}
use Rattle.refusal.specs.Table.{Clear}
use Rattle.planner.specs.Requests.{held_checks, loop_checks}

module _ (place size a b : ℕ) where
  pub held_clear : a < size → b < size → Clear (held_checks place size a b)
  held_clear la lb = ((λ x. omega arith), λ x. omega arith)

  pub held_left : Clear (held_checks place size a b) → (a < size) × (b < size)
  held_left f = (lt_by a size f.0, lt_by b size f.1)

module _ (place : ℕ) (orders : List (ℕ × ℕ)) (a b : ℕ) where
  pub loop_clear : (a ≡ b → ⊥) → (Chain orders b a → ⊥) → Clear (loop_checks place orders a b)
  loop_clear apart free = (apart, free)

  pub loop_left : Clear (loop_checks place orders a b) → (a ≡ b → ⊥) × (Chain orders b a → ⊥)
  loop_left f = f

  -- an order that already follows from orders without a loop closes none with some of them
  pub loop_none : (all : List (ℕ × ℕ)) → ((x : ℕ) → Chain all x x → ⊥) → ((x y : ℕ) → Chain orders x y → Chain all x y) → Chain all a b → Clear (loop_checks place orders a b)
  loop_none all loopless some c = loop_clear (λ e. loopless a (subst (Chain all a) (sym e) c)) (λ back. loopless a (join c (some b a back)))

-- How late: the least maximum lateness of a list (02, A2).
-- A whole number that may be below 0 is told as y - off, by two numbers that are not.
-- Assumes nothing.
use Rattle.std.specs.Prelude.{◌⊎◌, ◌≡◌, ℕ, ◌+◌, ◌-◌, ◌≤◌, ◌<◌, T}
use Rattle.schedule.specs.Jobs.{Jobs}
use Rattle.schedule.specs.Plan.{Valid, HasPlan}
use Rattle.schedule.specs.Clock.{Clock, Clocked, HasClocked}

-- no job's end minus its deadline is above y - off (02, A2: "its end minus its deadline")
pub record LateBy (J : Jobs) (due : ℕ → ℕ) (off y : ℕ) (slot : ℕ → ℕ) : Type 0 where
  pub ends : (i : ℕ) → i < J.size → slot i + 1 + off ≤ due i + y

-- some valid plan is late by y - off at most, and none by less (02, A2: "the least maximum lateness", "no valid plan does better")
pub record Lateness (m : ℕ) (J : Jobs) (due : ℕ → ℕ) (off y : ℕ) : Type 0 where
  pub reached : (slot : ℕ → ℕ) × Valid m J slot × LateBy J due off y slot
  pub least : (slot : ℕ → ℕ) → Valid m J slot → (z : ℕ) → LateBy J due off z slot → y ≤ z

-- the deadlines moved by y - off; one that would fall below 0 is 0, by which no job ends (02, A2: "by which all deadlines can be moved")
unfoldable pub moved : (ℕ → ℕ) → ℕ → ℕ → ℕ → ℕ
moved due off y i = due i + y - off

-- some valid plan meets the deadlines so moved (02, A2: "so that a valid plan exists")
abbrev pub Movable : ℕ → Jobs → (ℕ → ℕ) → ℕ → ℕ → Type 0
Movable m J due off y = HasPlan m J (moved due off y)

-- the same in time: some schedule meets the deadlines so moved, and in every one some job ends as late as that, or later; y is 0 only where off is too small to tell less, or for no jobs
pub record ClockedLateness (C : Clock) (m : ℕ) (J : Jobs) (due : ℕ → ℕ) (off y : ℕ) : Type 0 where
  pub reached : HasClocked C m J (moved due off y)
  pub least : (time : ℕ → C.Time) → Clocked C m J time →
      (y ≡ 0) ⊎ ((i : ℕ) × (i < J.size) × T (C.upto (C.begin (moved due off y i)) (C.later (time i))))

-- a list within the limits (01, Numbers and limits)
pub record InLimits (J : Jobs) (due : ℕ → ℕ) : Type 0 where
  pub few : J.size ≤ 64
  pub start : (i : ℕ) → i < J.size → J.start i ≤ 4095
  pub above : (i : ℕ) → i < J.size → 1 ≤ due i
  pub below : (i : ℕ) → i < J.size → due i ≤ 4096

-- the lateness is from -4,095 to 4,158 (02, A2)
pub record Ranged (y : ℕ) : Type 0 where
  pub low : 4096 ≤ y + 4095
  pub high : y ≤ 4158 + 4096

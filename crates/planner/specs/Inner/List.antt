-- The last check of a whole list, in lent rows.
-- Assumes nothing.
use Rattle.std.specs.Prelude.{List, ◌≡◌, ℕ, ◌≤◌, ◌<◌, T, length, get_or}
use Rattle.schedule.specs.Jobs.{Closed, Loopless}
use Rattle.schedule.specs.Plan.{HasPlan}
use Rattle.schedule.specs.Times.{Earliest, Latest}
use Rattle.sets.specs.Sets.{has}
use Rattle.book.specs.Told.{cores, jobs_in, row_in}
use Rattle.refusal.specs.Table.{check, Table}
use Rattle.planner.specs.List.{Judged, judged, TurnedDown}

-- rows of a list that has passed every check but the last: what tightening asks of them
pub record Judgeable (starts deadlines before : List ℕ) : Type 0 where
  pub even : length starts ≡ length deadlines
  pub few : length starts ≤ 64
  pub rows : length before ≡ 64
  pub early : (i : ℕ) → i < length starts → get_or starts i 0 ≤ 4095
  pub late : (i : ℕ) → i < length starts → get_or deadlines i 0 ≤ 4096
  pub closed : Closed (jobs_in (length starts) starts before)
  pub loopless : Loopless (jobs_in (length starts) starts before)
  pub held : (a b : ℕ) → T (has (get_or before b 0) a) → (a < length starts) × (b < length starts)

-- the first entries of a row, and the rest as it was
pub record Hands (size : ℕ) (times row after : List ℕ) : Type 0 where
  pub same_length : length after ≡ length row
  pub front : (i : ℕ) → i < size → get_or after i 0 ≡ get_or times i 0
  pub rest : (i : ℕ) → size ≤ i → get_or after i 0 ≡ get_or row i 0

-- accepted with 0: the latest times in the receiving row
pub record Settled (starts deadlines before row : List ℕ) (r : Judged) : Type 0 where
  pub accepts : r ≡ judged r.row 0 0
  pub times : List ℕ
  pub latest : (early : ℕ → ℕ) → Earliest (jobs_in (length starts) starts before) early → Latest cores (jobs_in (length starts) starts before) early (row_in deadlines) (row_in times)
  pub handed : Hands (length starts) times row r.row

-- 4 where no plan meets the deadlines, and the row as it was; else the latest times
abbrev pub Settles : List ℕ → List ℕ → List ℕ → List ℕ → Judged → Type 0
Settles starts deadlines before row =
    Table (check 4 0 (HasPlan cores (jobs_in (length starts) starts before) (row_in deadlines) → ⊥)) (TurnedDown row) (Settled starts deadlines before row)

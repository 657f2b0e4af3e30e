-- Earliest times, consistent rows and latest times (01, Tightened deadlines; 001, section 2).
-- Assumes nothing.
use Rattle.std.specs.Prelude.{Bool, not, ◌&&◌, ◌||◌, ℕ, ◌+◌, ◌-◌, ◌*◌, ◌/◌, ◌≤◌, ◌<◌, T, eqb, leb}
use Rattle.schedule.specs.Count.{count}
use Rattle.schedule.specs.Jobs.{Jobs}

-- nowhere below the starts, and every job at least 1 above each job that precedes it (01, Tightened deadlines)
pub record Raised (J : Jobs) (row : ℕ → ℕ) : Type 0 where
  pub above : (i : ℕ) → i < J.size → J.start i ≤ row i
  pub apart : (a b : ℕ) → a < J.size → b < J.size → T (J.before a b) → row a + 1 ≤ row b

-- the least such row (01, Tightened deadlines: "The earliest times")
pub record Earliest (J : Jobs) (early : ℕ → ℕ) : Type 0 where
  pub raised : Raised J early
  pub least : (row : ℕ → ℕ) → Raised J row → (i : ℕ) → i < J.size → early i ≤ row i

-- a job i and whole numbers s, d with earliest(i) ≤ s ≤ deadline(i) ≤ d (01, Tightened deadlines)
pub record Within (J : Jobs) (early row : ℕ → ℕ) (i s d : ℕ) : Type 0 where
  pub job : i < J.size
  pub from : early i ≤ s
  pub till : s ≤ row i
  pub by : row i ≤ d

-- job j is other than i, has deadline(j) ≤ d, and either is preceded by i or has earliest(j) ≥ s (01, Tightened deadlines)
abbrev pub presses : Jobs → (ℕ → ℕ) → (ℕ → ℕ) → ℕ → ℕ → ℕ → ℕ → Bool
presses J early row i s d j = not (eqb j i) && leb (row j) d && (J.before i j || leb s (early j))

-- how many jobs do so (01, Tightened deadlines: "N(i, s, d)")
unfoldable pub N : Jobs → (ℕ → ℕ) → (ℕ → ℕ) → ℕ → ℕ → ℕ → ℕ
N J early row i s d = count J.size (presses J early row i s d)

-- every deadline is at least its job's earliest time + 1 (01, Tightened deadlines: "A row is consistent if")
abbrev pub Open : Jobs → (ℕ → ℕ) → (ℕ → ℕ) → Type 0
Open J early row = (i : ℕ) → i < J.size → early i + 1 ≤ row i

-- N(i, s, d) ≥ m(d - s), where s ≤ d (01, Tightened deadlines: "N(i, s, d) ≥ 2(d − s)")
abbrev pub Full : ℕ → Jobs → (ℕ → ℕ) → (ℕ → ℕ) → ℕ → ℕ → ℕ → Type 0
Full m J early row i s d = m * (d - s) ≤ N J early row i s d

-- n/m rounded up (01, Tightened deadlines: "N/2 rounded up")
unfoldable pub up : ℕ → ℕ → ℕ
up m n = (n + (m - 1)) / m

-- so, and for every such i, s, d: if N(i, s, d) ≥ m(d - s), then deadline(i) ≤ d - N/m, as a sum, lest it fall below 0 (01, Tightened deadlines)
pub record Consistent (m : ℕ) (J : Jobs) (early row : ℕ → ℕ) : Type 0 where
  pub window : Open J early row
  pub rule : (i s d : ℕ) → Within J early row i s d → Full m J early row i s d → row i + up m (N J early row i s d) ≤ d

-- such i, s, d at which a row breaks this rule (01, Tightened deadlines)
pub record Breach (m : ℕ) (J : Jobs) (early row : ℕ → ℕ) (i s d : ℕ) : Type 0 where
  pub within : Within J early row i s d
  pub full : Full m J early row i s d
  pub over : d < row i + up m (N J early row i s d)

-- what deadline(i) is lowered to there: d - N/m, and 0 where that is below 0 (01, Tightened deadlines)
unfoldable pub left : ℕ → Jobs → (ℕ → ℕ) → (ℕ → ℕ) → ℕ → ℕ → ℕ → ℕ
unfolding N up
left m J early row i s d = d - up m (N J early row i s d)

-- nowhere above (01, Tightened deadlines: "beneath its deadlines")
abbrev pub Beneath : Jobs → (ℕ → ℕ) → (ℕ → ℕ) → Type 0
Beneath J low row = (i : ℕ) → i < J.size → low i ≤ row i

-- the greatest consistent row that is nowhere above the deadlines given (01, Tightened deadlines: "The latest times of a list")
pub record Latest (m : ℕ) (J : Jobs) (early due row : ℕ → ℕ) : Type 0 where
  pub consistent : Consistent m J early row
  pub beneath : Beneath J row due
  pub greatest : (other : ℕ → ℕ) → Consistent m J early other → Beneath J other due → Beneath J other row

-- some consistent row lies beneath the deadlines (01, Tightened deadlines: "A list with no consistent row beneath its deadlines")
abbrev pub HasRow : ℕ → Jobs → (ℕ → ℕ) → (ℕ → ℕ) → Type 0
HasRow m J early due = (row : ℕ → ℕ) × Consistent m J early row × Beneath J row due

-- What makes a book of lent memory, test by test.
-- Assumes nothing.
use Rattle.std.specs.Prelude.{List, ◌≡◌, ℕ, ◌≤◌, ◌<◌, T, get_or}
use Rattle.schedule.specs.Times.{Earliest, Consistent}
use Rattle.sets.specs.Sets.{has}
use Rattle.book.specs.Told.{Book, cores, jobs_of, latest_of}

-- times of the jobs held at most a limit, and 0 beyond
pub record Limits (size limit : ℕ) (row : List ℕ) : Type 0 where
  pub low : (i : ℕ) → i < size → get_or row i 0 ≤ limit
  pub rest : (i : ℕ) → size ≤ i → get_or row i 0 ≡ 0

-- every job of one set is in the other
abbrev pub Sub : ℕ → ℕ → Type 0
Sub set all = (j : ℕ) → T (has set j) → T (has all j)

-- set b is of jobs held, without b, and has what precedes its jobs
pub record ChainedAt (size : ℕ) (before : List ℕ) (b : ℕ) : Type 0 where
  pub inside : (a : ℕ) → T (has (get_or before b 0) a) → (a < size) × (b < size)
  pub free : T (has (get_or before b 0) b) → ⊥
  pub joins : (a : ℕ) → T (has (get_or before b 0) a) → Sub (get_or before a 0) (get_or before b 0)

-- few jobs, times in their limits, and sets that are chained
pub record Regular (k : Book) : Type 0 where
  pub few : k.size ≤ 64
  pub starts : Limits k.size 4095 k.start
  pub latests : Limits k.size 4096 k.latest
  pub chained : (b : ℕ) → b < 64 → ChainedAt k.size k.before b

-- the latest times are consistent
abbrev pub Steady : Book → Type 0
Steady k = (early : ℕ → ℕ) → Earliest (jobs_of k) early → Consistent cores (jobs_of k) early (latest_of k)

-- A book, and the list that it was told.
-- Assumes nothing.
use Rattle.std.specs.Prelude.{List, [], ◌≡◌, ℕ, ◌≤◌, ◌<◌, T, length, get_or, take, drop}
use Rattle.schedule.specs.Jobs.{Jobs}
use Rattle.schedule.specs.Listed.{Listed, written}
use Rattle.schedule.specs.Book.{Holds}
use Rattle.sets.specs.Sets.{has}

-- the number of cores (01, What the planner covers: "two equal cores")
abbrev pub cores : ℕ
cores = 2

-- how many jobs, their starts and latest times, and for each job the set of those that precede it (01, Requests on a book: "The book holds")
pub record Book : Type 0 where
  pub size : ℕ
  pub start : List ℕ
  pub latest : List ℕ
  pub before : List ℕ

-- 64 entries of a row from a place on
unfoldable pub part : ℕ → List ℕ → List ℕ
part from row = take 64 (drop from row)

-- the book in lent memory: a row of its size, 64 starts and 64 latest times, and 64 sets
abbrev pub book_in : List ℕ → List ℕ → Book
book_in times before = record { size = get_or times 0 0; start = part 1 times; latest = part 65 times; before = before }

-- the jobs that rows spell: a precedes b where a is in set b (01, Requests on a book: "starts .. and which job precedes which")
abbrev pub jobs_in : ℕ → List ℕ → List ℕ → Jobs
jobs_in size start before = record { size = size; start = λ i. get_or start i 0; before = λ a b. has (get_or before b 0) a }

-- a row of times held in a list
abbrev pub row_in : List ℕ → ℕ → ℕ
row_in row i = get_or row i 0

-- the jobs and the latest times of a book (01, Requests on a book: "The book holds")
abbrev pub jobs_of : Book → Jobs
jobs_of k = jobs_in k.size k.start k.before

abbrev pub latest_of : Book → ℕ → ℕ
latest_of k = row_in k.latest

-- rows of 64, and nothing stands beyond the jobs held (01, Numbers and limits: "At most 64 jobs")
pub record Shaped (k : Book) : Type 0 where
  pub few : k.size ≤ 64
  pub starts : length k.start ≡ 64
  pub latests : length k.latest ≡ 64
  pub befores : length k.before ≡ 64
  pub start_rest : (i : ℕ) → k.size ≤ i → get_or k.start i 0 ≡ 0
  pub latest_rest : (i : ℕ) → k.size ≤ i → get_or k.latest i 0 ≡ 0
  pub before_rest : (a b : ℕ) → T (has (get_or k.before b 0) a) → (a < k.size) × (b < k.size)

-- starts and deadlines in their limits (01, Numbers and limits)
pub record Limited (L : Listed) : Type 0 where
  pub start : (i : ℕ) → i < length L.starts → get_or L.starts i 0 ≤ 4095
  pub deadline : (i : ℕ) → i < length L.starts → written L i ≤ 4096

-- a book's fields are what the definition gives for the list L, `Holds` (01, Requests on a book)
pub record Told (k : Book) (L : Listed) : Type 0 where
  pub shaped : Shaped k
  pub limited : Limited L
  pub holds : Holds cores L (jobs_of k) (latest_of k)

-- the list of an empty book (01, Requests on a book: "A book is opened empty")
abbrev pub nothing_listed : Listed
nothing_listed = record { starts = []; deadlines = []; orders = [] }

-- the book holds some list: what a contract may assume of a book (01, Requests on a book: "made by these requests alone")
abbrev pub Made : Book → Type 0
Made k = (L : Listed) × Told k L

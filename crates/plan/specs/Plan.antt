-- The plan of a book, as it is handed out (01, The plan made).
-- Assumes nothing.
use Rattle.std.specs.Prelude.{List, ◌++◌, ◌≡◌, ℕ, ◌*◌, ◌<◌, length, drop}
use Rattle.schedule.specs.Jobs.{Jobs}
use Rattle.schedule.specs.Plan.{finish}
use Rattle.schedule.specs.Make.{slots, seat, bytes}
use Rattle.refusal.specs.Table.{Table, check}
use Rattle.book.specs.Told.{Book, cores, jobs_of, latest_of}

-- no plan has a slot from here on, since no latest time is greater (01, Numbers and limits: "A deadline is 1 to 4,096")
abbrev pub horizon : ℕ
horizon = 4096

-- stands for the slot of a job that has none (01, The plan made: "not yet placed")
abbrev pub unplaced : ℕ
unplaced = 4096

-- each job's slot once the slots before t are served (01, The plan made: "At each slot from 0")
abbrev pub slots_by : ℕ → Jobs → (ℕ → ℕ) → ℕ → ℕ → ℕ
slots_by m J row = slots m J row unplaced

-- the job of core c in slot t (01, The plan made: "core 0 and then core 1")
abbrev pub seat_at : ℕ → Jobs → (ℕ → ℕ) → ℕ → ℕ → ℕ
seat_at m J row = seat m J row unplaced

-- the plan of a book: each job's slot (01, The plan made)
abbrev pub plan_of : Book → ℕ → ℕ
plan_of k = slots_by cores (jobs_of k) (latest_of k) horizon

-- (01, A valid plan: "The finishing time is the greatest slot + 1")
abbrev pub finish_of : Book → ℕ
finish_of k = finish (jobs_of k) (plan_of k)

-- (01, The plan made: "two bytes a slot, core 0 first, from slot 0 to the finishing time; 255 is an idle core")
abbrev pub bytes_of : Book → List ℕ
bytes_of k = bytes (jobs_of k) (latest_of k) unplaced (finish_of k)

-- (01, Numbers of refusal: 8, "bytes needed"; The plan made: "The answer is the finishing time. Bytes beyond the plan stay")
abbrev pub Plans : Book → List ℕ → List ℕ → ℕ → ℕ → Type 0
Plans k old new number value =
    Table {A = ℕ × ℕ × List ℕ} (check 8 (cores * finish_of k) (length old < cores * finish_of k)) (λ n v r. r ≡ (n, v, old))
    (λ r. r ≡ (0, finish_of k, bytes_of k ++ drop (cores * finish_of k) old)) (number, value, new)

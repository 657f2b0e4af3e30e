-- How late a whole list is, and how short a plan of it can be (02, A2).
-- Assumes nothing.
use Rattle.std.specs.Prelude.{List, ◌≡◌, ℕ, ◌<◌, ℤ, pos, length, Result, Ok, Err}
use Rattle.std.proofs.Math.IntN.{sub_ℕ}
use Rattle.schedule.specs.Jobs.{Jobs}
use Rattle.schedule.specs.Listed.{Listed, Reads, written}
use Rattle.schedule.specs.Late.{Lateness}
use Rattle.schedule.specs.Shortest.{Shortest}
use Rattle.refusal.specs.declared.Refusal.{Refusal}
use Rattle.refusal.specs.Says.{reason_number}
use Rattle.refusal.specs.Table.{Checks, check, ◌then◌, Table}
use Rattle.book.specs.Told.{cores}
use Rattle.planner.specs.Requests.{plan_check}
use Rattle.planner.specs.List.{list_of, Uneven, entries_checks}

-- the number, 0 for accepted, and the value of every case, of which a promise says P (01, Code places: "a definition gives this paper's number and values for every case of the enum")
abbrev pub Lates : Result ℤ Refusal → (ℕ → ℤ → Type 0) → Type 0
Lates (Ok slots) P = P 0 slots
Lates (Err refusal) P = P (reason_number refusal.reason) (pos refusal.value)

-- ---- how late
-- "14 lateness of an empty list .. after 7 and 1", "never gives 4"; no row receives, and the rest is a whole list's
abbrev pub late_checks : List ℕ → List ℕ → List ℕ → Checks
late_checks starts deadlines pairs =
    check 7 0 (Uneven starts deadlines pairs)
    then check 1 0 (64 < length starts)
    then check 14 0 (length starts ≡ 0)
    then entries_checks starts deadlines pairs

-- y - 4,096, a whole number that may be below 0
abbrev pub from_origin : ℕ → ℤ
from_origin y = sub_ℕ y 4096

-- accepted: some valid plan of the list is as late as told, and none is less late
pub record LateAs (L : Listed) (r : ℕ × ℤ) : Type 0 where
  pub jobs : Jobs
  pub reads : Reads L jobs
  pub y : ℕ
  pub lateness : Lateness cores jobs (written L) 4096 y
  pub tells : r ≡ (0, from_origin y)

-- what lateness promises
abbrev pub Latens : List ℕ → List ℕ → List ℕ → ℕ → ℤ → Type 0
Latens starts deadlines pairs number value =
    Table {A = ℕ × ℤ} (late_checks starts deadlines pairs) (λ n v r. r ≡ (n, pos v)) (LateAs (list_of starts deadlines pairs)) (number, value)

-- ---- how short
-- the checks of a whole list, but that no row receives; all but 4
abbrev pub lone_checks : List ℕ → List ℕ → List ℕ → Checks
lone_checks starts deadlines pairs = check 7 0 (Uneven starts deadlines pairs) then check 1 0 (64 < length starts) then entries_checks starts deadlines pairs

abbrev pub short_checks : List ℕ → List ℕ → List ℕ → Checks
short_checks starts deadlines pairs = lone_checks starts deadlines pairs then plan_check (list_of starts deadlines pairs)

-- accepted: some valid plan that meets the deadlines finishes then, and none sooner
pub record ShortAs (L : Listed) (r : ℕ × ℕ) : Type 0 where
  pub jobs : Jobs
  pub reads : Reads L jobs
  pub end : ℕ
  pub shortest : Shortest cores jobs (written L) end
  pub tells : r ≡ (0, end)

-- what shortest promises
abbrev pub Shortens : List ℕ → List ℕ → List ℕ → ℕ → ℕ → Type 0
Shortens starts deadlines pairs number value =
    Table {A = ℕ × ℕ} (short_checks starts deadlines pairs) (λ n v r. r ≡ (n, v)) (ShortAs (list_of starts deadlines pairs)) (number, value)

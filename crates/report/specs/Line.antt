-- The lines of the listing (01, Job file).
-- Assumes nothing.
use Rattle.std.specs.Prelude.{cond, ◌&&◌, List, [], ◌∷◌, ℕ, eqb}
use Rattle.text.specs.Text.{word, decimal, joined}

-- "a line for each refused request: record counted from 0, number"; 0 is the number of no refusal, and gives no line
abbrev pub refused_line : ℕ → ℕ → List ℕ
refused_line place number =
    cond (eqb number 0) [] (joined (word "record " ∷ decimal place ∷ word " refused " ∷ decimal number ∷ word "\n" ∷ []))

-- "A stop by 10 or 11 prints `stopped at B refused R` (B the offset)"
abbrev pub stopped_line : ℕ → ℕ → List ℕ
stopped_line offset number = joined (word "stopped at " ∷ decimal offset ∷ word " refused " ∷ decimal number ∷ word "\n" ∷ [])

-- "9 prints `file refused 9` alone"
abbrev pub too_long_line : List ℕ
too_long_line = word "file refused 9\n"

-- "Then jobs held and finishing time"
abbrev pub jobs_line : ℕ → ℕ → List ℕ
jobs_line jobs slots = joined (word "jobs " ∷ decimal jobs ∷ word " slots " ∷ decimal slots ∷ word "\n" ∷ [])

-- a byte of the plan: the job, "`-` for idle"
abbrev pub core : ℕ → List ℕ
core byte = cond (eqb byte 255) (word "-") (decimal byte)

-- "a line for each slot with a job: slot, core 0, core 1"
abbrev pub slot_line : ℕ → ℕ → ℕ → List ℕ
slot_line slot core0 core1 =
    cond (eqb core0 255 && eqb core1 255)
    []
    (joined (word "slot " ∷ decimal slot ∷ word " " ∷ core core0 ∷ word " " ∷ core core1 ∷ word "\n" ∷ []))

-- "a line for each job"
abbrev pub job_line : ℕ → ℕ → ℕ → ℕ → ℕ → List ℕ
job_line job start latest end spare =
    joined
    (word "job " ∷ decimal job ∷ word " start " ∷ decimal start ∷ word " latest " ∷ decimal latest
    ∷ word " end " ∷ decimal end ∷ word " spare " ∷ decimal spare ∷ word "\n" ∷ [])

-- How document 01's example is written, from the values that it shows; and lines that it does not show.
-- Assumes nothing.
use mathlib.Core.List.{[], ◌∷◌, ◌++◌}
use mathlib.Core.Path.{◌≡◌, refl}
use Rattle.text.specs.Text.{word, digits, decimal, each}
use Rattle.report.specs.Line.{stopped_line, jobs_line, job_line}
use Rattle.report.specs.Listing.{refused_lines, slot_lines}

-- the records' numbers, the bytes of the plan and the times of each job are given here; that the file leads to them is not said
-- (01, Job file: "prints, whole, for `JB 0 4, JB 0 4, JB 1 3, OR 0 2, OR 1 2, JB 2 3, JB 2 3, JB 2 3`")
pub example :
    refused_lines (0 ∷ 0 ∷ 0 ∷ 0 ∷ 0 ∷ 0 ∷ 0 ∷ 4 ∷ [])
    ++ jobs_line 5 3
    ++ slot_lines (0 ∷ 1 ∷ 2 ∷ 255 ∷ 3 ∷ 4 ∷ [])
    ++ job_line 0 0 1 1 0
    ++ job_line 1 0 1 1 0
    ++ job_line 2 1 2 2 0
    ++ job_line 3 2 3 3 0
    ++ job_line 4 2 3 3 0
    ≡ word
    "record 7 refused 4\njobs 5 slots 3\nslot 0 0 1\nslot 1 2 -\nslot 2 3 4\njob 0 start 0 latest 1 end 1 spare 0\njob 1 start 0 latest 1 end 1 spare 0\njob 2 start 1 latest 2 end 2 spare 0\njob 3 start 2 latest 3 end 3 spare 0\njob 4 start 2 latest 3 end 3 spare 0\n"
unfolding each decimal digits
example = refl

pub stop_example : stopped_line 48 11 ≡ word "stopped at 48 refused 11\n"
unfolding decimal digits
stop_example = refl

-- (01, The plan made: "255 is an idle core"; a slot with no job has no line)
pub idle_example : slot_lines (255 ∷ 255 ∷ 0 ∷ 255 ∷ []) ≡ word "slot 1 0 -\n"
unfolding each decimal digits
idle_example = refl

-- The lines of the verdict beside those of the listing (02, A2).
-- Assumes nothing.
use Rattle.std.specs.Prelude.{cond, List, [], ◌∷◌, ◌++◌, ℕ, suc, eqb, ℤ, pos, negsuc}
use Rattle.report.specs.Line.{stopped_line, too_long_line}
use Rattle.text.specs.Text.{word, decimal, joined}

-- a signed number: its digits, behind `-` where it is below 0
abbrev pub signed : ℤ → List ℕ
signed (pos n) = decimal n
signed (negsuc n) = word "-" ++ decimal (suc n)

-- "the least maximum lateness of a signed list"
abbrev pub late_line : ℕ → ℤ → List ℕ
late_line jobs slots = joined (word "jobs " ∷ decimal jobs ∷ word " lateness " ∷ signed slots ∷ word "\n" ∷ [])

-- "the shortest finishing time among the valid plans that meet the deadlines": from the number of the answer, 0 where there is one, and the time
abbrev pub short_line : ℕ → ℕ → List ℕ
short_line number slots = cond (eqb number 0) (joined (word "shortest " ∷ decimal slots ∷ word "\n" ∷ [])) (word "no plan\n")

-- a list that is refused, with number and value; 14, "lateness of an empty list", is no mistake of a file
abbrev pub turned_down_line : ℕ → ℤ → List ℕ
turned_down_line number value =
    cond (eqb number 14)
    (word "jobs 0\n")
    (joined (word "list refused " ∷ decimal number ∷ word " at " ∷ signed value ∷ word "\n" ∷ []))

-- a file that is not read to its end: the listing's own lines
abbrev pub stop_line : ℕ → ℕ → List ℕ
stop_line number value = cond (eqb number 9) too_long_line (stopped_line value number)

-- How a verdict is written, and a list gathered, from values that are given here; that a file leads to them is not said.
-- Assumes nothing.
use mathlib.Core.List.{List, [], ◌∷◌, ◌++◌}
use mathlib.Core.Path.{◌≡◌, refl}
use lib.IntN.{pos, negsuc}
use Rattle.records.specs.declared.Record.{Record}
use Rattle.records.specs.declared.Record.TheVariants.{Job, Order, Deadline}
use Rattle.text.specs.Text.{word, digits, decimal}
use Rattle.verdict.specs.Gathered.{given, drawn, starts_of, deadlines_of, pairs_of}
use Rattle.verdict.specs.Line.{late_line, short_line, turned_down_line}

-- eight jobs 0-2: 4 is what the call for the shortest time gives
pub late_example : late_line 8 (pos 2) ++ short_line 4 0 ≡ word "jobs 8 lateness 2\nno plan\n"
unfolding decimal digits
late_example = refl

-- the five jobs of 01's example
pub short_example : late_line 5 (pos 0) ++ short_line 0 3 ≡ word "jobs 5 lateness 0\nshortest 3\n"
unfolding decimal digits
short_example = refl

-- below 0
pub early_example : late_line 1 (negsuc 4094) ≡ word "jobs 1 lateness -4095\n"
unfolding decimal digits
early_example = refl

pub refused_example : turned_down_line 6 (pos 1) ++ turned_down_line 14 (pos 0) ≡ word "list refused 6 at 1\njobs 0\n"
unfolding decimal digits
refused_example = refl

-- `TG 1 5, JB 0 9, TG 0 12, JB 2 9, OR 0 1, TG 1 4`: before its job, later than its deadline, and earlier once more
abbrev pub together : List Record
together = Deadline 1 5 ∷ Job 0 9 ∷ Deadline 0 12 ∷ Job 2 9 ∷ Order 0 1 ∷ Deadline 1 4 ∷ []

pub together_example : (starts_of together ≡ 0 ∷ 2 ∷ []) × (deadlines_of together ≡ 9 ∷ 4 ∷ []) × (pairs_of together ≡ 0 ∷ 1 ∷ [])
unfolding given drawn
together_example = (refl, refl, refl)

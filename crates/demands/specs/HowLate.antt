-- How late, and how short (02, A2), of what lateness (`Latens`) and shortest (`Shortens`) promise.
-- Assumes nothing.
use Rattle.std.specs.Prelude.{List, ◌↔◌, ◌≡◌, ℕ, ◌≤◌, ℤ, length}
use Rattle.schedule.specs.Jobs.{Jobs}
use Rattle.schedule.specs.Plan.{HasPlan}
use Rattle.schedule.specs.Clock.{Clock}
use Rattle.schedule.specs.Listed.{Listed, Reads, written}
use Rattle.schedule.specs.Late.{Lateness, Movable, ClockedLateness, Ranged}
use Rattle.schedule.specs.Shortest.{Shortest, ClockedShortest}
use Rattle.refusal.specs.Table.{Clear}
use Rattle.book.specs.Told.{cores}
use Rattle.planner.specs.List.{list_of}
use Rattle.planner.specs.Late.{late_checks, from_origin, Latens, short_checks, Shortens}
use Rattle.demands.specs.Demands.{NoSchedule}

-- the lateness of a list, whatever jobs read it: y - 4,096 slots
pub record Late (L : Listed) (J : Jobs) (y : ℕ) : Type 1 where
  -- "the least maximum lateness"; "no valid plan does better"
  pub least : Lateness cores J (written L) 4096 y
  -- "the smallest whole number by which all deadlines can be moved so that a valid plan exists"
  pub moves : (z : ℕ) → Movable cores J (written L) 4096 z ↔ (y ≤ z)
  -- "from −4,095 to 4,158"
  pub ranged : Ranged y
  -- no schedule by any clock is less late
  pub clocks : (C : Clock) → ClockedLateness C cores J (written L) 4096 y
  -- a list fits exactly if it is not late
  pub on_time : HasPlan cores J (written L) ↔ (y ≤ 4096)

-- the shortest finishing time "among the valid plans that meet the deadlines", and no schedule by any clock that meets them is shorter
pub record Short (L : Listed) (J : Jobs) (end : ℕ) : Type 1 where
  pub least : Shortest cores J (written L) end
  pub clocks : (C : Clock) → ClockedShortest C cores J (written L) end

pub record HowLate : Type 1 where
  pub late : (starts deadlines pairs : List ℕ) (value : ℤ) → Latens starts deadlines pairs 0 value → (J : Jobs) → Reads (list_of starts deadlines pairs) J →
      (y : ℕ) × (value ≡ from_origin y) × Late (list_of starts deadlines pairs) J y
  -- "The lateness call never gives 4"; a list that earns no refusal is told its lateness
  pub never_4 : (starts deadlines pairs : List ℕ) (value : ℤ) → Latens starts deadlines pairs 4 value → ⊥
  pub told : (starts deadlines pairs : List ℕ) (number : ℕ) (value : ℤ) → Latens starts deadlines pairs number value → Clear (late_checks starts deadlines pairs) → number ≡ 0
  pub short : (starts deadlines pairs : List ℕ) (end : ℕ) → Shortens starts deadlines pairs 0 end → (J : Jobs) → Reads (list_of starts deadlines pairs) J →
      Short (list_of starts deadlines pairs) J end
  -- "0 for an empty list"
  pub nothing : (starts deadlines pairs : List ℕ) (end : ℕ) → length starts ≡ 0 → Shortens starts deadlines pairs 0 end → end ≡ 0
  -- a list that earns no refusal is told its shortest time; 4 is given only where no schedule meets the deadlines
  pub told_short : (starts deadlines pairs : List ℕ) (number value : ℕ) → Shortens starts deadlines pairs number value → Clear (short_checks starts deadlines pairs) → number ≡ 0
  pub none : (starts deadlines pairs : List ℕ) (value : ℕ) → Shortens starts deadlines pairs 4 value → NoSchedule (list_of starts deadlines pairs)

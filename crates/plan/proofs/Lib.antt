-- The laws, lowest first; the proof of a function stands in the folder of its module.

-- the choice: the two best jobs of a walk; the choice by sets is the plan's
pub mod TwoBest
pub mod BySets
-- the plan of a book, and the layout that makes it: one slot, and all of them
pub mod BookPlan
pub mod OneSlot
pub mod AllSlots
-- what is handed out: seats, the bytes as written
pub mod Seats
pub mod WrittenBytes
-- what an outcome in numbers tells, what the bytes show, and no second outcome
pub mod Outcomes
pub mod Shown
pub mod Only

-- The laws; the proof of a function stands in the folder of its module.

-- the row of ends is the plan's
pub mod Ends
-- what a whole file read tells the listing
pub mod Ended
-- how long a listing can be, and that it fits the bytes lent
pub mod Short
-- the parts one behind the other
pub mod Assembled
-- no second outcome
pub mod Only
-- 01's example
pub mod Example

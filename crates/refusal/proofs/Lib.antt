-- The laws; the proof of a function stands in the folder of its name.

-- a number in a range
pub mod Ranges
-- a table of checks: one outcome, which number, all passed
pub mod Table
-- an answer's number and value
pub mod Says

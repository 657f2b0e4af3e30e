-- The laws; the proof of a function stands in the folder of its module.

-- the records of a file, and where a walk over them stands
pub mod Walk
-- what records give, and deadlines drawn in
pub mod Rows
-- the walk that gathers, and the one that draws in
pub mod Gathering
pub mod Drawing
-- the lines, how long they are, and a text on an empty page
pub mod Texts
-- from the rows to the lines of a list, of records, of a file
pub mod Assembled
-- no second outcome
pub mod Only
-- how it is written
pub mod Example

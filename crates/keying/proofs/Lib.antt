-- The laws; the proof of a function stands in the folder of its name.

-- a byte order mark
pub mod Begin
-- what the reader in the code shows of a page
pub mod Shown
-- where a walk over a text stands
pub mod Walk
-- one outcome of `key`, and what was written
pub mod Outcome
-- a walk over a job file
pub mod Pages

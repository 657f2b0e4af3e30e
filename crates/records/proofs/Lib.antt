-- The laws; the proof of a function stands in the folder of its name.

-- bytes stored one after the other
pub mod Stored
-- a record's bytes, and where they stand
pub mod Standing
-- the record that a mark and two fields make
pub mod Naming
-- the record at an offset: one outcome, and what stands there is found
pub mod Finding
-- a record stored: one outcome, and it stands there
pub mod Storing

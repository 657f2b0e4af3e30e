-- The laws, lowest first; the proof of a function stands in the folder of its module.

-- an event tells one number and one value
pub mod Events
-- one record read: one outcome, its number, what a whole record shows
pub mod Reading
-- a whole file: the loop, one outcome
pub mod Single
-- the bytes of records, one after the other; a part of a book has a plan; how long a file is; a book written
pub mod Bytes
pub mod Part
pub mod Length
pub mod Writing
-- the records that a book is written as; read back
pub mod Retold
pub mod RoundTrip

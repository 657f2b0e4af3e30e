-- The laws of a book in lent memory; the proof of a function stands in the folder of its name.

-- the parts of a row
pub mod Parts
-- a list has one book
pub mod OneBook
-- the empty book
pub mod Empty

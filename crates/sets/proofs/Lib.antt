-- The laws of sets; the proof of a function stands in the folder of its name.

-- digits of numbers, walks over a set
pub mod Bits
-- what a call made, in range and out of it
pub mod Range
-- and no other
pub mod Only

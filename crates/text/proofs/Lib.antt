-- The laws; the proof of a function stands in the folder of its name.

-- decimal digits: what they spell, how many they are
pub mod Decimal
-- text put, and more behind it
pub mod Putting
-- patterns, and texts one behind the other
pub mod Each

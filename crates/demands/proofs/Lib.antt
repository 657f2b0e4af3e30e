-- The proofs of the three demands, of how late and how short, of the planners that they shut out, and of the small lists.
pub mod First
pub mod Second
pub mod Third
pub mod HowLate
pub mod Wrong
pub mod SmallLists

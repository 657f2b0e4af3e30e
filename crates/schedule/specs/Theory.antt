-- Words of the theory and of private functions: no demand and no public promise cites them.
pub mod Sum
pub mod Bound
pub mod Lowest

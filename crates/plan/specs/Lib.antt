-- The plan of a book, in the order to read it. "01" is the scope.
pub mod Plan
pub mod Span
pub mod Placed
pub mod Place
pub mod Always
pub mod Inner

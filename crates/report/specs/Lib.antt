-- What the listing says, in the order to read it. "01" is the scope.
pub mod Line
pub mod Listing
pub mod Inner

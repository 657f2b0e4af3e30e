-- What job files promise, in the order to read it. "01" is the scope.
pub mod Reader
pub mod File
pub mod Writer
pub mod RoundTrip
pub mod Inner

-- What keying promises, in the order to read it. "01" is the scope.
pub mod Slip
pub mod Text
pub mod Keys
pub mod Lines
pub mod Inner

-- Text in lent bytes, in the order to read it.
pub mod Text
pub mod Fill
pub mod Put

-- The three demands, how late and how short, the planners that they shut out, and the small lists. "01" is the scope, "02" what customers want changed, "001" the paper that it rests on.
pub mod Demands
pub mod HowLate
pub mod Wrong
pub mod Small

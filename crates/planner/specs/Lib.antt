-- What the planner promises, in the order to read it. "01" is the scope, "02" what customers want changed, "001" the paper that it rests on.
pub mod Requests
pub mod List
pub mod Late
pub mod Memory
pub mod Inner

-- Numbers of refusal, in the order to read it: checks in their order, answers and their numbers. "01" is the scope.
pub mod Table
pub mod Says

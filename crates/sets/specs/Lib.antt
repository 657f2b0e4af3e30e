-- Sets of jobs in 64 bits, in the order to read it. "01" is the scope.
pub mod Sets
pub mod Walk

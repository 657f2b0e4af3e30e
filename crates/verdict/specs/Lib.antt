-- What the verdict on a job file says, in the order to read it. "01" is the scope, "02" the change requests.
pub mod Gathered
pub mod Line
pub mod Verdict
pub mod Inner

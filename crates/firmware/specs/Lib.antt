-- What the firmware's calls promise beyond the planner's own promises, which they carry in numbers. "01" is the scope; bindings/c/planner.h says the same in plain words.
pub mod Requests
pub mod List
pub mod Plans

-- Records of a job file, in the order to read it. "01" is the scope.
pub mod Record
pub mod Find
pub mod Store

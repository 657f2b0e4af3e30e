-- What the private functions promise to each other. Nobody has to believe these: the public promises are proved from them.
pub mod Row
pub mod Gather
pub mod Short

-- What the private functions promise to each other. Nobody has to believe these: the public promises are proved from them.
pub mod Rows
pub mod Choice
pub mod Layout
pub mod Bytes

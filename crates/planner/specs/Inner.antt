-- What the planner's private functions promise to each other. Nobody has to believe these: the public promises are proved from them.
pub mod Chains
pub mod Tighten
pub mod Passes
pub mod Requests
pub mod Entries
pub mod List
pub mod Late
pub mod Memory

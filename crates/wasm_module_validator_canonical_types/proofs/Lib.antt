pub mod Remapped
pub mod Fitting
pub mod WorkedProofs
pub mod Lists
pub mod MatchesWorkedProofs

-- How what stopped the reading of a module in pieces is told to the program.
pub mod Faults
-- A module that is judged as its bytes come.
pub mod Begun

-- Rules: what an operator makes of what a validator shows, what it means that what it shows is a typing of the code, and that the values of
-- a run fit it.
pub mod Leading
pub mod Shown
pub mod Programs
pub mod Worked

-- Rules: what the program promises, in reading order. `Commands` has worked rows. The texts of lines are those of `wasm_check_lines`, and what is
-- told of faults that of `wasm_check_faults`.
pub mod Manners
pub mod Modes
pub mod Lines
pub mod Faults
pub mod Verdict
pub mod Reports
pub mod Names
pub mod Words
pub mod Settings
pub mod Commands
pub mod Opened
pub mod Files

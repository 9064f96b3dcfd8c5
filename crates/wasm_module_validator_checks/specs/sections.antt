-- Definitions: functions by their index, and which calls come in turn.
pub mod Functions
pub mod Turns

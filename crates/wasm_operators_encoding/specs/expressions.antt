-- Rules, in reading order. What an operator does to a frame is defined in `Roles` of `wasm_operators_enums`.
pub mod Code
pub mod Spelling
-- Definitions that contracts cite besides them.
pub mod Frames
pub mod Stack
-- Laws.
pub mod FrameLaws
pub mod SpellingLaws

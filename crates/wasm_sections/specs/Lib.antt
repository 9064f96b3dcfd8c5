pub use Rattle.wasm_sections_items.specs.frames as frames
pub use Rattle.wasm_sections_items.specs.limited as limited
pub use Rattle.wasm_sections_items.specs.imports as imports
pub use Rattle.wasm_sections_items.specs.segments as segments
pub use Rattle.wasm_sections_items.specs.elements as elements
pub use Rattle.wasm_sections_parser.specs as parser
pub use Rattle.wasm_sections_parser.specs.runs.steps as steps
pub use Rattle.wasm_sections_parser.specs.runs.hints as hints
pub use Rattle.wasm_sections_parser.specs.runs.calls as calls
pub use Rattle.wasm_sections_parser.specs.runs as runs
pub use Rattle.wasm_operators_bodies.specs as bodies
-- Rules: which payload a frame is.
pub mod Payloads
-- Rules: what a call of the parser answers, and the payloads of a module that is all there.
pub mod Parsing
pub mod Walking
-- Laws.
pub mod SettingsLaws
pub mod WalkLaws
pub mod CallLaws
-- Worked rows.
pub mod Worked

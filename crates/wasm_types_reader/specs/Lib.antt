-- Definitions: what a read answers, values that nobody wants, parts, bytes below 128, the errors of numbers, messages. `Parts` and
-- `Words` have decoders too.
pub mod Reading
pub mod Draining
pub mod Parts
pub mod Words
pub mod Flaws
pub mod Messages
-- Worked readings.
pub mod Rows
-- Laws: of reading, exactness, rows.
pub mod ReadingLaws
pub mod PartLaws
pub mod WordLaws
pub mod RowLaws
-- The laws and decoders that attributes of readers cite, which take a file's own names alone.
pub mod Laws
-- The rules of crates below, under their names: crates above cite them here.
pub use Rattle.wasm_types_decoding.specs as decoding
pub use Rattle.wasm_types_decoding.specs.settings as settings

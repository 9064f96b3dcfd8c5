-- Definitions, in reading order.
pub mod Standing
pub mod FirstByte
pub mod Iterating
pub mod Frequent
pub mod Visiting
pub mod Walking
-- Laws.
pub mod StandingLaws
pub mod RunLaws
pub mod MeetLaws
pub mod FirstByteLaws
pub mod VisitingLaws
pub mod WalkingLaws
-- Rules and laws: operators from a reader of bytes whose frames the caller keeps, and expressions whose operators a visitor is told of.
pub mod walks
-- The rules of crates below, under their names: crates above cite them here.
pub use Rattle.wasm_operators_visit_simd_operator.specs.visit_operator as visit_operator

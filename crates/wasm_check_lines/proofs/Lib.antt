pub mod ShownLemmas
pub mod JsonLemmas
pub mod FormLemmas
pub mod HintLemmas
pub mod InLine
pub mod Rows
pub mod CauseRows
pub mod ShownApart

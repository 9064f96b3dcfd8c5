pub mod InLine
pub mod ListLemmas
pub mod FeatureLemmas
pub mod RowsOfLists
pub mod LimitLemmas
pub mod WordListLemmas

pub mod WordLemmas
pub mod LineLemmas
pub mod LargeLemmas
pub mod ReportLemmas
pub mod FileReports
pub mod FileLemmas
mod NeedsLemmas
mod NameLemmas

pub mod Finding
pub mod Answering
pub mod Naming

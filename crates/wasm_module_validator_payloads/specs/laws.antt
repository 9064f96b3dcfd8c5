pub mod Empty
pub mod Taking
pub mod Bodies
pub mod Shapes
pub mod Growing
pub mod Totals
pub mod Short

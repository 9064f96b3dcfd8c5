pub mod Lists
pub mod Types
pub mod Constants
pub mod Numbers
pub mod Items
pub mod InOrder
pub mod Bodies

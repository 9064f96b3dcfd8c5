pub mod Parts
pub mod Frames
pub mod Sound
pub mod Complete
pub mod Accepted
pub mod Outside

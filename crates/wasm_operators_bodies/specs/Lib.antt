-- Definitions that contracts name, in reading order. `Groups` and `Bodies` have decoders too.
pub mod Groups
pub mod Bodies
pub mod Constants
pub mod Short
-- Laws.
pub mod GroupLaws
pub mod BodyLaws
pub mod ConstantLaws
pub mod ConstantStopLaws
pub mod ShortLaws

-- Rules: which bytes spell immediates. Decoders of these, beside them, in all of these files but `Accesses`.
pub mod Bytes
pub mod Accesses
pub mod MemoryArguments
pub mod Casts
pub mod Immediates
-- Laws.
pub mod ByteLaws
pub mod FlagLaws
pub mod MemoryLaws
pub mod CastLaws
pub mod ImmediateLaws

pub mod AtomicCodes
pub mod SimdNumericCodes

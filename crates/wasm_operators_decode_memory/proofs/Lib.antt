pub mod NumericCodes

pub mod WorkedTypes
pub mod WorkedOperators
pub mod WorkedReferences
pub mod WorkedExceptions
pub mod WorkedObjects
pub mod WorkedCodes
pub mod WorkedClauses
mod WorkedCounts
pub mod WorkedVectors
pub mod WorkedDescriptors
pub mod WorkedShared
pub mod WorkedSharedKinds
pub mod FloatNames
pub mod ConstantNames
pub mod WorkedContinuations

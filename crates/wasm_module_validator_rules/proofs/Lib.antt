pub mod WorkedParts
pub mod WorkedModules
pub mod WorkedReleases
pub mod WorkedBounds
pub mod WorkedItems
pub mod WorkedFunctions
pub mod WorkedBytes

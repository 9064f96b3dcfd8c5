pub mod WorkedCode
pub mod WorkedSteps

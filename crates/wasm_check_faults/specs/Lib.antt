-- Rules: the lists of the command line, and what is told of faults, in reading order. `ListRows` has worked rows, `LineLaws` a law of the lines.
pub mod Errors
pub mod Reasons
pub mod Lists
pub mod FeatureLists
pub mod WordLists
pub mod LimitLists
pub mod FaultTexts
pub mod LineLaws
pub mod ListRows

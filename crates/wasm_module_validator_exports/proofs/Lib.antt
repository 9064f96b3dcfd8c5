mod Growing
mod Kept
mod Listing
mod Keeping
mod Taking
mod Finding
mod Functions

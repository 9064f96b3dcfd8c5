mod Passing
mod Making
mod Ending

mod Checking
mod Keeping
mod Handing

mod Telling
mod Leaving
mod ShortItems

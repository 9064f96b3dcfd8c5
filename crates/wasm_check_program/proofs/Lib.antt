mod Pieces
mod Begun

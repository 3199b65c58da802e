mod OwnLength
mod Staying

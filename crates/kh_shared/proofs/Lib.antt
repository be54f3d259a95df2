mod Owners
mod Words
mod Walks
mod Pieces
mod Steps

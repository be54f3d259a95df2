mod Places
mod Chunks
mod Lent
mod Blocks
mod SizeLemmas
mod Listed

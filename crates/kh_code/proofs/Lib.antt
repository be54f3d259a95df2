-- The lemmas of loaded code.
mod Finds
mod Labelled
mod Modules
mod OneName
mod Places
mod Sums
mod Within

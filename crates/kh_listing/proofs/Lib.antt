-- The lemmas of listings.
mod Clear
mod Drafting
mod Each
mod Faulty
mod Firsts
mod Keys
mod Outcomes
mod Pieces
mod Small
mod SmallModule
mod SmallRows
mod Steps
mod Written

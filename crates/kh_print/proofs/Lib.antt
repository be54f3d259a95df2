mod Hex
mod Joined
mod Layers
mod ShownTokens
mod ShownTerms
mod ShownMaps
mod ShownAll

-- For the crates above.
pub use Rattle.kh_read.proofs.Steps.{bind_ok, ok_is}
pub use Rattle.kh_read.proofs.Place.{form_shorter}
pub use Rattle.kh_read.proofs.Paths.{plain_names_are_names}
pub use Rattle.kh_read.proofs.Grows.{form_grows}
pub use Rattle.kh_read.proofs.FormRead.{form_read}
mod Steps
mod Fronts
mod Digits
mod Names
mod Words
mod NamesRead
mod Paths
mod FormRead
mod Grows
mod Place
mod Again
mod Mends
mod CutParts
mod CutForms
mod Stands
mod TextCore
mod TextReads
mod TextDigits
mod TextWords
mod TextPoints
mod TextQuotes
mod TextQuoted
mod TextFloats
mod TextNames
mod TextBrackets
mod TextLists
mod TextMaps
mod TextClosures
mod TextBinaries
mod TextTerms
mod TextSegments
mod TextReferences
mod TextForms
mod TextLeads
mod TextLeadsQuotes
mod TextLeadsFlat
mod TextLeadsBinaries
mod TextLeadsListing
mod TextLeadsDeep
mod TextLeadsForms
mod Frames
mod TextAnswers
mod TextFaults
mod TextSizes
mod TextLimits
mod TextEnds
mod TextExact
mod TextTrace
mod TextOne
mod TextWider
mod TextAll
mod TextDepths
mod Befores
mod ShortWords
mod Wholes
mod TextStays
mod TextMoves
mod TextNumbers
mod Skipping
mod Follows
mod Answered

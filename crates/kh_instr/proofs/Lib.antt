mod Each
mod Faithful
mod Literals
mod Relabel
mod RoundTrip
mod Texts
mod Trees
mod Weights

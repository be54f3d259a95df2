mod Compiling
mod Places

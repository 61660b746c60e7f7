mod Back
mod Naming
mod Pairing
mod Printing
mod Splitting
mod Trimming

pub mod Folding
pub mod Turning
pub mod Widths
pub mod Aligning
pub mod Lines
pub mod BenchCounting
pub mod AsciiParts

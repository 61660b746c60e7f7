pub mod Putting
pub mod Replays

pub mod Replay
pub mod Stands

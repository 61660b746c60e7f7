pub mod Opening
pub mod Trying
pub mod Within
pub mod Bodies
pub mod Checking
pub mod Wiping

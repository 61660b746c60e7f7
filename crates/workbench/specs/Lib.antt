pub mod Printed
pub mod Sealings
pub mod States
pub mod Scripts

pub mod Known
mod Lines

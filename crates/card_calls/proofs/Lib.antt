mod Finding
mod Fronts
mod Readers
mod Writers

pub mod Answer
pub mod Canonical
pub mod Fault
pub mod Hex
pub mod Text

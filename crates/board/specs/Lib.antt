pub mod Bank
pub mod Bus
pub mod Bytes
pub mod Memory
pub mod Pile
pub mod Ram
pub mod Rom
pub mod Void

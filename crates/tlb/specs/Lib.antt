pub mod Bits
pub mod Control
pub mod Descriptor
pub mod Entry
pub mod Page
pub mod Register
pub mod Search
pub mod Shape

pub mod Form
pub mod Name
pub mod Number
pub mod Pieces
pub mod Reader
pub mod Room

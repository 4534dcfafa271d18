pub mod Routes
pub mod Words

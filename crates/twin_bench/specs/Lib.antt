pub mod Account
pub mod Telling

pub mod Places
pub mod RightsTable
pub mod Tables
pub mod Worked

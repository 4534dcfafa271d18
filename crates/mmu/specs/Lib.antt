pub mod Figures
pub mod Rights
pub mod Verdict
pub mod Walk

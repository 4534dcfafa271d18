pub mod Fields
pub mod KeptFields

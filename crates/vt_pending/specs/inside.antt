pub mod Buckets
pub mod Letters

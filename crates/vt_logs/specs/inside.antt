pub mod Events
pub mod Sheets
pub mod Shelves
pub mod Chains

pub mod Rumour
pub mod RumourLaws

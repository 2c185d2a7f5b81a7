pub mod Words
pub mod DrawnLaws

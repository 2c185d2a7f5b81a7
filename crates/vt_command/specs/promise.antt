pub mod Table
pub mod Line
pub mod Requests

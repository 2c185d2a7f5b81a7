pub mod promise
pub mod inside

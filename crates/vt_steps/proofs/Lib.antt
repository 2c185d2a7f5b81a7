pub mod lists
pub mod letters
pub mod steps
pub mod time
pub mod book
pub mod history
pub mod marks
pub mod TimeLemmas

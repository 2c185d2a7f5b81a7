pub mod Handlers
pub mod Laws
pub mod Progresses
pub mod Showing

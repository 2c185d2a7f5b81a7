pub mod Desk
pub mod DeskLaws

pub mod OneModel
pub mod Files

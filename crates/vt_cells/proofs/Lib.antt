pub mod ActLemmas
pub mod BoardSteps
pub mod BookSteps
pub mod MailSteps
pub mod WorldLemmas

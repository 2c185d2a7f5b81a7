pub mod CrewLemmas
mod JobLemmas

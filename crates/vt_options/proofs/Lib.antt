pub mod LineLemmas
pub mod RequestLemmas
pub mod OwnLemmas
pub mod ModelLemmas
pub mod TakenLemmas
pub mod ProgramLemmas
pub mod ShownLemmas

pub mod PresentLemmas
pub mod LaidLemmas
pub mod SheetLemmas
pub mod ShelfLemmas
pub mod ChainLemmas

pub mod RowOrder
pub mod SequentialRows
pub mod BookRows
pub mod Records
pub mod ReachedBooks
pub mod EachOnce
pub mod HeadlineTheorem

pub mod Ring
pub mod RingLaws
pub mod Histogram
pub mod HistogramLaws
pub mod Drawing
pub mod DrawingLaws
pub mod Exponential
pub mod Sending

mod RingItems
mod HistogramTotal
mod DrawingLemmas

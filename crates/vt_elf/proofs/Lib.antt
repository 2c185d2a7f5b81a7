mod Searching
mod SegmentLemmas
mod LoadingLemmas

mod ApartLemmas
mod BucketLemmas
mod DigitLemmas
mod KeptLemmas
mod MergeLemmas
mod OrderLemmas
mod SlotLemmas
mod TakenLemmas

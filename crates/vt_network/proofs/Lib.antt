pub mod PacketLemmas
pub mod KeptLemmas

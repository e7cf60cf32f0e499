pub mod Turns
pub mod BegunLemmas
pub mod EndedLemmas
pub mod SweptLemmas
pub mod FirstFault
pub mod Over

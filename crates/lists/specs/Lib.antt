-- Notation for lists: no notion of planning stands here.
pub mod Loop
pub mod Pairs
pub mod Slice

-- Laws of the notation.
pub mod Tests
pub mod Loops
pub mod Blocks
pub mod Sums
pub mod Pairs
pub mod Slices
pub mod Rising
pub mod Passing

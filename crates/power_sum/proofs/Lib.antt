-- Structs and the sketches that they stand for, the room that a struct takes, the test of a struct, and buffers that calls fill.
pub mod Struct
pub mod Sizes
pub mod Checked
pub mod Filled
pub mod Negated
pub mod Determined
pub mod InPlace
pub mod Asks
pub mod Handed
pub mod Idle
pub mod Wrong
pub mod Promise
pub mod Witness

-- What stands at the front of the words of a sketch.
pub mod Heads

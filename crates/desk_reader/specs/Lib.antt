-- What the reader's functions come to, over its structs, and readings got by calls.
pub mod Sketches
pub mod Reader
pub mod Read

-- What is promised: the rules of codes, residues, sketches and packets, over any kind. Definitions only.
pub mod Kind
pub mod Field
pub mod Signed
pub mod Sketch
pub mod Decode
pub mod Sums
pub mod Packet
pub mod Calls
pub mod History
pub mod Words
pub mod Run
pub mod Determines
pub mod Cases

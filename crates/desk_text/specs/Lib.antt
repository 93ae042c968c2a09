-- What the writer and the whole answer come to, over the structs.
pub mod Writer
pub mod Answer

-- What can be said of standard input and of what is written.
pub mod Input

-- The widths of code, and the field's answers as structs beside the rules.
pub mod Width
pub mod Answers

-- The rules of the desk program: its lines, what they come to, the text of the answer, and the promise in numbers of lines.
pub mod Lines
pub mod Desk
pub mod Text
pub mod Castle

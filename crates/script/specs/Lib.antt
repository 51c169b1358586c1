-- Definitions about the words of a lab's file.
pub mod Names
pub mod Numbers

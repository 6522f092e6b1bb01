-- Why a loop stayed a loop, in lent words.
pub mod Reading
pub mod Answers

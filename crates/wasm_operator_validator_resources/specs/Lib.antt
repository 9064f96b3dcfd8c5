-- Rules: what names in code stand for, and what each look-up answers.
pub mod Meaning
pub mod Answers

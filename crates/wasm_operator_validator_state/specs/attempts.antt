-- Definitions: what a log of an attempt keeps, and what it takes back.
pub mod Log
-- Definitions: whether an attempt is under way.
pub mod Transactions
-- Worked logs, and the laws that they come out so and that locals need no note.
pub mod Worked
pub mod WorkedLaws

-- Rules: what operators on structures, arrays and tables find in the tables of a module, branches on casts, clauses of `try_table`, operators on
-- vectors by their codes, and what atomic accesses take and give.
pub mod Objects
pub mod Casts
pub mod Exceptions
pub mod Tables
pub mod Atomics
pub mod Vectors

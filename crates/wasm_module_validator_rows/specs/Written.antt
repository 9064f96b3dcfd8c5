-- Which rows are written.
use Rattle.std.specs.Prelude.{◌-◌, ◌^◌, ◌++◌, List, length, take, drop}

-- the first of these, as many as 32 bits count: no module that is accepted has more of a kind
abbrev pub counted : {A : Type 0} → List A → List A
counted xs = take (2 ^ 32 - 1) xs

-- rows in which the first of these were written, as many as there are rows for; all others stay
abbrev pub written : {A : Type 0} → List A → List A → List A
written xs rows = take (length rows) xs ++ drop (length xs) rows

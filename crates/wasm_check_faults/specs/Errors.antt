-- Why inputs came to no verdict.
use Rattle.std.specs.Prelude.{ℕ, List, ◌++◌, codes}
use Rattle.std.specs.Fmt.{decimal}
use Rattle.wasm_check_faults.specs.declared.error.CheckError.{CheckError}
use Rattle.wasm_check_faults.specs.declared.error.CheckError.TheVariants.{Read, TooLong, OutOfMemory, Write}

-- the faults are numbered
abbrev pub number_of : CheckError → ℕ
number_of (Read i) = 1
number_of (TooLong i) = 2
number_of (OutOfMemory i) = 3
number_of Write = 4

-- what an error writes
abbrev pub error_text : CheckError → List ℕ
error_text (Read i) = codes "input " ++ decimal i ++ codes ": cannot read"
error_text (TooLong i) = codes "input " ++ decimal i ++ codes ": too long"
error_text (OutOfMemory i) = codes "input " ++ decimal i ++ codes ": out of memory"
error_text Write = codes "cannot write"

-- What the files of a command line are read from.
use Rattle.std.specs.Prelude.{ℕ, Bool, true, false, List, codes, Option}
use Rattle.std.specs.Str.{bytes_eq}
use Rattle.wasm_check_command.specs.declared.files.Opened.{Opened}
use Rattle.wasm_check_command.specs.declared.files.Opened.TheVariants.{File, Stdin}

-- what a reader says that it has left: what the file or standard input says
abbrev pub said_by : {F I : Type 0} → (F → Option (List ℕ)) → (I → Option (List ℕ)) → Opened F I → Option (List ℕ)
said_by file stdin (File f) = file f
said_by file stdin (Stdin i) = stdin i

-- it is standard input
abbrev pub is_stdin : {F I : Type 0} → Opened F I → Bool
is_stdin (File f) = false
is_stdin (Stdin i) = true

-- this name is that of standard input
abbrev pub names_stdin : List ℕ → Bool
names_stdin name = bytes_eq name (codes "-")

-- at most as many files are kept open from when all are opened to their turn, the first ones; each other one is closed at once, and opened
-- again
abbrev pub kept_open : ℕ
kept_open = 100

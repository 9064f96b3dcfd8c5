-- What the line of an input says. Here and in the files behind this one a `Ruling` says which bytes are valid, and how it is written.
use Rattle.std.specs.Prelude.{◌≡◌, ℕ, ◌⊎◌, IsTrue, List, [], ◌++◌, Option, None}
use Rattle.wasm_types.specs.decoding.ErrorValue.{ErrorValue}
use Rattle.wasm_types.specs.settings.declared.Limits.{Limits}
use Rattle.wasm_check_lines.specs.declared.notes.Explanation.{Explanation}
use Rattle.wasm_check_lines.specs.Forms.{refused_text}
use Rattle.wasm_check_command.specs.Modes.{Ruling, AreLeft}
use Rattle.wasm_check_command.specs.Manners.{Manner}

-- An input's bytes, as many as fit: those that its reader says it has left, where it says them.
pub record HasBytes (ruling : Ruling) (said : Option (List ℕ)) (bytes : List ℕ) : Type 0 where
  pub same : AreLeft said bytes
  pub within : ruling.fits bytes

-- there is an explanation only if one is asked for
abbrev pub IsExplained : Manner → Option Explanation → Type 0
IsExplained manner x = IsTrue manner.explains ⊎ (x ≡ None)

-- The text says of these bytes whether they spell a valid module, and may say by which features; where they do not, it tells an error, and maybe an explanation.
abbrev pub IsLine : Ruling → List ℕ → List ℕ → List ℕ → Type 0
IsLine ruling name bytes line = (ruling.accepts bytes × ruling.tells bytes name line)
    ⊎ (¬ ruling.accepts bytes × ((e : ErrorValue) × (limits : Limits) × (x : Option Explanation) × IsExplained ruling.manner x
    × (line ≡ refused_text ruling.manner.form ruling.manner.explains name limits e (ruling.seen bytes) x)))

-- this begins the line of these bytes
abbrev pub BeginsLine : Ruling → List ℕ → List ℕ → List ℕ → Type 0
BeginsLine ruling name bytes front = (line rest : List ℕ) × IsLine ruling name bytes line × (line ≡ front ++ rest)

-- the same of an input whose reader says these bytes, or it is nothing
abbrev pub BeginsLineOf : Ruling → List ℕ → Option (List ℕ) → List ℕ → Type 0
BeginsLineOf ruling name said front = (front ≡ []) ⊎ ((bytes : List ℕ) × HasBytes ruling said bytes × BeginsLine ruling name bytes front)

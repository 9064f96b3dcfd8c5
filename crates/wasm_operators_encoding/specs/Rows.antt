-- Which kinds of immediates stand behind a code, by the rows of the table of opcodes.
use Rattle.std.specs.Prelude.{◌==◌, if◌then◌else◌, ℕ, Bool, true, false, List, [], ◌∷◌, map, Option, Some, None}
use Rattle.wasm_operators_immediates.specs.Info.{Info}
use Rattle.wasm_operators_immediates.specs.Kinds.{Kind}
use Rattle.wasm_operators_immediates.specs.Immediates.{Immediate, kind_of}

-- a code, and the kinds of what stands behind it
abbrev pub Row : Type 0
Row = ℕ × List Kind

-- the kinds that a row has for this code, if one has it
abbrev pub kinds_by : List Row → ℕ → Option (List Kind)
kinds_by [] code = None
kinds_by (r ∷ rs) code = if code == r.0 then Some r.1 else kinds_by rs code

abbrev pub same_prefix : Option ℕ → Option ℕ → Bool
same_prefix None None = true
same_prefix (Some p) (Some q) = p == q
same_prefix p q = false

-- the rows of those operators of a list that have this prefix, or none
module _ {G M : Type 0} (info : G → Info) (carried : G → List Immediate) (prefix : Option ℕ) where
  abbrev pub row : G × M → Row
  row e = ((info e.0).code, map kind_of (carried e.0))

  abbrev pub rows : List (G × M) → List Row
  rows [] = []
  rows (e ∷ es) = if same_prefix prefix (info e.0).prefix then row e ∷ rows es else rows es

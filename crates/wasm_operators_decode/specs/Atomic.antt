-- What stands behind the opcodes of the group, by shape.
use Rattle.std.specs.Prelude.{ℕ, List, [], ◌∷◌, Option, Some}
use Rattle.wasm_operators_immediates.specs.Kinds as kind
use Rattle.wasm_operators_immediates.specs.Kinds.{Kind, Atomic, ReadModifyWrite}
use Rattle.wasm_operators_enums.specs.threads.Table.{atomic_info}
use Rattle.wasm_operators_enums.specs.threads.Immediates.{atomic_immediates}
use Rattle.wasm_operators_enums.proofs.ThreadsCodes.{atomic_list}
use Rattle.wasm_operators_encoding.specs.Rows.{kinds_by, rows}
use Rattle.wasm_operators_encoding.specs.KeptRows.{between, kept}
use Rattle.wasm_operators_decode.specs.declared.atomic.AtomicShape.{AtomicShape}
use Rattle.wasm_operators_decode.specs.declared.atomic.AtomicShape.TheVariants as shape

-- the kinds of immediates of each shape
abbrev pub atomic_shape_kinds : AtomicShape → List Kind
atomic_shape_kinds (shape.Access natural) = kind.MemoryArgument Atomic natural ∷ []
atomic_shape_kinds shape.Zero = kind.ZeroByte ∷ []
atomic_shape_kinds (shape.ReadModifyWrite natural) = kind.MemoryArgument ReadModifyWrite natural ∷ []

-- which kinds stand behind a code, by the rows of a run of codes alone
unfoldable pub atomic_run : ℕ → ℕ → ℕ → Option (List Kind)
atomic_run from to = kinds_by (kept (between from to) (rows atomic_info atomic_immediates (Some 0xfe) atomic_list))

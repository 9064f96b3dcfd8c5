-- Constant expressions of one operator (WebAssembly 3.0, validation, instructions, constant expressions).
use Rattle.std.specs.Prelude.{◌≡◌, ℕ, ℤ, List, false}
use Rattle.wasm_types.specs.settings.Settings.{Settings}
use Rattle.wasm_types.specs.values.declared.heap.HeapType.TheVariants.{Abstract}
use Rattle.wasm_operators_enums.specs.declared.control.ControlOperator.TheVariants as control
use Rattle.wasm_operators_enums.specs.declared.constant.ConstOperator.TheVariants as constant
use Rattle.wasm_operators_enums.specs.declared.memory.MemoryOperator.TheVariants as memory
use Rattle.wasm_operators_enums.specs.declared.bulk.BulkOperator.TheVariants as bulk
use Rattle.wasm_operators_enums.specs.Op as op
use Rattle.wasm_operators_enums.specs.Op.{Op}
use Rattle.wasm_operators_encoding.specs.expressions.Code.{Code}
use Rattle.wasm_operators_encoding.specs.expressions.Spelling.{SpelledExpression}
use Rattle.wasm_operators_bodies.specs.declared.short.ShortConstant.{ShortConstant}
use Rattle.wasm_operators_bodies.specs.declared.short.ShortConstant.TheVariants as short

-- an operator of this kind
abbrev pub IsOf : ShortConstant → Op → Type 0
IsOf short.I32 o = (n : ℤ) × (o ≡ op.Const (constant.I32Const n))
IsOf short.I64 o = (n : ℤ) × (o ≡ op.Const (constant.I64Const n))
IsOf (short.Global x) o = o ≡ op.Memory (memory.GlobalGet x)
IsOf (short.Function x) o = o ≡ op.Bulk (bulk.RefFunc x)
IsOf (short.Null t) o = o ≡ op.Bulk (bulk.RefNull (Abstract false t))

-- the expression of this operator alone
abbrev pub alone : Op → Code
alone o = Code.plain o (Code.close (op.Control control.End))

-- these bytes spell an expression of such an operator alone, whatever the settings
abbrev pub SpellsShort : ShortConstant → List ℕ → Type 0
SpellsShort c text = (z : Settings) → (o : Op) × IsOf c o × SpelledExpression z (alone o) text

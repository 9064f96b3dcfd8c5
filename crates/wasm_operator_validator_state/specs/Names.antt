-- How value types are called in messages (WebAssembly 3.0, text format, types).
use Rattle.std.specs.Prelude.{List, ℕ, codes}
use Rattle.wasm_types.specs.values.Text.{wat_text}
use Rattle.wasm_types.specs.values.declared.value.ValType.{ValType}
use Rattle.wasm_types.specs.values.declared.value.ValType.TheVariants.{I32, I64, F32, F64, V128, Ref}

-- a value type in the text format, with `$type` in the place of an index
abbrev pub type_name : ValType → List ℕ
type_name I32 = codes "i32"
type_name I64 = codes "i64"
type_name F32 = codes "f32"
type_name F64 = codes "f64"
type_name V128 = codes "v128"
type_name (Ref r) = wat_text r

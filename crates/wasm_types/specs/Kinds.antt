-- What a composite type is, by its constructor.
use Rattle.std.specs.Prelude.{Option, Some, None}
use Rattle.wasm_types_fields.specs.declared.field.ArrayType.{ArrayType}
use Rattle.wasm_types_fields.specs.declared.field.StructType.{StructType}
use Rattle.wasm_types_fields.specs.declared.func.FuncType.{FuncType}
use Rattle.wasm_types_fields.specs.declared.cont.ContType.{ContType}
use Rattle.wasm_types.specs.declared.composite.CompositeInnerType.{CompositeInnerType}
use Rattle.wasm_types.specs.declared.composite.CompositeInnerType.TheVariants.{Func, Array, Struct, Cont}

-- the function type, if it is one
abbrev pub func_in : CompositeInnerType → Option FuncType
func_in (Func f) = Some f
func_in (Array a) = None
func_in (Struct s) = None
func_in (Cont c) = None

-- the array type, if it is one
abbrev pub array_in : CompositeInnerType → Option ArrayType
array_in (Func f) = None
array_in (Array a) = Some a
array_in (Struct s) = None
array_in (Cont c) = None

-- the struct type, if it is one
abbrev pub struct_in : CompositeInnerType → Option StructType
struct_in (Func f) = None
struct_in (Array a) = None
struct_in (Struct s) = Some s
struct_in (Cont c) = None

-- the continuation type, if it is one
abbrev pub cont_in : CompositeInnerType → Option ContType
cont_in (Func f) = None
cont_in (Array a) = None
cont_in (Struct s) = None
cont_in (Cont c) = Some c

-- What is known of an operand, as one enum.
use Rattle.std.specs.Prelude.{Some, None}
use Rattle.wasm_types.specs.values.declared.value.ValType.TheVariants as vals
use Rattle.wasm_types.specs.values.declared.heap.AbstractHeapType.TheVariants as heap
use Rattle.wasm_operator_validator_state.specs.declared.operand.MaybeType.{MaybeType}
use Rattle.wasm_operator_validator_state.specs.declared.operand.MaybeType.TheVariants as maybe
use Rattle.wasm_operator_validator_state.specs.declared.packed.Kind.{Kind}
use Rattle.wasm_operator_validator_state.specs.declared.packed.Kind.TheVariants as kind

-- the case of the enum for what is known
abbrev pub kind_of : MaybeType → Kind
kind_of maybe.Bottom = kind.Bottom
kind_of (maybe.UnknownRef None) = kind.Unknown
kind_of (maybe.UnknownRef (Some heap.Func)) = kind.UnknownFunc
kind_of (maybe.UnknownRef (Some heap.Extern)) = kind.UnknownExtern
kind_of (maybe.UnknownRef (Some heap.Any)) = kind.UnknownAny
kind_of (maybe.UnknownRef (Some heap.None)) = kind.UnknownNone
kind_of (maybe.UnknownRef (Some heap.NoExtern)) = kind.UnknownNoExtern
kind_of (maybe.UnknownRef (Some heap.NoFunc)) = kind.UnknownNoFunc
kind_of (maybe.UnknownRef (Some heap.Eq)) = kind.UnknownEq
kind_of (maybe.UnknownRef (Some heap.Struct)) = kind.UnknownStruct
kind_of (maybe.UnknownRef (Some heap.Array)) = kind.UnknownArray
kind_of (maybe.UnknownRef (Some heap.I31)) = kind.UnknownI31
kind_of (maybe.UnknownRef (Some heap.Exn)) = kind.UnknownExn
kind_of (maybe.UnknownRef (Some heap.NoExn)) = kind.UnknownNoExn
kind_of (maybe.UnknownRef (Some heap.Cont)) = kind.UnknownCont
kind_of (maybe.UnknownRef (Some heap.NoCont)) = kind.UnknownNoCont
kind_of (maybe.Known vals.I32) = kind.I32
kind_of (maybe.Known vals.I64) = kind.I64
kind_of (maybe.Known vals.F32) = kind.F32
kind_of (maybe.Known vals.F64) = kind.F64
kind_of (maybe.Known vals.V128) = kind.V128
kind_of (maybe.Known (vals.Ref r)) = kind.Ref r

-- what is known in each case
abbrev pub known_of : Kind → MaybeType
known_of kind.I32 = maybe.Known vals.I32
known_of kind.I64 = maybe.Known vals.I64
known_of kind.F32 = maybe.Known vals.F32
known_of kind.F64 = maybe.Known vals.F64
known_of kind.V128 = maybe.Known vals.V128
known_of (kind.Ref r) = maybe.Known (vals.Ref r)
known_of kind.Bottom = maybe.Bottom
known_of kind.Unknown = maybe.UnknownRef None
known_of kind.UnknownFunc = maybe.UnknownRef (Some heap.Func)
known_of kind.UnknownExtern = maybe.UnknownRef (Some heap.Extern)
known_of kind.UnknownAny = maybe.UnknownRef (Some heap.Any)
known_of kind.UnknownNone = maybe.UnknownRef (Some heap.None)
known_of kind.UnknownNoExtern = maybe.UnknownRef (Some heap.NoExtern)
known_of kind.UnknownNoFunc = maybe.UnknownRef (Some heap.NoFunc)
known_of kind.UnknownEq = maybe.UnknownRef (Some heap.Eq)
known_of kind.UnknownStruct = maybe.UnknownRef (Some heap.Struct)
known_of kind.UnknownArray = maybe.UnknownRef (Some heap.Array)
known_of kind.UnknownI31 = maybe.UnknownRef (Some heap.I31)
known_of kind.UnknownExn = maybe.UnknownRef (Some heap.Exn)
known_of kind.UnknownNoExn = maybe.UnknownRef (Some heap.NoExn)
known_of kind.UnknownCont = maybe.UnknownRef (Some heap.Cont)
known_of kind.UnknownNoCont = maybe.UnknownRef (Some heap.NoCont)

-- What is known of an operand, and the enum for it: no two cases say the same.
use Rattle.std.specs.Prelude.{◌≡◌, refl}
use Rattle.wasm_operator_validator_state.specs.declared.packed.Kind.{Kind}
use Rattle.wasm_operator_validator_state.specs.declared.packed.Kind.TheVariants as kind
use Rattle.wasm_operator_validator_state.specs.Packed.{kind_of, known_of}

pub same_kind : (k : Kind) → kind_of (known_of k) ≡ k
same_kind kind.I32 = refl
same_kind kind.I64 = refl
same_kind kind.F32 = refl
same_kind kind.F64 = refl
same_kind kind.V128 = refl
same_kind (kind.Ref r) = refl
same_kind kind.Bottom = refl
same_kind kind.Unknown = refl
same_kind kind.UnknownFunc = refl
same_kind kind.UnknownExtern = refl
same_kind kind.UnknownAny = refl
same_kind kind.UnknownNone = refl
same_kind kind.UnknownNoExtern = refl
same_kind kind.UnknownNoFunc = refl
same_kind kind.UnknownEq = refl
same_kind kind.UnknownStruct = refl
same_kind kind.UnknownArray = refl
same_kind kind.UnknownI31 = refl
same_kind kind.UnknownExn = refl
same_kind kind.UnknownNoExn = refl
same_kind kind.UnknownCont = refl
same_kind kind.UnknownNoCont = refl

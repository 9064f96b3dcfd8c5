-- Constant expressions (WebAssembly 3.0, validation, instructions, constant expressions).
--
-- An expression is constant where each of its operators is, and where it has the required type as a body without locals would,
-- in the context of what stands before it. Which globals it sees is the caller's to say; of these it may read the immutable ones,
-- and those of the module itself by the features of garbage collection alone.
use Rattle.std.specs.Prelude.{◌≡◌, ℕ, ◌≤◌, false, List, [], ◌∷◌, Some, slice_get, take}
use Rattle.wasm_types.specs.settings.Features.{ExtendedConst, Gc, SharedEverythingThreads}
use Rattle.wasm_types.specs.trees.Gates.{Has}
use Rattle.wasm_operators_enums.specs.declared.control.ControlOperator.{ControlOperator}
use Rattle.wasm_operators_enums.specs.declared.control.ControlOperator.TheVariants as control
use Rattle.wasm_operators_enums.specs.declared.memory.MemoryOperator.{MemoryOperator}
use Rattle.wasm_operators_enums.specs.declared.memory.MemoryOperator.TheVariants as memory
use Rattle.wasm_operators_enums.specs.declared.bulk.BulkOperator.{BulkOperator}
use Rattle.wasm_operators_enums.specs.declared.bulk.BulkOperator.TheVariants as bulk
use Rattle.wasm_operators_enums.specs.declared.numeric.NumericOperator.{NumericOperator}
use Rattle.wasm_operators_enums.specs.declared.numeric.NumericOperator.TheVariants as numeric
use Rattle.wasm_operators_enums.specs.declared.atomic.SharedOperator.{SharedOperator}
use Rattle.wasm_operators_enums.specs.declared.atomic.SharedOperator.TheVariants as shared
use Rattle.wasm_operators_enums.specs.declared.gc.GcOperator.{GcOperator}
use Rattle.wasm_operators_enums.specs.declared.gc.GcOperator.TheVariants as gc
use Rattle.wasm_operators_enums.specs.declared.gc.DescriptorOperator.{DescriptorOperator}
use Rattle.wasm_operators_enums.specs.declared.gc.DescriptorOperator.TheVariants as descriptor
use Rattle.wasm_operators_enums.specs.declared.vector.SimdOperator.{SimdOperator}
use Rattle.wasm_operators_enums.specs.declared.vector.SimdOperator.TheVariants as simd
use Rattle.wasm_operators_enums.specs.Op as op
use Rattle.wasm_operators_enums.specs.Op.{Op}
use Rattle.wasm_operators_encoding.specs.expressions.Code.{Code, walk}
use Rattle.wasm_operator_validator_rules.specs.Operands.{ValueType}
use Rattle.wasm_operator_validator_rules.specs.Context.{Module, Global, Context}
use Rattle.wasm_operator_validator_rules.specs.Typed.{IsBody}

-- ---- constant operators

-- standard: valid-constant: t.binop: add, sub, mul (differs: by extended-const)
-- sums, differences and products (validation, constant expressions)
abbrev pub IsConstantNumber : ℕ → NumericOperator → Type 0
IsConstantNumber bits numeric.I32Add = Has bits ExtendedConst
IsConstantNumber bits numeric.I32Sub = Has bits ExtendedConst
IsConstantNumber bits numeric.I32Mul = Has bits ExtendedConst
IsConstantNumber bits numeric.I64Add = Has bits ExtendedConst
IsConstantNumber bits numeric.I64Sub = Has bits ExtendedConst
IsConstantNumber bits numeric.I64Mul = Has bits ExtendedConst
IsConstantNumber bits o = ⊥

-- standard: valid-constant: struct.new, array.new, array.new_default, array.new_fixed, ref.i31, conversions (differs: by gc)
-- new structs and arrays, and references made of other values
abbrev pub IsConstantObject : ℕ → GcOperator → Type 0
IsConstantObject bits (gc.StructNew x) = Has bits Gc
IsConstantObject bits (gc.StructNewDefault x) = Has bits Gc
IsConstantObject bits (gc.ArrayNew x) = Has bits Gc
IsConstantObject bits (gc.ArrayNewDefault x) = Has bits Gc
IsConstantObject bits (gc.ArrayNewFixed x n) = Has bits Gc
IsConstantObject bits gc.RefI31 = Has bits Gc
IsConstantObject bits gc.AnyConvertExtern = Has bits Gc
IsConstantObject bits gc.ExternConvertAny = Has bits Gc
IsConstantObject bits o = ⊥

-- standard: proposal-custom-descriptors: constants
-- new structs with descriptors (the proposal on custom descriptors)
abbrev pub IsConstantDescribed : ℕ → DescriptorOperator → Type 0
IsConstantDescribed bits (descriptor.StructNewDesc x) = Has bits Gc
IsConstantDescribed bits (descriptor.StructNewDefaultDesc x) = Has bits Gc
IsConstantDescribed bits o = ⊥

-- standard: valid-constant: global.get of an immutable global (differs: of the module's own by gc)
-- a global that a constant may read, where the first so many are imported
abbrev pub IsConstantGlobal : ℕ → Module → ℕ → ℕ → Type 0
IsConstantGlobal bits g imported x = (v : Global) × (slice_get g.globals x ≡ Some v) × (v.mutable ≡ false) × (imported ≤ x → Has bits Gc)

-- standard: part of IsConstantOperator
abbrev pub IsConstantMemory : ℕ → Module → ℕ → MemoryOperator → Type 0
IsConstantMemory bits g imported (memory.GlobalGet x) = IsConstantGlobal bits g imported x
IsConstantMemory bits g imported o = ⊥

-- standard: valid-constant: ref.null, ref.func
abbrev pub IsConstantReference : BulkOperator → Type 0
IsConstantReference (bulk.RefNull h) = Unit {0}
IsConstantReference (bulk.RefFunc x) = Unit {0}
IsConstantReference o = ⊥

-- standard: part of IsConstantOperator
abbrev pub IsEnd : ControlOperator → Type 0
IsEnd control.End = Unit {0}
IsEnd o = ⊥

-- standard: proposal-shared-everything-threads: constants
-- a shared reference to a number (the proposal on shared everything)
abbrev pub IsConstantShared : ℕ → SharedOperator → Type 0
IsConstantShared bits shared.RefI31Shared = Has bits SharedEverythingThreads
IsConstantShared bits o = ⊥

-- standard: valid-constant: v128.const
-- a vector; whether vectors are judged, its row asks
abbrev pub IsConstantVector : SimdOperator → Type 0
IsConstantVector (simd.V128Const v) = Unit {0}
IsConstantVector o = ⊥

-- standard: valid-constant: t.const, and the other constant instructions
-- a constant operator, by these features, in this module, of whose globals the first so many are imported
abbrev pub IsConstantOperator : ℕ → Module → ℕ → Op → Type 0
IsConstantOperator bits g imported (op.Const o) = Unit {0}
IsConstantOperator bits g imported (op.Numeric o) = IsConstantNumber bits o
IsConstantOperator bits g imported (op.Memory o) = IsConstantMemory bits g imported o
IsConstantOperator bits g imported (op.Bulk o) = IsConstantReference o
IsConstantOperator bits g imported (op.Gc o) = IsConstantObject bits o
IsConstantOperator bits g imported (op.Descriptor o) = IsConstantDescribed bits o
IsConstantOperator bits g imported (op.Shared o) = IsConstantShared bits o
IsConstantOperator bits g imported (op.Control o) = IsEnd o
IsConstantOperator bits g imported (op.Simd o) = IsConstantVector o
IsConstantOperator bits g imported o = ⊥

-- standard: valid-constant: expr: each instruction
abbrev pub AreConstantOperators : ℕ → Module → ℕ → List Op → Type 0
AreConstantOperators bits g imported [] = Unit {0}
AreConstantOperators bits g imported (o ∷ os) = IsConstantOperator bits g imported o × AreConstantOperators bits g imported os

-- ---- constant expressions

-- standard: valid-expr: the context of a constant
-- the context of a constant: no locals, and one result
abbrev pub constant_context : ℕ → Module → ValueType → Context
constant_context bits g t = record {
  bits = bits;
  «module» = g;
  locals = [];
  labels = [];
  catches = [];
  results = t ∷ [];
  shared = false;
}

-- standard: valid-globals: the globals that are seen
-- the module with so many of its globals, from the first on
abbrev pub seeing : ℕ → Module → Module
seeing n g = record g { globals = take n g.globals }

-- standard: valid-constant: expr constant, and its type
-- a constant expression of this type
pub record IsConstant (bits : ℕ) (g : Module) (imported : ℕ) (t : ValueType) (c : Code) : Type 0 where
  pub operators : AreConstantOperators bits g imported (walk c)
  pub typed : IsBody (constant_context bits g t) 0 c

-- What a constant sees of a context decides whether it is one: the second context has it of the first.
use Rattle.std.proofs.Common.{◌≡◌, ℕ, List, [], ◌∷◌, subst, sym}
use Rattle.std.proofs.lemmas.Option.{slice_get_within}
use Rattle.wasm_types.specs.trees.Types.{HeapOf}
use Rattle.wasm_types.specs.trees.Trees.{TypeTree}
use Rattle.wasm_operators_immediates.specs.declared.frames.FrameKind.TheVariants.{Block}
use Rattle.wasm_operators_enums.specs.declared.control.ControlOperator.TheVariants as control
use Rattle.wasm_operators_enums.specs.declared.memory.MemoryOperator.{MemoryOperator}
use Rattle.wasm_operators_enums.specs.declared.memory.MemoryOperator.TheVariants as memory
use Rattle.wasm_operators_enums.specs.declared.bulk.BulkOperator.{BulkOperator}
use Rattle.wasm_operators_enums.specs.declared.bulk.BulkOperator.TheVariants as bulk
use Rattle.wasm_operators_enums.specs.declared.gc.GcOperator.{GcOperator}
use Rattle.wasm_operators_enums.specs.declared.gc.GcOperator.TheVariants as gc
use Rattle.wasm_operators_enums.specs.declared.gc.DescriptorOperator.{DescriptorOperator}
use Rattle.wasm_operators_enums.specs.declared.gc.DescriptorOperator.TheVariants as descriptor
use Rattle.wasm_operators_enums.specs.declared.atomic.SharedOperator.{SharedOperator}
use Rattle.wasm_operators_enums.specs.declared.atomic.SharedOperator.TheVariants as shared
use Rattle.wasm_operators_enums.specs.declared.vector.SimdOperator.{SimdOperator}
use Rattle.wasm_operators_enums.specs.declared.vector.SimdOperator.TheVariants as simd
use Rattle.wasm_operators_enums.specs.Op as op
use Rattle.wasm_operators_enums.specs.Op.{Op}
use Rattle.wasm_operators_encoding.specs.expressions.Code.{Code, close, plain, nested, turn, walk}
use Rattle.wasm_operator_validator_rules.specs.Operands.{ValueType, Operand}
use Rattle.wasm_operator_validator_rules.specs.Context.{Module, Context, Initialised, Signature, Frame, inside}
use Rattle.wasm_operator_validator_rules.specs.Descriptors.{DescriptorRow}
use Rattle.wasm_operator_validator_rules.specs.Objects.{GcRow}
use Rattle.wasm_operator_validator_rules.specs.SharedAccesses.{SharedRow}
use Rattle.wasm_operator_validator_rules.specs.Taken.{TableRow}
use Rattle.wasm_operator_validator_rules.specs.Row.{Row, MemoryRow, BulkRow, IsReferenceTo, of_type, of_exactly, after}
use Rattle.wasm_operator_validator_rules.specs.Typed.{Steps, Typed, HasType, block_type_of}
use Rattle.wasm_operator_validator_rules.specs.constants.Constants.{IsConstantOperator, IsConstantObject, IsConstantMemory, IsConstantReference, IsConstantDescribed, IsConstantShared, IsConstantVector, AreConstantOperators, constant_context, IsConstant}
use Rattle.wasm_module_validator_rules.specs.Spaces.{referred_by, referred_in}
use Rattle.wasm_module_validator_rules_in_order.specs.contexts.Agreement.{AgreeForConstants, MayReferToEach}
use Rattle.wasm_module_validator_rules_in_order.specs.contexts.laws.Lists.{each_left, each_right}
use Rattle.wasm_module_validator_rules_in_order.specs.contexts.laws.Types.{type_agrees}

-- no constant operator opens a block
pub opens_none : (bits : ℕ) (g : Module) (count : ℕ) (c : Context) (o : Op) (b : Signature) → IsConstantOperator bits g count o → HasType c (block_type_of o) b → ⊥
opens_none bits g count c (op.Control control.End) b k h = h
opens_none bits g count c (op.Control o) b k h = absurd k
opens_none bits g count c (op.Exception o) b k h = absurd k
opens_none bits g count c o b k h = h

module _ (g h : Module) where
  -- the second context, with what a constant sees of the first
  abbrev seen_as : Module
  seen_as = record h { types = g.types; functions = g.functions; globals = g.globals; exact_functions = g.exact_functions }

  seen_is : AgreeForConstants g h → seen_as ≡ h
  seen_is e = λ i. record h { types = e.types i; functions = e.functions i; globals = e.globals i; exact_functions = e.exact_functions i }

  module _ (bits count : ℕ) (t : ValueType) where
    -- where a constant of this type is typed, in a module
    abbrev within : Module → Context
    within x = inside Block (t ∷ []) (constant_context bits x t)

    reference_as : (x : ℕ) (u : TypeTree) (p : HeapOf TypeTree) → IsReferenceTo (within g) x u p → IsReferenceTo (within seen_as) x u p
    reference_as x u p of_type = of_type
    reference_as x u p (of_exactly k l) = of_exactly k l

    bulk_as : (o : BulkOperator) (popped pushed : List Operand) → IsConstantReference o → MayReferToEach seen_as (referred_by (op.Bulk o)) → BulkRow (within g) o popped pushed
        → BulkRow (within seen_as) o popped pushed
    bulk_as (bulk.RefNull p) popped pushed k m r = (r.0, type_agrees g seen_as (record { types = λ i. g.types }) bits _ r.0 r.1, r.2, r.3)
    bulk_as (bulk.RefFunc x) popped pushed k m r =
        (r.0, r.1, r.2, m.0 (slice_get_within g.functions x r.0 r.2), r.4, reference_as x r.0 r.1 r.5, r.6)
    bulk_as o popped pushed k m r = absurd k

    memory_as : (set : Initialised) (o : MemoryOperator) (popped pushed : List Operand) → IsConstantMemory bits g count o → MemoryRow (within g) set o popped pushed
        → MemoryRow (within seen_as) set o popped pushed
    memory_as set (memory.GlobalGet x) popped pushed k r = r
    memory_as set o popped pushed k r = absurd k

    -- types are the same in both, and a constant asks nothing else
    gc_as : (o : GcOperator) (popped pushed : List Operand) → IsConstantObject bits o → GcRow (within g) o popped pushed → GcRow (within seen_as) o popped pushed
    gc_as (gc.StructNew x) popped pushed k r = r
    gc_as (gc.StructNewDefault x) popped pushed k r = r
    gc_as (gc.ArrayNew x) popped pushed k r = r
    gc_as (gc.ArrayNewDefault x) popped pushed k r = r
    gc_as (gc.ArrayNewFixed x n) popped pushed k r = r
    gc_as gc.RefI31 popped pushed k r = r
    gc_as gc.AnyConvertExtern popped pushed k r = r
    gc_as gc.ExternConvertAny popped pushed k r = r
    gc_as o popped pushed k r = absurd k

    descriptor_as : (o : DescriptorOperator) (popped pushed : List Operand) → IsConstantDescribed bits o → DescriptorRow (within g) o popped pushed
        → DescriptorRow (within seen_as) o popped pushed
    descriptor_as (descriptor.StructNewDesc x) popped pushed k r = (r.0, r.1, record { struct = r.2.struct; descriptor = r.2.descriptor }, r.3)
    descriptor_as (descriptor.StructNewDefaultDesc x) popped pushed k r = (r.0, r.1, record { struct = r.2.struct; descriptor = r.2.descriptor }, r.3, r.4)
    descriptor_as o popped pushed k r = absurd k

    shared_as : (o : SharedOperator) (popped pushed : List Operand) → IsConstantShared bits o → SharedRow (within g) o popped pushed → SharedRow (within seen_as) o popped pushed
    shared_as shared.RefI31Shared popped pushed k r = r
    shared_as o popped pushed k r = absurd k

    vector_as : (o : SimdOperator) (popped pushed : List Operand) → IsConstantVector o → TableRow (within g) (op.Simd o) popped pushed
        → TableRow (within seen_as) (op.Simd o) popped pushed
    vector_as (simd.V128Const v) popped pushed k r = r
    vector_as o popped pushed k r = absurd k

    row_as : (set : Initialised) (o : Op) (popped pushed : List Operand) → IsConstantOperator bits g count o → MayReferToEach seen_as (referred_by o) → Row (within g) set o popped pushed
        → Row (within seen_as) set o popped pushed
    row_as set (op.Const o) popped pushed k m r = r
    row_as set (op.Numeric o) popped pushed k m r = r
    row_as set (op.Memory o) popped pushed k m r = (r.0, memory_as set o popped pushed k r.1)
    row_as set (op.Bulk o) popped pushed k m r = (r.0, bulk_as o popped pushed k m r.1)
    row_as set (op.Gc o) popped pushed k m r = (r.0, gc_as o popped pushed k r.1)
    row_as set (op.Descriptor o) popped pushed k m r = (r.0, descriptor_as o popped pushed k r.1)
    row_as set (op.Shared o) popped pushed k m r = (r.0, shared_as o popped pushed k r.1)
    row_as set (op.Simd o) popped pushed k m r = (r.0, vector_as o popped pushed k r.1)
    row_as set (op.Control control.End) popped pushed k m r = r
    row_as set o popped pushed k m r = absurd k

    steps_as : (set : Initialised) (o : Op) (s u : List Operand) → IsConstantOperator bits g count o → MayReferToEach seen_as (referred_by o) → Steps (within g) set o s u
        → Steps (within seen_as) set o s u
    steps_as set o s u k m y = (y.0, y.1, y.2, row_as set o y.0 y.1 k m y.3, y.4, y.5)

    typed_as : (f : Frame) (set : Initialised) (c : Code) (s : List Operand) → AreConstantOperators bits g count (walk c) → MayReferToEach seen_as (referred_in c) → Typed (within g) f set c s
        → Typed (within seen_as) f set c s
    typed_as f set (close (op.Control control.End)) s k m y = y
    typed_as f set (close (op.Exception o)) s k m y = absurd k.0
    typed_as f set (close o) s k m y = absurd y.2
    typed_as f set (plain o more) s k m y =
        (y.0, steps_as set o s y.0 k.0 (each_left _ (referred_by o) (referred_in more) m) y.1, typed_as f (after o set) more y.0 k.1 (each_right _ (referred_by o) (referred_in more) m) y.2)
    typed_as f set (nested o body more) s k m y = absurd (opens_none bits g count (within g) o y.1 k.0 y.3.1)
    typed_as f set (turn (op.Control control.Else) more) s k m y = absurd k.0
    typed_as f set (turn (op.Exception o) more) s k m y = absurd k.0
    typed_as f set (turn o more) s k m y = absurd y.1

    constant_as : (c : Code) → MayReferToEach seen_as (referred_in c) → IsConstant bits g count t c → IsConstant bits seen_as count t c
    constant_as c m k = record { operators = k.operators; typed = record { expression = k.typed.expression; typed = typed_as _ _ c [] k.operators m k.typed.typed } }

    pub constant_agrees : AgreeForConstants g h → (c : Code) → MayReferToEach h (referred_in c) → IsConstant bits g count t c → IsConstant bits h count t c
    constant_agrees e c m k =
        let may = subst (λ (x : Module). MayReferToEach x (referred_in c)) (sym (seen_is e)) m in
        subst (λ (x : Module). IsConstant bits x count t c) (seen_is e) (constant_as c may k)

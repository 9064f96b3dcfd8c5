-- Bodies of functions: the second context has all of the first but the functions that code may refer to, and of these at least as many.
use Rattle.std.proofs.Common.{◌≡◌, ◌<◌, ℕ, Bool, false, List, [], ◌∷◌, ◌++◌, Option, Some, None, length, refl, subst}
use Rattle.std.proofs.lemmas.Option.{slice_get_within}
use Rattle.wasm_types.specs.settings.Settings.{Settings}
use Rattle.wasm_types.specs.trees.Types.{HeapOf}
use Rattle.wasm_types.specs.trees.Trees.{TypeTree}
use Rattle.wasm_types.specs.values.declared.heap.HeapType.{HeapType}
use Rattle.wasm_types.specs.values.declared.value.ValType.{ValType}
use Rattle.wasm_types.specs.values.Reference.{Reference}
use Rattle.wasm_operators_immediates.specs.declared.block.BlockType.{BlockType}
use Rattle.wasm_operators_immediates.specs.declared.block.BlockType.TheVariants as block
use Rattle.wasm_operators_immediates.specs.declared.handlers.Catch.{Catch}
use Rattle.wasm_operators_immediates.specs.declared.handlers.Catch.TheVariants as clause
use Rattle.wasm_operators_immediates.specs.declared.handlers.Handle.{Handle}
use Rattle.wasm_operators_immediates.specs.declared.handlers.Handle.TheVariants as handler
use Rattle.wasm_operators_enums.specs.declared.atomic.SharedOperator.{SharedOperator}
use Rattle.wasm_operators_enums.specs.declared.atomic.SharedOperator.TheVariants as shared_access
use Rattle.wasm_operators_enums.specs.declared.gc.DescriptorOperator.{DescriptorOperator}
use Rattle.wasm_operators_enums.specs.declared.gc.DescriptorOperator.TheVariants as descriptor
use Rattle.wasm_operators_enums.specs.declared.vector.SimdOperator.{SimdOperator}
use Rattle.wasm_operators_enums.specs.declared.control.ControlOperator.{ControlOperator}
use Rattle.wasm_operators_enums.specs.declared.control.ControlOperator.TheVariants as control
use Rattle.wasm_operators_enums.specs.declared.memory.MemoryOperator.{MemoryOperator}
use Rattle.wasm_operators_enums.specs.declared.memory.MemoryOperator.TheVariants as memory
use Rattle.wasm_operators_enums.specs.declared.bulk.BulkOperator.{BulkOperator}
use Rattle.wasm_operators_enums.specs.declared.bulk.BulkOperator.TheVariants as bulk
use Rattle.wasm_operators_enums.specs.declared.gc.GcOperator.{GcOperator}
use Rattle.wasm_operators_enums.specs.declared.gc.GcOperator.TheVariants as gc
use Rattle.wasm_operators_enums.specs.Op as op
use Rattle.wasm_operators_enums.specs.Op.{Op, ParametricTree, ExceptionTree, ContinuationTree}
use Rattle.wasm_operators_encoding.specs.expressions.Code.{Code, close, plain, nested, turn}
use Rattle.wasm_operator_validator_rules.specs.Operands.{ValueType, Operand, stack}
use Rattle.wasm_operator_validator_rules.specs.Context.{Module, Table, Context, Initialised, Signature, Frame, IsType, IsBlockType, is_catch, label_of, marked}
use Rattle.wasm_operator_validator_rules.specs.Aggregates.{Struct}
use Rattle.wasm_operator_validator_rules.specs.Continuations.{ContinuationRow, IsCaught, IsSwitched, EachHandles, IsBound, IsSwitch}
use Rattle.wasm_operator_validator_rules.specs.Descriptors.{DescriptorRow, IsDescribed, IsDescribedHeap}
use Rattle.wasm_operator_validator_rules.specs.Exceptions.{ExceptionRow, EachCatches}
use Rattle.wasm_operator_validator_rules.specs.InstructionTypes.{InstructionType, where_vectors, work_type}
use Rattle.wasm_operator_validator_rules.specs.Objects.{IsCast, GcRow}
use Rattle.wasm_operator_validator_rules.specs.Row.{Row, ControlRow, ParametricRow, MemoryRow, BulkRow, IsIndirect, IsLocal, IsReferenceTo, of_type, of_exactly, after, IsOneOf}
use Rattle.wasm_operator_validator_rules.specs.SharedAccesses.{SharedRow}
use Rattle.wasm_operator_validator_rules.specs.Taken.{TableRow}
use Rattle.wasm_operator_validator_rules.specs.Vectors.{VectorWork, on_lanes, reaches, work_of}
use Rattle.wasm_operator_validator_rules.specs.Typed.{Steps, Typed, HasType, MayNest, block_type_of, other_part, IsBody}
use Rattle.wasm_module_validator_rules.specs.Syntax.{Function}
use Rattle.wasm_module_validator_rules.specs.Valid.{IsValidValueType, IsValidFunction, HasValidBody}
use Rattle.wasm_module_validator_rules_in_order.specs.contexts.Agreement.{AgreeForCode}
use Rattle.wasm_module_validator_rules_in_order.specs.contexts.laws.Lists.{each_from}

module _ (g : Module) (rs : List ℕ) (more_of : (x : ℕ) → x < length g.functions → IsOneOf x g.referenced → IsOneOf x rs) where
  -- the first context, with these functions to refer to
  abbrev referring : Module
  referring = record g { referenced = rs }

  module _ (bits : ℕ) (locals results : List ValueType) (shared : Bool) where
    -- a place in a body, in a module
    abbrev at : Module → List (List ValueType) → List Bool → Context
    at x ls cs = record { bits = bits; «module» = x; locals = locals; labels = ls; catches = cs; results = results; shared = shared }

    type_as : (v : ValType) (t : ValueType) → IsType bits g v t → IsType bits referring v t
    type_as v t k = record { allowed = k.allowed; known = k.known; is = k.is }

    module _ (ls : List (List ValueType)) (cs : List Bool) where
      indirect_as : (y x : ℕ) (t : Table) (b : Signature) → IsIndirect (at g ls cs) y x t b → IsIndirect (at referring ls cs) y x t b
      indirect_as y x t b k = record {
        table = k.table;
        table_used = k.table_used;
        functions = k.functions;
        callee = k.callee;
        type = k.type;
        type_used = k.type_used;
        function = k.function;
      }

      control_as : (o : ControlOperator) (popped pushed : List Operand) → ControlRow (at g ls cs) o popped pushed → ControlRow (at referring ls cs) o popped pushed
      control_as (control.CallIndirect y x) popped pushed r = (r.0, r.1, indirect_as y x r.0 r.1 r.2, r.3)
      control_as (control.ReturnCallIndirect y x) popped pushed r = (r.0, r.1, r.2, indirect_as y x r.0 r.1 r.3, r.4, r.5)
      control_as o popped pushed r = r

      parametric_as : (o : ParametricTree) (popped pushed : List Operand) → ParametricRow (at g ls cs) o popped pushed → ParametricRow (at referring ls cs) o popped pushed
      parametric_as op.Drop popped pushed r = r
      parametric_as op.Select popped pushed r = r
      parametric_as (op.TypedSelect v) popped pushed r = (r.0, type_as v r.0 r.1, r.2, r.3)
      parametric_as (op.TypedSelectMulti vs) popped pushed r = r

      local_as : (x : ℕ) (t : ValueType) → IsLocal (at g ls cs) x t → IsLocal (at referring ls cs) x t
      local_as x t k = record { local = k.local; used = k.used }

      memory_as : (set : Initialised) (o : MemoryOperator) (popped pushed : List Operand) → MemoryRow (at g ls cs) set o popped pushed → MemoryRow (at referring ls cs) set o popped pushed
      memory_as set (memory.LocalGet x) popped pushed r = (r.0, local_as x r.0 r.1, r.2, r.3)
      memory_as set (memory.LocalSet x) popped pushed r = (r.0, local_as x r.0 r.1, r.2)
      memory_as set (memory.LocalTee x) popped pushed r = (r.0, local_as x r.0 r.1, r.2)
      memory_as set o popped pushed r = r

      reference_as : (x : ℕ) (u : TypeTree) (p : HeapOf TypeTree) → IsReferenceTo (at g ls cs) x u p → IsReferenceTo (at referring ls cs) x u p
      reference_as x u p of_type = of_type
      reference_as x u p (of_exactly k l) = of_exactly k l

      bulk_as : (o : BulkOperator) (popped pushed : List Operand) → BulkRow (at g ls cs) o popped pushed → BulkRow (at referring ls cs) o popped pushed
      bulk_as (bulk.RefNull p) popped pushed r = (r.0, type_as _ r.0 r.1, r.2, r.3)
      bulk_as (bulk.RefFunc x) popped pushed r = (r.0, r.1, r.2, more_of x (slice_get_within g.functions x r.0 r.2) r.3, r.4, reference_as x r.0 r.1 r.5, r.6)
      bulk_as o popped pushed r = r

      exception_as : (o : ExceptionTree) (popped pushed : List Operand) → ExceptionRow (at g ls cs) o popped pushed → ExceptionRow (at referring ls cs) o popped pushed
      exception_as (op.Throw x) popped pushed r = r
      exception_as (op.Rethrow l) popped pushed r = r
      exception_as op.ThrowRef popped pushed r = r
      exception_as o popped pushed r = absurd r

      cast_as : (from to : Reference) (p q : HeapOf TypeTree) → IsCast (at g ls cs) from to p q → IsCast (at referring ls cs) from to p q
      cast_as from to p q k = record {
        from_named = k.from_named;
        to_named = k.to_named;
        from_castable = k.from_castable;
        to_castable = k.to_castable;
        below = k.below;
      }

      gc_as : (o : GcOperator) (popped pushed : List Operand) → GcRow (at g ls cs) o popped pushed → GcRow (at referring ls cs) o popped pushed
      gc_as (gc.BrOnCast l from to) popped pushed r = (r.0, r.1, cast_as from to r.0 r.1 r.2, r.3)
      gc_as (gc.BrOnCastFail l from to) popped pushed r = (r.0, r.1, cast_as from to r.0 r.1 r.2, r.3)
      gc_as o popped pushed r = r

      described_as : (x : ℕ) (s : Struct) (d : TypeTree) → IsDescribed (at g ls cs) x s d → IsDescribed (at referring ls cs) x s d
      described_as x s d k = record { struct = k.struct; descriptor = k.descriptor }

      described_heap_as : (h : HeapType) (p d : HeapOf TypeTree) → IsDescribedHeap (at g ls cs) h p d → IsDescribedHeap (at referring ls cs) h p d
      described_heap_as h p d k = record { named = k.named; castable = k.castable; descriptor = k.descriptor }

      descriptor_as : (o : DescriptorOperator) (popped pushed : List Operand) → DescriptorRow (at g ls cs) o popped pushed → DescriptorRow (at referring ls cs) o popped pushed
      descriptor_as (descriptor.StructNewDesc x) popped pushed r = (r.0, r.1, described_as x r.0 r.1 r.2, r.3)
      descriptor_as (descriptor.StructNewDefaultDesc x) popped pushed r = (r.0, r.1, described_as x r.0 r.1 r.2, r.3, r.4)
      descriptor_as (descriptor.RefGetDesc x) popped pushed r = r
      descriptor_as (descriptor.RefCastDescEqNonNull h) popped pushed r = (r.0, r.1, described_heap_as h r.0 r.1 r.2, r.3)
      descriptor_as (descriptor.RefCastDescEqNullable h) popped pushed r = (r.0, r.1, described_heap_as h r.0 r.1 r.2, r.3)
      descriptor_as (descriptor.BrOnCastDescEq l from to) popped pushed r = (r.0, r.1, r.2, cast_as from to r.0 r.1 r.3, r.4, r.5)
      descriptor_as (descriptor.BrOnCastDescEqFail l from to) popped pushed r = (r.0, r.1, r.2, cast_as from to r.0 r.1 r.3, r.4, r.5)

      shared_as : (o : SharedOperator) (popped pushed : List Operand) → SharedRow (at g ls cs) o popped pushed → SharedRow (at referring ls cs) o popped pushed
      shared_as shared_access.RefI31Shared popped pushed r = r
      shared_as o popped pushed r = r

      caught_as : (rs : List ValueType) (x l : ℕ) → IsCaught (at g ls cs) rs x l → IsCaught (at referring ls cs) rs x l
      caught_as rs x l k = record {
        tag = k.tag;
        tag_named = k.tag_named;
        carried = k.carried;
        nullable = k.nullable;
        left = k.left;
        label = k.label;
        fits = k.fits;
        rest = k.rest;
        goes_on = k.goes_on;
        matches = k.matches;
      }

      switched_as : (rs : List ValueType) (x : ℕ) → IsSwitched (at g ls cs) rs x → IsSwitched (at referring ls cs) rs x
      switched_as rs x k = record { tag = k.tag; tag_named = k.tag_named; fits = k.fits; back = k.back }

      handled_as : (rs : List ValueType) (hs : List Handle) → EachHandles (at g ls cs) rs hs → EachHandles (at referring ls cs) rs hs
      handled_as rs [] k = k
      handled_as rs (handler.OnLabel x l ∷ hs) k = (caught_as rs x l k.0, handled_as rs hs k.1)
      handled_as rs (handler.OnSwitch x ∷ hs) k = (switched_as rs x k.0, handled_as rs hs k.1)

      bound_as : (x y : ℕ) (t u : TypeTree) (bound : List ValueType) → IsBound (at g ls cs) x y t u bound → IsBound (at referring ls cs) x y t u bound
      bound_as x y t u bound k = record {
        old = k.old;
        old_named = k.old_named;
        new = k.new;
        new_named = k.new_named;
        rest = k.rest;
        params = k.params;
        fits = k.fits;
      }

      switch_as : (x e : ℕ) (t : TypeTree) (carried : List ValueType) (own : Signature) → IsSwitch (at g ls cs) x e t carried own → IsSwitch (at referring ls cs) x e t carried own
      switch_as x e t carried own k = record {
        next = k.next;
        next_named = k.next_named;
        nullable = k.nullable;
        left = k.left;
        params = k.params;
        goes_on = k.goes_on;
        tag = k.tag;
        tag_named = k.tag_named;
        fits = k.fits;
        back = k.back;
      }

      continuation_as : (o : ContinuationTree) (popped pushed : List Operand) → ContinuationRow (at g ls cs) o popped pushed → ContinuationRow (at referring ls cs) o popped pushed
      continuation_as (op.ContNew x) popped pushed r = r
      continuation_as (op.ContBind x y) popped pushed r = (r.0, r.1, r.2, bound_as x y r.0 r.1 r.2 r.3, r.4)
      continuation_as (op.Suspend x) popped pushed r = r
      continuation_as (op.Resume x hs) popped pushed r = (r.0, r.1, r.2, handled_as r.1.results hs r.3, r.4)
      continuation_as (op.ResumeThrow x e hs) popped pushed r = (r.0, r.1, r.2, r.3, r.4, handled_as r.1.results hs r.5, r.6)
      continuation_as (op.ResumeThrowRef x hs) popped pushed r = (r.0, r.1, r.2, handled_as r.1.results hs r.3, r.4)
      continuation_as (op.Switch x e) popped pushed r = (r.0, r.1, r.2, switch_as x e r.0 r.1 r.2 r.3, r.4)

      work_as : (w : VectorWork) → work_type (at g ls cs) w ≡ work_type (at referring ls cs) w
      work_as (on_lanes c) = refl
      work_as (reaches a) = refl

      vector_as : (o : SimdOperator) (popped pushed : List Operand) → TableRow (at g ls cs) (op.Simd o) popped pushed → TableRow (at referring ls cs) (op.Simd o) popped pushed
      vector_as o popped pushed r = (r.0, subst (λ (q : Option InstructionType). where_vectors (at referring ls cs) q ≡ Some r.0) (work_as (work_of o)) r.1, r.2)

      row_as : (set : Initialised) (o : Op) (popped pushed : List Operand) → Row (at g ls cs) set o popped pushed → Row (at referring ls cs) set o popped pushed
      row_as set (op.Control o) popped pushed r = (r.0, control_as o popped pushed r.1)
      row_as set (op.Parametric o) popped pushed r = (r.0, parametric_as o popped pushed r.1)
      row_as set (op.Memory o) popped pushed r = (r.0, memory_as set o popped pushed r.1)
      row_as set (op.Bulk o) popped pushed r = (r.0, bulk_as o popped pushed r.1)
      row_as set (op.Exception o) popped pushed r = (r.0, exception_as o popped pushed r.1)
      row_as set (op.Gc o) popped pushed r = (r.0, gc_as o popped pushed r.1)
      row_as set (op.Descriptor o) popped pushed r = (r.0, descriptor_as o popped pushed r.1)
      row_as set (op.Shared o) popped pushed r = (r.0, shared_as o popped pushed r.1)
      row_as set (op.Continuation o) popped pushed r = (r.0, continuation_as o popped pushed r.1)
      row_as set (op.Simd o) popped pushed r = (r.0, vector_as o popped pushed r.1)
      row_as set o popped pushed r = r

      steps_as : (set : Initialised) (o : Op) (s u : List Operand) → Steps (at g ls cs) set o s u → Steps (at referring ls cs) set o s u
      steps_as set o s u y = (y.0, y.1, y.2, row_as set o y.0 y.1 y.3, y.4, y.5)

      block_as : (t : BlockType) (b : Signature) → IsBlockType (at g ls cs) t b → IsBlockType (at referring ls cs) t b
      block_as block.Empty b k = k
      block_as (block.Val v) b k = (k.0, type_as v k.0 k.1, k.2)
      block_as (block.FuncType x) b k = k

      opener_as : (t : Option BlockType) (b : Signature) → HasType (at g ls cs) t b → HasType (at referring ls cs) t b
      opener_as None b k = k
      opener_as (Some t) b k = block_as t b k

      each_as : (clauses : List Catch) → EachCatches (at g ls cs) clauses → EachCatches (at referring ls cs) clauses
      each_as [] k = k
      each_as (clause.One x l ∷ more) k = (k.0, each_as more k.1)
      each_as (clause.OneRef x l ∷ more) k = (k.0, each_as more k.1)
      each_as (clause.All l ∷ more) k = (k.0, each_as more k.1)
      each_as (clause.AllRef l ∷ more) k = (k.0, each_as more k.1)

      nest_as : (o : Op) → MayNest (at g ls cs) o → MayNest (at referring ls cs) o
      nest_as (op.Exception (op.TryTable t)) k = (k.0, each_as t.catches k.1)
      nest_as (op.Exception o) k = k
      nest_as o k = tt

    typed_as : (ls : List (List ValueType)) (cs : List Bool) (f : Frame) (set : Initialised) (c : Code) (s : List Operand)
        → Typed (at g ls cs) f set c s → Typed (at referring ls cs) f set c s
    typed_as ls cs f set (close (op.Control control.End)) s y = y
    typed_as ls cs f set (close (op.Exception (op.Delegate l))) s y = y
    typed_as ls cs f set (close o) s y = absurd y.2
    typed_as ls cs f set (plain o more) s y = (y.0, steps_as ls cs set o s y.0 y.1, typed_as ls cs f (after o set) more y.0 y.2)
    typed_as ls cs f set (nested o body more) s y = (
      y.0,
      y.1,
      y.2,
      (y.3.0, opener_as ls cs (block_type_of o) y.1 y.3.1, nest_as ls cs o y.3.2),
      y.4,
      typed_as (label_of y.0 y.1 ∷ ls) (is_catch y.0 ∷ cs) (record { kind = y.0; block = y.1; before = set }) set body (stack y.1.params) y.5,
      typed_as ls cs f set more (stack y.1.results ++ y.2) y.6,
    )
    typed_as ls cs f set (turn (op.Control control.Else) more) s y =
        (y.0, y.1, y.2, typed_as ls cs (other_part (op.Control control.Else) f) f.before more (stack y.0) y.3)
    typed_as ls cs f set (turn (op.Exception (op.Catch x)) more) s y =
        (y.0, y.1, y.2, typed_as ls (marked cs) (other_part (op.Exception (op.Catch x)) f) f.before more (stack y.0) y.3)
    typed_as ls cs f set (turn (op.Exception op.CatchAll) more) s y =
        (y.0, y.1, y.2, typed_as ls (marked cs) (other_part (op.Exception op.CatchAll) f) f.before more (stack y.0) y.3)
    typed_as ls cs f set (turn o more) s y = absurd y.1

    body_as : (params : ℕ) (c : Code) → IsBody (at g [] []) params c → IsBody (at referring [] []) params c
    body_as params c k = record { expression = k.expression; typed = typed_as (results ∷ []) (false ∷ []) _ _ c [] k.typed }

  value_as : (z : Settings) (v : ValType) → IsValidValueType z g v → IsValidValueType z referring v
  value_as z v k = (k.0, record { allowed = k.1.allowed; known = k.1.known; is = k.1.is })

  function_as : (z : Settings) (t : TypeTree) (f : Function) → IsValidFunction z g t f → IsValidFunction z referring t f
  function_as z t f k = record {
    signature = k.signature;
    function = k.function;
    locals = each_from (λ l. IsValidValueType z referring l.type) (λ l. IsValidValueType z g l.type) (λ l h. value_as z l.type h) f.locals k.locals;
    within = k.within;
    body = body_as z.features _ k.signature.results _ (length k.signature.params) f.body k.body;
  }

pub body_agrees : (g h : Module) → AgreeForCode g h → ((x : ℕ) → x < length g.functions → IsOneOf x g.referenced → IsOneOf x h.referenced)
    → (z : Settings) (x : ℕ) (f : Function) → HasValidBody z g x f → HasValidBody z h x f
body_agrees g h e more_of z x f k =
    let there : referring g h.referenced more_of ≡ h = λ i. record h {
      types = e.types i;
      functions = e.functions i;
      tables = e.tables i;
      memories = e.memories i;
      globals = e.globals i;
      tags = e.tags i;
      elements = e.elements i;
      data_count = e.data_count i;
      exact_functions = e.exact_functions i;
    } in
    subst (λ (y : Module). HasValidBody z y x f) there (k.0, k.1, function_as g h.referenced more_of z k.0 f k.2)

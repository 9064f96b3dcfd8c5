-- What is answered of numbers of operands: they end at 32 bits; a type by its id, or by any index, or none; and for each operator what the
-- table has.
use Rattle.std.specs.Prelude.{◌≡◌, ℕ, Bool, true, false, [], ◌∷◌, Some, None}
use Rattle.wasm_types.specs.trees.declared.index.UnpackedIndex.{UnpackedIndex}
use Rattle.wasm_types.specs.trees.declared.index.UnpackedIndex.TheVariants.{Module, RecGroup, Id}
use Rattle.wasm_types.specs.trees.Types.{i32, i64, number, ref, abstract, concrete, exact, func, any, none, function, continuation}
use Rattle.wasm_types.specs.trees.ValidGroup.{type_at}
use Rattle.wasm_types.specs.trees.worked.Types.{alone, declared_entry}
use Rattle.wasm_types.specs.values.declared.heap.HeapType.TheVariants as heap
use Rattle.wasm_types.specs.values.declared.heap.AbstractHeapType.TheVariants as abstract_heap
use Rattle.wasm_types.specs.values.declared.value.ValType.TheVariants as value_type
use Rattle.wasm_operator_validator_state.specs.resources.Meaning.{Meaning, IsKnownIndex, named_type, heap_in, type_in, reference_in, function_in, global_in, table_in, top_heap}
use Rattle.wasm_operator_validator_state.specs.resources.Answers.{IsTypeOf}
use Rattle.wasm_operators_enums.specs.Op as op
use Rattle.wasm_operators_enums.specs.declared.control.ControlOperator.TheVariants as control
use Rattle.wasm_operators_enums.specs.declared.numeric.NumericOperator.TheVariants as numeric
use Rattle.wasm_operators_immediates.specs.declared.block.BlockType.TheVariants as block
use Rattle.wasm_operators_immediates.specs.declared.frames.FrameKind.TheVariants as frames
use Rattle.wasm_operator_validator_rules.specs.arity.Arity.{in_u32}
use Rattle.wasm_operator_validator_rules.specs.arity.Worked.{small_module, splitting, pair, within}
use Rattle.wasm_operator_validator_constants.specs.arity.Knowing.{ended, type_by_id, type_named, type_of_heap, type_referred, function_by_id, function_named, known_by, answer_for}

-- ---- numbers

pub record CountsEnd : Type 0 where
  pub few : in_u32 7 ≡ 7
  pub most : in_u32 4294967295 ≡ 4294967295
  pub one_more : in_u32 4294967296 ≡ 4294967295
  pub many_taken : ended (Some (4294967296, 3)) ≡ Some (4294967295, 3)
  pub many_given : ended (Some (3, 4294967297)) ≡ Some (3, 4294967295)
  pub unknown : ended None ≡ None

-- ---- names of types

-- the module of `Worked`, in a list where its struct has the id 0 and its function type the id 1
abbrev pub listed : Meaning
listed = record { «module» = small_module; ids = pair ∷ splitting ∷ [] }

-- the id of a number, as an index
abbrev pub id : ℕ → UnpackedIndex
id n = Id (record { 0 = n })

pub record NamesAnswered : Type 0 where
  pub known : type_by_id listed (id 1) ≡ Some splitting
  pub unknown : type_by_id listed (id 2) ≡ None
  pub index : type_by_id listed (Module 1) ≡ None
  pub place : type_by_id listed (RecGroup 0) ≡ None
  pub abstract_type : (s : Bool) → type_of_heap listed (heap.Abstract s abstract_heap.Func) ≡ None
  pub below : type_of_heap listed (heap.Concrete (id 0)) ≡ Some pair
  pub itself : type_of_heap listed (heap.Exact (id 0)) ≡ Some pair
  pub of_function : function_by_id listed (id 1) ≡ Some (function (number i64 ∷ []) (number i32 ∷ number i32 ∷ []))
  pub no_function : function_by_id listed (id 0) ≡ None
  pub no_type : function_by_id listed (id 2) ≡ None
  pub index_of_function : function_by_id listed (Module 0) ≡ None
  pub named_by_id : type_named listed (id 0) ≡ Some pair
  pub named_by_index : type_named listed (Module 0) ≡ Some splitting
  pub named_by_place : type_named listed (RecGroup 1) ≡ Some pair
  pub no_id : type_named listed (id 2) ≡ None
  pub no_index : type_named listed (Module 9) ≡ None
  pub function_by_index : function_named listed (Module 0) ≡ Some (function (number i64 ∷ []) (number i32 ∷ number i32 ∷ []))
  pub no_function_by_index : function_named listed (Module 1) ≡ None
  pub referred : type_referred listed (value_type.Ref (record { nullable = true; heap = heap.Concrete (Module 0) })) ≡ Some splitting
  pub referred_itself : type_referred listed (value_type.Ref (record { nullable = false; heap = heap.Exact (id 0) })) ≡ Some pair
  pub number_refers : type_referred listed value_type.I64 ≡ None
  pub abstract_refers : type_referred listed (value_type.Ref (record { nullable = true; heap = heap.Abstract false abstract_heap.Any })) ≡ None

-- what names of types mean: an index of the module, and an id of the list
pub record NamesMean : Type 0 where
  pub of_index : named_type listed (Module 0) ≡ splitting
  pub of_by_id : named_type listed (id 0) ≡ pair
  pub of_heap : heap_in listed (heap.Concrete (id 0)) ≡ concrete pair
  pub of_heap_itself : heap_in listed (heap.Exact (Module 1)) ≡ exact pair
  pub of_number : type_in listed value_type.I64 ≡ number i64
  pub of_reference : reference_in listed (record { nullable = true; heap = heap.Concrete (id 1) }) ≡ ref true (concrete splitting)
  pub of_reference_type : type_in listed (value_type.Ref (record { nullable = false; heap = heap.Abstract false abstract_heap.Func })) ≡ ref false (abstract false func)
  pub of_function : function_in listed (record { params = value_type.I32 ∷ []; results = value_type.Ref (record { nullable = true; heap = heap.Concrete (id 0) }) ∷ [] })
      ≡ function (number i32 ∷ []) (ref true (concrete pair) ∷ [])
  pub of_global : global_in listed (record { content_type = value_type.I32; mutable = true; shared = false }) ≡ record { content = number i32; mutable = true; shared = false }
  pub of_table : table_in listed (record { element_type = record { nullable = true; heap = heap.Abstract false abstract_heap.Func }; table64 = true; initial = 1; maximum = None; shared = false })
      ≡ record { element = ref true (abstract false func); table64 = true; shared = false }
  pub known : IsKnownIndex listed (id 1)
  pub unknown : IsKnownIndex listed (id 2) → ⊥
  pub not_an_id : IsKnownIndex listed (Module 0) → ⊥
  pub top_of_struct : top_heap (concrete pair) ≡ abstract false any
  pub top_of_function : top_heap (exact splitting) ≡ abstract false func
  pub top_of_bottom : top_heap (abstract true none) ≡ abstract true any

-- the index of a function's type: of the type that the function has, and none where there is no such function
pub record FunctionTypes : Type 0 where
  pub its_type : IsTypeOf small_module 0 (Some 0)
  pub another_type : IsTypeOf small_module 0 (Some 1) → ⊥
  pub no_type : IsTypeOf small_module 0 (Some 9) → ⊥
  pub not_told : IsTypeOf small_module 0 None → ⊥
  pub no_function : IsTypeOf small_module 1 None
  pub no_function_told : IsTypeOf small_module 1 (Some 0) → ⊥

-- ---- answers for operators

-- what is known is the module and the frames, and nothing of the ids
abbrev pub KnowsModule : Type 0
KnowsModule = known_by listed ((block.FuncType 0, frames.Loop) ∷ (block.Val value_type.I32, frames.Block) ∷ []) ≡ within

-- a module with a continuation that names a type past the end
abbrev pub nameless : Meaning
nameless = record { «module» = record small_module { types = alone (declared_entry None false (continuation (type_at [] 5))) ∷ [] }; ids = [] }

-- The answer for an operator is what the table has: none of a vector, or if the module does not know what the operator names. A type past the
-- end is a function from nothing to nothing.
pub record OperatorsAnswered : Type 0 where
  pub added : answer_for listed [] (op.Numeric numeric.I32Add) ≡ Some (2, 1)
  pub unknown_function : answer_for listed [] (op.Control (control.Call 1)) ≡ None
  pub vector : (o : _) → answer_for listed [] (op.Simd o) ≡ None
  pub vector_number : (o : _) → answer_for listed [] (op.SimdNumeric o) ≡ None
  pub resumed : answer_for listed [] (op.Continuation (op.Resume 3 [])) ≡ Some (2, 2)
  pub resumed_struct : answer_for listed [] (op.Continuation (op.Resume 1 [])) ≡ None
  pub resumed_unknown : answer_for listed [] (op.Continuation (op.Resume 9 [])) ≡ None
  pub resumed_nameless : answer_for nameless [] (op.Continuation (op.Resume 0 [])) ≡ Some (1, 0)

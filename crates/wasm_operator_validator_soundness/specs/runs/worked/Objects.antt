-- Worked runs of a valid program with structs and arrays: one is made and a packed field of it read, one is read through a supertype, the
-- length of an array is asked, and a struct is tested and cast. What is made fits its type, each declared above it, and the abstract ones.
use Rattle.std.specs.Prelude.{◌≡◌, ◌+◌, ◌^◌, ℕ, ℤ, true, false, List, [], ◌∷◌, Some, None}
use Rattle.wasm_types.specs.trees.Types.{any, eq, array, abstract, concrete, exact, i32, i64, number, ref, i8, value, function, struct_of, array_of}
use Rattle.wasm_types.specs.trees.Trees.{TypeTree}
use Rattle.wasm_types.specs.trees.ValidGroup.{Written, written_tree}
use Rattle.wasm_types.specs.trees.declared.index.UnpackedIndex.TheVariants as index
use Rattle.wasm_types.specs.values.declared.heap.HeapType.TheVariants as written_heap
use Rattle.wasm_operators_enums.specs.declared.constant.ConstOperator.TheVariants as const
use Rattle.wasm_operators_enums.specs.declared.gc.GcOperator.{GcOperator}
use Rattle.wasm_operators_enums.specs.declared.gc.GcOperator.TheVariants as gc
use Rattle.wasm_operators_enums.specs.Op as op
use Rattle.wasm_operators_enums.specs.Op.{Op}
use Rattle.wasm_operators_encoding.specs.expressions.Code.{plain}
use Rattle.wasm_operator_validator_soundness.specs.runs.Values.{Body, Program, number_value, ref_null, ref_object, Fits}
use Rattle.wasm_operator_validator_soundness.specs.runs.States.{State, Answer, Outcome, returned, trapped}
use Rattle.wasm_operator_validator_soundness.specs.runs.Machine.{begun}
use Rattle.wasm_operator_validator_soundness.specs.runs.Soundness.{step, Runs, IsValidProgram, IsStarted}
use Rattle.wasm_operator_validator_soundness.specs.runs.worked.Caught.{alone, gives_number, own, end}

abbrev pub gives_written : Written
gives_written = alone (record {
  is_final = true;
  supertypes = [];
  shared = false;
  descriptor = None;
  describes = None;
  inner = function [] (number i32 ∷ []);
})

-- a struct with a packed field, and one below it with a field more
abbrev pub pair_written : Written
pair_written = alone (record {
  is_final = false;
  supertypes = [];
  shared = false;
  descriptor = None;
  describes = None;
  inner = struct_of (record { storage = value (number i32); mutable = true } ∷ record { storage = i8; mutable = true }
      ∷ []);
})

abbrev pub triple_written : Written
triple_written = alone (record {
  is_final = true;
  supertypes = 1 ∷ [];
  shared = false;
  descriptor = None;
  describes = None;
  inner = struct_of (record { storage = value (number i32); mutable = true } ∷ record { storage = i8; mutable = true }
      ∷ record { storage = value (number i64); mutable = false } ∷ []);
})

abbrev pub octets_written : Written
octets_written = alone (record {
  is_final = true;
  supertypes = [];
  shared = false;
  descriptor = None;
  describes = None;
  inner = array_of (record { storage = i8; mutable = true });
})

abbrev pub gives_type : TypeTree
gives_type = record { group = written_tree [] gives_written; place = 0 }

abbrev pub pair : TypeTree
pair = record { group = written_tree (gives_type ∷ []) pair_written; place = 0 }

abbrev pub triple : TypeTree
triple = record { group = written_tree (gives_type ∷ pair ∷ []) triple_written; place = 0 }

abbrev pub octets : TypeTree
octets = record { group = written_tree (gives_type ∷ pair ∷ triple ∷ []) octets_written; place = 0 }

-- garbage collection
abbrev pub bits : ℕ
bits = 2 ^ 19 + 2 ^ 22

module _ (x : ℤ) where
  abbrev pub five : Op
  five = op.Const (const.I32Const x)

  abbrev pub reading : Body
  reading = own (plain five (plain five (plain (op.Gc (gc.StructNew 1)) (plain (op.Gc (gc.StructGetU 1 1)) end))))

  abbrev pub through_above : Body
  through_above = own (plain five (plain five (plain (op.Const (const.I64Const x)) (plain (op.Gc (gc.StructNew 2))
      (plain (op.Gc (gc.StructGet 1 0)) end)))))

  abbrev pub measuring : Body
  measuring = own (plain five (plain (op.Gc (gc.ArrayNewDefault 3)) (plain (op.Gc gc.ArrayLen) end)))

  abbrev pub below_pair : GcOperator
  below_pair = gc.RefTestNonNull (written_heap.Concrete (index.Module 2))

  abbrev pub testing : Body
  testing = own (plain five (plain five (plain (op.Gc (gc.StructNew 1)) (plain (op.Gc below_pair) end))))

  abbrev pub to_pair : GcOperator
  to_pair = gc.RefCastNonNull (written_heap.Concrete (index.Module 1))

  abbrev pub casting : Body
  casting = own (plain five (plain five (plain (op.Gc (gc.StructNew 1)) (plain (op.Gc to_pair)
      (plain (op.Gc (gc.StructGet 1 0)) end)))))

  abbrev pub objects : Program
  objects = record {
    bits = bits;
    «module» = record {
      types = gives_type ∷ pair ∷ triple ∷ octets ∷ [];
      functions = gives_type ∷ gives_type ∷ gives_type ∷ gives_type ∷ gives_type ∷ [];
      tables = [];
      memories = [];
      globals = [];
      tags = [];
      elements = [];
      data_count = None;
      referenced = [];
      exact_functions = [];
    };
    functions = record { type = gives_type; body = Some reading }
        ∷ record { type = gives_type; body = Some through_above }
        ∷ record { type = gives_type; body = Some measuring } ∷ record { type = gives_type; body = Some testing }
        ∷ record { type = gives_type; body = Some casting } ∷ [];
  }

  abbrev pub silent : Answer
  silent = record {
    values = [];
    held = ref_null false any;
    condition = false;
    index = 0;
    traps = false;
    throws = None;
    leaves = 0;
    made = 0;
  }

  abbrev pub giving : Answer
  giving = record silent { values = number_value i32 0 ∷ [] }

  abbrev pub giving_long : Answer
  giving_long = record silent { values = number_value i64 0 ∷ [] }

  abbrev pub deciding : Answer
  deciding = record silent { condition = true }

  abbrev pub trapping : Answer
  trapping = record silent { traps = true }

  abbrev pub started : Body → State
  started f = begun gives_type gives_number f [] (number i32 ∷ []) ∷ []

  -- these answers are accepted, and so is a last one, with which the run ends so
  abbrev pub Ends : State → List Answer → Answer → Outcome → Type 0
  Ends s answers a o = (t : State) × Runs objects s answers t × (step objects t a).is_answer
      × ((step objects t a).outcome ≡ o)

  abbrev pub number_returned : Outcome
  number_returned = returned (number_value i32 0 ∷ [])

  pub record ObjectsWorked : Type 0 where
    pub valid : IsValidProgram objects
    pub reading_from : IsStarted objects (started reading) (number i32 ∷ [])
    pub above_from : IsStarted objects (started through_above) (number i32 ∷ [])
    pub measuring_from : IsStarted objects (started measuring) (number i32 ∷ [])
    pub testing_from : IsStarted objects (started testing) (number i32 ∷ [])
    pub casting_from : IsStarted objects (started casting) (number i32 ∷ [])
    pub struct_fits : Fits objects (ref_object 0 triple) (ref false (exact triple))
    pub below_fits : Fits objects (ref_object 0 triple) (ref true (concrete pair))
    pub abstract_fits : Fits objects (ref_object 0 pair) (ref false (abstract false eq))
    pub array_fits : Fits objects (ref_object 0 octets) (ref true (abstract false array))
    pub not_below : Fits objects (ref_object 0 pair) (ref false (abstract false array)) → ⊥
    pub read : Ends (started reading) (giving ∷ giving ∷ silent ∷ giving ∷ []) silent number_returned
    pub read_trapped : Ends (started reading) (giving ∷ giving ∷ silent ∷ []) trapping trapped
    pub read_above : Ends (started through_above) (giving ∷ giving ∷ giving_long ∷ silent ∷ giving ∷ []) silent
        number_returned
    pub measured : Ends (started measuring) (giving ∷ silent ∷ silent ∷ []) silent number_returned
    pub tested : Ends (started testing) (giving ∷ giving ∷ silent ∷ silent ∷ []) silent number_returned
    pub cast : Ends (started casting) (giving ∷ giving ∷ silent ∷ deciding ∷ giving ∷ []) silent number_returned
    pub cast_failed : Ends (started casting) (giving ∷ giving ∷ silent ∷ []) silent trapped

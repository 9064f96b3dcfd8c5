-- Tests of types, as a compiler may rely on them (WebAssembly 3.0, execution, `ref.cast` and `call_indirect`): a cast traps exactly if the value is
-- not of the type, and a call through a table does not trap if what is there is a function of the program's own, of that type.
use Rattle.std.specs.Prelude.{◌≡◌, ◌↔◌, ℕ, Bool, true, false, IsTrue, List, [], ◌∷◌, get_or, Option, Some, None, slice_get}
use Rattle.wasm_types.specs.trees.Types.{HeapOf, ref, concrete}
use Rattle.wasm_types.specs.trees.Trees.{TypeTree}
use Rattle.wasm_types.specs.values.declared.heap.HeapType.{HeapType}
use Rattle.wasm_operators_enums.specs.declared.control.ControlOperator.TheVariants as control
use Rattle.wasm_operators_enums.specs.declared.gc.GcOperator.{GcOperator}
use Rattle.wasm_operators_enums.specs.declared.gc.GcOperator.TheVariants as gc
use Rattle.wasm_operators_enums.specs.Op as op
use Rattle.wasm_operators_enums.specs.Op.{Op}
use Rattle.wasm_operators_encoding.specs.expressions.Code.{Code, plain}
use Rattle.wasm_operator_validator_rules.specs.Operands.{ValueType}
use Rattle.wasm_operator_validator_soundness.specs.runs.Values.{Program, Value, ref_function, is_null, Fits}
use Rattle.wasm_operator_validator_soundness.specs.runs.States.{Activation, Answer, trapped}
use Rattle.wasm_operator_validator_soundness.specs.runs.Machine.{meant_heap}
use Rattle.wasm_operator_validator_soundness.specs.runs.Soundness.{step, IsValidProgram}
use Rattle.wasm_operator_validator_store.specs.Stores.{Store, nothing, bits_of, table_in}
use Rattle.wasm_operator_validator_store.specs.Giving.{GivesStep}
use Rattle.wasm_operator_validator_store.specs.Soundness.{AreValid}
use Rattle.wasm_operator_validator_store.specs.Determined.{is_own_at}

-- a call through a table, or a tail call
abbrev pub indirect : Bool → ℕ → ℕ → Op
indirect false y x = op.Control (control.CallIndirect y x)
indirect true y x = op.Control (control.ReturnCallIndirect y x)

-- the operator that is next, above these values
pub record Stands (act : Activation) (o : Op) (more : Code) (v : Value) (ws : List Value) : Type 0 where
  pub code : act.innermost.code ≡ plain o more
  pub values : act.innermost.values ≡ v ∷ ws

module _ (p : Program) (act : Activation) (acts : List Activation) (s : Store) (a : Answer) (u : Store) (more : Code)
    (v : Value) (ws : List Value) where
  abbrev pub Gives : Type 0
  Gives = GivesStep p (act ∷ acts) s a u

  abbrev pub IsTrapped : Type 0
  IsTrapped = (step p (act ∷ acts) a).outcome ≡ trapped

  -- a cast to a type, which the value has or not
  abbrev pub CastIsExact : Type 0
  CastIsExact = (h : HeapType) (k : HeapOf TypeTree) → Stands act (op.Gc (gc.RefCastNonNull h)) more v ws
      → meant_heap p.«module» h ≡ Some k → Gives → IsTrapped ↔ (Fits p v (ref false k) → ⊥)

  abbrev pub NullableCastIsExact : Type 0
  NullableCastIsExact = (h : HeapType) (k : HeapOf TypeTree) → Stands act (op.Gc (gc.RefCastNullable h)) more v ws
      → meant_heap p.«module» h ≡ Some k → Gives
      → IsTrapped ↔ ((is_null v ≡ false) × (Fits p v (ref false k) → ⊥))

  -- what a table holds at this index is such a function
  pub record Holds (y x : ℕ) (w : Value) (t : TypeTree) : Type 0 where
    pub held : slice_get (table_in s x) (bits_of v) ≡ Some w
    pub type : slice_get p.«module».types y ≡ Some t
    pub fits : Fits p w (ref false (concrete t))

  abbrev pub CallPasses : Type 0
  CallPasses = (tail : Bool) (y x i : ℕ) (q t : TypeTree) → Stands act (indirect tail y x) more v ws
      → Holds y x (ref_function (Some i) q) t → IsTrue (is_own_at p s act (Some i)) → Gives → IsTrapped → ⊥

  -- and one that is not of the type traps, null too, and an index past the end
  abbrev pub CallFails : Type 0
  CallFails = (results : List ValueType) (tail : Bool) (y x : ℕ) (w : Value) (t : TypeTree) → IsValidProgram p
      → AreValid p results (act ∷ acts) s → Stands act (indirect tail y x) more v ws
      → slice_get (table_in s x) (bits_of v) ≡ Some w → slice_get p.«module».types y ≡ Some t
      → (Fits p w (ref false (concrete t)) → ⊥) → Gives → IsTrapped

  abbrev pub CallPastFails : Type 0
  CallPastFails = (results : List ValueType) (tail : Bool) (y x : ℕ) → IsValidProgram p
      → AreValid p results (act ∷ acts) s → Stands act (indirect tail y x) more v ws → slice_get (table_in s x) (bits_of v) ≡ None
      → Gives → IsTrapped

  pub record TestIsExact : Type 0 where
    pub cast : CastIsExact
    pub nullable : NullableCastIsExact
    pub call : CallPasses
    pub other : CallFails
    pub past : CallPastFails

abbrev pub TestsAreExact : Type 0
TestsAreExact = (p : Program) (act : Activation) (acts : List Activation) (s : Store) (a : Answer) (u : Store)
    (more : Code) (v : Value) (ws : List Value) → TestIsExact p act acts s a u more v ws

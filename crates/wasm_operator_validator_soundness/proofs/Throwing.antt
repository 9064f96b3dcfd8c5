-- Exceptions that are thrown.
use Rattle.std.proofs.Common.{◌≡◌, ℕ, zero, suc, List, [], ◌∷◌, ◌++◌, map, reverse, Option, Some, true}
use Rattle.std.proofs.Common.{slice_get}
use Rattle.wasm_types.specs.trees.Types.{extern, any, i31}
use Rattle.wasm_types.specs.trees.Trees.{TypeTree}
use Rattle.wasm_types.specs.trees.Below.{expanded}
use Rattle.wasm_operators_immediates.specs.declared.frames.FrameKind.{FrameKind}
use Rattle.wasm_operators_enums.specs.Op as op
use Rattle.wasm_operators_enums.specs.Op.{Op, ParametricTree, ExceptionTree, ContinuationTree}
use Rattle.wasm_operators_encoding.specs.expressions.Code.{Code, IsIn}
use Rattle.wasm_operator_validator_rules.specs.Operands.{ValueType, Operand, known, AllBelow, stack}
use Rattle.wasm_operator_validator_rules.specs.Context.{Context, Initialised, Signature, Frame, IsFunctionType}
use Rattle.wasm_operator_validator_rules.specs.Exceptions.{ExceptionRow, exception, IsExceptionTag}
use Rattle.wasm_operator_validator_soundness.specs.runs.Notes.{Notes, IsAlong}
use Rattle.wasm_operator_validator_soundness.specs.runs.Places.{IsValidBy}
use Rattle.wasm_operator_validator_soundness.specs.runs.Values.{Program, Value, number_value, ref_null, ref_function, ref_object, ref_i31, ref_host, ref_extern, ref_exn, Fits, AllFit}
use Rattle.wasm_operator_validator_soundness.specs.runs.States.{Exception, Label, Activation, is_clause, Answer}
use Rattle.wasm_operator_validator_soundness.specs.runs.States.{trapped, Move}
use Rattle.wasm_operator_validator_soundness.specs.runs.Machine.{function_type, unwind, throw_again}
use Rattle.wasm_operator_validator_soundness.specs.runs.Machine.{throw_reference, caught_at, operate_exception}
use Rattle.wasm_operator_validator_soundness.specs.runs.ValidStates.{AreSet, IsCaught, IsTagType, IsThrown, Around, around_of}
use Rattle.wasm_operator_validator_soundness.proofs.RunsInvariant.{none_is_some, some_same}
use Rattle.wasm_operator_validator_soundness.specs.runs.ValidStates.{LabelsAwait}
use Rattle.wasm_operator_validator_soundness.proofs.RunsInvariant.{here, IsOkay}
use Rattle.wasm_operator_validator_soundness.proofs.Options.{as_function_is}
use Rattle.wasm_operator_validator_soundness.proofs.Combining.{done_okay, asks_okay, found_okay, pops_okay, takes_okay, gives_okay}
use Rattle.wasm_operator_validator_soundness.proofs.RunsLeaving.{leave_okay, has_signature, signature_is, unwind_okay}
use Rattle.wasm_operator_validator_soundness.proofs.Values.{constructor_apart, is_caught, under_exn}
use Rattle.wasm_operator_validator_soundness.proofs.Standing.{values_under, Here}
use Rattle.wasm_operator_validator_soundness.proofs.Thrown.{thrown_with}

module _ (N : Notes) (p : Program) (valid : IsValidBy N p) (final : List ValueType) (a : Answer) (act : Activation) (acts : List Activation) (h : Here N p final act acts) where
  abbrev w : Around
  w = around_of act

  abbrev g : Context
  g = here p a act acts

  abbrev f : Frame
  f = record { kind = h.kind; block = act.innermost.block; before = h.before }

  abbrev vs : List Value
  vs = act.innermost.values

  abbrev kind : FrameKind
  kind = h.kind

  abbrev before : Initialised
  before = h.before

  abbrev set : Initialised
  set = h.set

  abbrev are_set : AreSet h.set act.locals
  are_set = h.are_set

  abbrev s : List Operand
  s = h.operands

  abbrev fit : AllFit p act.innermost.values h.operands
  fit = h.fit

  abbrev Okay : Move → Type 0
  Okay m = IsOkay N p final m

  -- the instructions to come are typed, and stand where they may
  abbrev Goes : Initialised → Code → List Operand → Type 0
  Goes init more m = IsIn h.kind more × (n : N.Note) × IsAlong N h.root n × N.Holds n g f init more m

  -- ---- exceptions

  pub tag_is : (x : ℕ) (ts : List ValueType) → IsExceptionTag g x ts → (t : TypeTree) × (slice_get p.«module».tags x ≡ Some t) × IsTagType t × (function_type t ≡ Some (record { params = ts; results = [] }))
  tag_is x ts e = (e.0, e.1, valid.tags x e.0 e.1, signature_is e.0 (record { params = ts; results = [] }) e.2)

  -- an exception that is thrown here
  pub thrown_okay : (t : TypeTree) (us : List Value) (b : Signature) → IsThrown t → IsFunctionType t b → AllFit p us (stack b.params) → Okay (unwind p a t us (act ∷ acts) a.leaves)
  thrown_okay t us b made is i =
      leave_okay N p final a act acts h.locals h.results h.below t us b made is i act.innermost act.around a.leaves (unwind p a t us acts) h.root h.handlers h.around
      (λ j. unwind_okay N p final a t us b made is i acts (stack act.owed) j h.below)

  pub thrown_again_okay : (t : TypeTree) → IsThrown t → Okay (throw_again p a t (act ∷ acts))
  thrown_again_okay t made =
      let b = has_signature t made.1 in
      found_okay N p final (function_type t) b.0 _ (signature_is t b.0 b.1) (gives_okay N p final a (b.0).params _ (λ us i. thrown_okay t us b.0 made b.1 i))

  pub throw_reference_okay : (v : Value) → Fits p v (exception true) → Okay (throw_reference p a act acts v)
  throw_reference_okay (ref_exn id t) y = thrown_again_okay t y.0
  throw_reference_okay (ref_null c k) y = done_okay N p final trapped tt
  throw_reference_okay (number_value n id) y = absurd y.1
  throw_reference_okay (ref_function i t) y = absurd (under_exn _ y.1.1.3 (constructor_apart (expanded y.1.1.0)))
  throw_reference_okay (ref_object id t) y = absurd (under_exn _ y.1.1.3 (constructor_apart (expanded y.1.1.0)))
  throw_reference_okay (ref_i31 id) y = absurd (under_exn i31 y.1.1.1 tt)
  throw_reference_okay (ref_host id) y = absurd (under_exn any y.1.1.1 tt)
  throw_reference_okay (ref_extern id) y = absurd (under_exn extern y.1.1.1 tt)

  pub caught_there : (n : ℕ) (l : Label) (ls : List Label) (given : List Operand) (inner : Option N.Note) → IsCaught l.caught → LabelsAwait N p w act.locals act.owed ls given inner
      → slice_get (is_clause l ∷ map is_clause ls) n ≡ Some true → (x : Exception) × (caught_at p a act acts n (l ∷ ls) ≡ Some x) × IsThrown x.type
  caught_there zero l ls given inner c k e = is_caught l.caught (some_same (is_clause l) true e) c
  caught_there (suc n) l [] given inner c k e = absurd (none_is_some true e)
  caught_there (suc n) l (m ∷ ls) given inner c k e = caught_there n m ls (stack m.block.results) (Some k.0.root) k.0.caught k.1 e

  pub exception_okay : (o : ExceptionTree) (more : Code) (popped pushed rest m : List Operand) → ExceptionRow g o popped pushed
      → AllBelow s (reverse popped ++ rest) → m ≡ reverse pushed ++ rest → Goes set more m → Okay (operate_exception p a act acts o)
  exception_okay (op.Throw x) more popped pushed rest m r b e t =
      let n = tag_is x r.0 r.2 in
      found_okay N p final (slice_get p.«module».tags x) n.0 _ n.1
      (found_okay N p final (function_type n.0) (record { params = r.0; results = [] }) _ n.3
      (takes_okay N p final a r.0 vs (reverse r.1 ++ rest) _ (values_under N p valid final a act acts h r.1 r.0 popped rest b r.3) (λ us ws i j.
      let own : Signature = record { params = r.0; results = [] } in
      let is = as_function_is (expanded n.0) own n.3 in
      thrown_okay n.0 us own (thrown_with p n.0 own us n.2 is i) is i)))
  exception_okay op.ThrowRef more popped pushed rest m r b e t =
      pops_okay N p final vs (known (exception true)) (reverse r.0 ++ rest) _ (values_under N p valid final a act acts h r.0 (exception true ∷ []) popped rest b r.1) (λ v ws i j.
      asks_okay N p final (Fits p v (exception true)) _ i (throw_reference_okay v i))
  exception_okay (op.Rethrow n) more popped pushed rest m r b e t =
      let c = caught_there n act.innermost act.around (stack act.innermost.block.results) (Some h.root) h.caught h.around r in
      found_okay N p final (caught_at p a act acts n (act.innermost ∷ act.around)) c.0 _ c.1 (thrown_again_okay c.0.type c.2)
  exception_okay o more popped pushed rest m r b e t = absurd r

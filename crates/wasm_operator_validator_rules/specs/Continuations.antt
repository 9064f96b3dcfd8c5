-- Rows of operators on continuations (the proposal on stack switching), and what handlers ask.
use Rattle.std.specs.Prelude.{◌≡◌, ℕ, Bool, true, false, List, [], ◌∷◌, ◌++◌, Some, slice_get}
use Rattle.wasm_types.specs.trees.Types.{ref, concrete, continuation}
use Rattle.wasm_types.specs.trees.Trees.{TypeTree}
use Rattle.wasm_types.specs.trees.Below.{expanded}
use Rattle.wasm_operators_immediates.specs.declared.handlers.Handle.{Handle}
use Rattle.wasm_operators_immediates.specs.declared.handlers.Handle.TheVariants as handler
use Rattle.wasm_operators_enums.specs.Op as op
use Rattle.wasm_operators_enums.specs.Op.{ContinuationTree}
use Rattle.wasm_operator_validator_rules.specs.Operands.{ValueType, Operand, AllBelow, all_known}
use Rattle.wasm_operator_validator_rules.specs.Context.{Context, Signature, IsFunctionType}
use Rattle.wasm_operator_validator_rules.specs.Named.{used_type}
use Rattle.wasm_operator_validator_rules.specs.InstructionTypes.{reference_to}
use Rattle.wasm_operator_validator_rules.specs.Taken.{Takes, IsLabel}
use Rattle.wasm_operator_validator_rules.specs.Exceptions.{IsExceptionTag, exception}

-- ---- what is named

-- standard: part of ContinuationRow
-- what a continuation takes and gives: what its function does
abbrev pub IsContinuationType : TypeTree → Signature → Type 0
IsContinuationType t b = (f : TypeTree) × (expanded t ≡ continuation f) × IsFunctionType f b

-- standard: part of ContinuationRow
-- a continuation type of the module
abbrev pub IsContinuation : Context → ℕ → TypeTree → Signature → Type 0
IsContinuation g x t b = (used_type g x ≡ Some t) × IsContinuationType t b

-- standard: part of ContinuationRow
-- a tag by its function type: what a suspension carries, and what comes back
abbrev pub IsTag : Context → ℕ → Signature → Type 0
IsTag g x b = (t : TypeTree) × (slice_get g.«module».tags x ≡ Some t) × IsFunctionType t b

-- ---- lists of types and functions below others (validation, matching, result types and composite types)

-- standard: match-resulttype: resulttype, of known types
abbrev pub TypesBelow : List ValueType → List ValueType → Type 0
TypesBelow ts us = AllBelow (all_known ts) (all_known us)

-- standard: match-comptype: func, of signatures
abbrev pub FunctionBelow : Signature → Signature → Type 0
FunctionBelow b c = TypesBelow c.params b.params × TypesBelow b.results c.results

-- what is not null of a continuation type
abbrev pub continued : TypeTree → ValueType
continued t = ref false (concrete t)

-- ---- handlers, of a continuation with these results

-- standard: part of Handles
-- What a suspension by the tag carries goes to the label, and on top of it what is left to run, of the continuation type that the
-- label names: it takes what the tag gives back, and gives what the continuation gives.
pub record IsCaught (g : Context) (rs : List ValueType) (x l : ℕ) : Type 0 where
  pub tag : Signature
  pub tag_named : IsTag g x tag
  pub carried : List ValueType
  pub nullable : Bool
  pub left : TypeTree
  pub label : IsLabel g l (carried ++ ref nullable (concrete left) ∷ [])
  pub fits : TypesBelow tag.params carried
  pub rest : Signature
  pub goes_on : IsContinuationType left rest
  pub matches : FunctionBelow (record { params = tag.results; results = rs }) rest

-- standard: part of Handles
-- a switch by the tag takes nothing, and what the tag gives is what the continuation gives
pub record IsSwitched (g : Context) (rs : List ValueType) (x : ℕ) : Type 0 where
  pub tag : List ValueType
  pub tag_named : IsTag g x (record { params = []; results = tag })
  pub fits : TypesBelow tag rs
  pub back : TypesBelow rs tag

-- standard: proposal-stack-switching: a handler
abbrev pub Handles : Context → List ValueType → Handle → Type 0
Handles g rs (handler.OnLabel x l) = IsCaught g rs x l
Handles g rs (handler.OnSwitch x) = IsSwitched g rs x

-- standard: proposal-stack-switching: handlers
abbrev pub EachHandles : Context → List ValueType → List Handle → Type 0
EachHandles g rs [] = Unit {0}
EachHandles g rs (h ∷ hs) = Handles g rs h × EachHandles g rs hs

-- ---- the rows

-- standard: part of ContinuationRow
-- the first parameters of a continuation are bound; with the others it is of the new type
pub record IsBound (g : Context) (x y : ℕ) (t u : TypeTree) (bound : List ValueType) : Type 0 where
  pub old : Signature
  pub old_named : IsContinuation g x t old
  pub new : Signature
  pub new_named : IsContinuation g y u new
  pub rest : List ValueType
  pub params : old.params ≡ bound ++ rest
  pub fits : FunctionBelow (record { params = rest; results = old.results }) new

-- standard: part of ContinuationRow
-- A switch to a continuation, which takes, on top of what is carried, the one that is left. That one takes what the operator
-- gives. What the first gives may be taken for what the tag gives, and that for what the one that is left gives.
pub record IsSwitch (g : Context) (x e : ℕ) (t : TypeTree) (carried : List ValueType) (own : Signature) : Type 0 where
  pub next : Signature
  pub next_named : IsContinuation g x t next
  pub nullable : Bool
  pub left : TypeTree
  pub params : next.params ≡ carried ++ ref nullable (concrete left) ∷ []
  pub goes_on : IsContinuationType left own
  pub tag : List ValueType
  pub tag_named : IsTag g e (record { params = []; results = tag })
  pub fits : TypesBelow next.results tag
  pub back : TypesBelow tag own.results

-- standard: proposal-stack-switching: cont.new, cont.bind, suspend, resume, resume_throw, resume_throw_ref, switch
abbrev pub ContinuationRow : Context → ContinuationTree → List Operand → List Operand → Type 0
ContinuationRow g (op.ContNew x) popped pushed = (t f : TypeTree) × (b : Signature) × (used_type g x ≡ Some t) × (expanded t ≡ continuation f) × IsFunctionType f b
    × Takes (reference_to f ∷ []) (continued t ∷ []) popped pushed
ContinuationRow g (op.ContBind x y) popped pushed = (t u : TypeTree) × (bound : List ValueType) × IsBound g x y t u bound
    × Takes (bound ++ reference_to t ∷ []) (continued u ∷ []) popped pushed
ContinuationRow g (op.Suspend x) popped pushed = (b : Signature) × IsTag g x b × Takes b.params b.results popped pushed
ContinuationRow g (op.Resume x hs) popped pushed = (t : TypeTree) × (b : Signature) × IsContinuation g x t b × EachHandles g b.results hs
    × Takes (b.params ++ reference_to t ∷ []) b.results popped pushed
ContinuationRow g (op.ResumeThrow x e hs) popped pushed = (t : TypeTree) × (b : Signature) × (ts : List ValueType) × IsContinuation g x t b
    × IsExceptionTag g e ts × EachHandles g b.results hs × Takes (ts ++ reference_to t ∷ []) b.results popped pushed
ContinuationRow g (op.ResumeThrowRef x hs) popped pushed = (t : TypeTree) × (b : Signature) × IsContinuation g x t b × EachHandles g b.results hs
    × Takes (exception true ∷ reference_to t ∷ []) b.results popped pushed
ContinuationRow g (op.Switch x e) popped pushed = (t : TypeTree) × (carried : List ValueType) × (own : Signature) × IsSwitch g x e t carried own
    × Takes (carried ++ reference_to t ∷ []) own.params popped pushed

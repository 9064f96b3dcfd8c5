-- That a valid module runs soundly (WebAssembly 3.0, appendix, soundness), and so does each module that bytes spell and that is accepted.
use Rattle.std.specs.Prelude.{◌≡◌, ℕ, List, [], Option, Some, slice_get}
use Rattle.wasm_types.specs.settings.Settings.{Settings}
use Rattle.wasm_types.specs.trees.Trees.{TypeTree}
use Rattle.wasm_operator_validator_rules.specs.Operands.{ValueType}
use Rattle.wasm_module_validator_rules.specs.Syntax.{ModuleTree}
use Rattle.wasm_module_validator_rules.specs.Binary.{SpelledModule}
use Rattle.wasm_module_validator_rules.specs.Valid.{IfThere, IsValid}
use Rattle.wasm_module_validator_rules.specs.Accepts.{AcceptsUnder}
use Rattle.wasm_operator_validator_soundness.specs.runs.Values.{Function, Program, IsStandard}
use Rattle.wasm_operator_validator_soundness.specs.runs.States.{State, Answer}
use Rattle.wasm_operator_validator_rules.specs.Context.{IsFunctionType}
use Rattle.wasm_operator_validator_soundness.specs.runs.Soundness.{IsValidProgram, IsStarted, IsNeverStuck, StaysValid, Runs}
use Rattle.wasm_operator_validator_soundness.specs.runs.ValidStates.{IsValidStateBy}
use Rattle.wasm_operator_validator_soundness.specs.runs.Places.{Place, places, IsValidBy}
use Rattle.wasm_operator_validator_soundness.specs.runs.Progress.{GlobalsHaveValues, IsAlwaysAnswered}
use Rattle.wasm_operator_validator_store.specs.Stores.{Store}
use Rattle.wasm_operator_validator_store.specs.ValidStores.{Knows, HasState, StoreFits}
use Rattle.wasm_operator_validator_store.specs.Soundness.{IsSoundOver}
use Rattle.wasm_operator_validator_store.specs.Determined.{RunsAreDetermined}
use Rattle.wasm_operator_validator_store.specs.Exact.{BytesAreKept, MemoriesAreKept}
use Rattle.wasm_operator_validator_store.specs.Pinned.{IsPinnedOver}
use Rattle.wasm_operator_validator_store.specs.Instantiation.{imports_of, IsFirstStore}
use Rattle.wasm_module_validator.specs.soundness.Modules.{program_of, AreHosts}
use Rattle.wasm_module_validator.specs.soundness.Constants.{EachConstantFits}
use Rattle.wasm_module_validator.specs.soundness.FirstStores.{initials_of}

-- a function that takes and gives nothing, by its own type
abbrev pub MayStart : Program → ℕ → Type 0
MayStart p x = (f : Function) × (slice_get p.functions x ≡ Some f)
    × IsFunctionType f.type (record { params = []; results = [] })

-- Whatever function of the module is started, with arguments that fit its parameters, and whatever is answered, it is never stuck; what
-- it returns or throws fits, and at each place on the way each value fits what the rules know of it there. Over any store in which all
-- fits, what is read is what was written last, each step is answered, and all fits again on the way. There each step comes to one state and
-- one store, unless its operator leaves something open, and two such runs come to the same; what traps is known beforehand; numbers stay within
-- their widths; and what is read from a memory is what was written to it. Each step is answered by types alone too, if no global is of a
-- type without values. The function that starts the module takes and gives nothing. Each constant gives what fits its place. Whatever the
-- host gives for imports, if all fits in it, all fits in the first store. The module is a valid program, and whichever derivations of its
-- bodies are given, at each place on the way all fits what they say there.
pub record RunsFrom (z : Settings) (m : ModuleTree) (hosts : List TypeTree) : Type 0 where
  pub functions : (s : State) (results : List ValueType) → IsStarted (program_of z m hosts) s results
      → IsNeverStuck (program_of z m hosts) results s
  pub states : (s : State) (results : List ValueType) → IsStarted (program_of z m hosts) s results
      → StaysValid (program_of z m hosts) results s
  pub answered : (s : State) (results : List ValueType) → GlobalsHaveValues (program_of z m hosts)
      → IsStarted (program_of z m hosts) s results → IsAlwaysAnswered (program_of z m hosts) s
  pub stores : (s : State) (results : List ValueType) (u : Store) → IsStarted (program_of z m hosts) s results
      → StoreFits (program_of z m hosts) u → HasState (Knows u) s → IsSoundOver (program_of z m hosts) results u s
  pub pinned : (s : State) (results : List ValueType) (u : Store) → IsStarted (program_of z m hosts) s results
      → StoreFits (program_of z m hosts) u → HasState (Knows u) s → IsPinnedOver (program_of z m hosts) u s
  pub determined : RunsAreDetermined (program_of z m hosts)
  pub bytes : BytesAreKept
  pub memories : MemoriesAreKept
  pub start : IfThere (MayStart (program_of z m hosts)) m.start
  pub constants : EachConstantFits z m hosts
  pub first_stores : (host u : Store) → StoreFits (imports_of (program_of z m hosts) (initials_of m)) host
      → IsFirstStore (program_of z m hosts) (initials_of m) host u → StoreFits (program_of z m hosts) u
  pub program : IsValidProgram (program_of z m hosts)
  pub placed : (D : ℕ → Option Place) → IsValidBy (places D) (program_of z m hosts)
      → (s : State) (results : List ValueType) → IsStarted (program_of z m hosts) s results
      → (answers : List Answer) (t : State) → Runs (program_of z m hosts) s answers t
      → IsValidStateBy (places D) (program_of z m hosts) results t

-- so it is whatever the host gives for the functions that are imported
abbrev pub ModuleRunsSoundly : Settings → ModuleTree → Type 0
ModuleRunsSoundly z m = (hosts : List TypeTree) → AreHosts m hosts → RunsFrom z m hosts

-- A valid module runs soundly under the features of the standard: without custom descriptors, shared everything and stack switching.
abbrev pub ModulesAreSound : Type 0
ModulesAreSound = (z : Settings) (m : ModuleTree) → IsStandard z.features → IsValid z m → ModuleRunsSoundly z m

-- The bytes spell a module, and whatever module they spell is valid and, under the features of the standard, runs soundly.
pub record RunsSoundly (z : Settings) (bytes : List ℕ) : Type 0 where
  pub accepted : AcceptsUnder z bytes
  pub valid : (m : ModuleTree) → SpelledModule z m bytes → IsValid z m
  pub runs : (m : ModuleTree) → SpelledModule z m bytes → IsStandard z.features → ModuleRunsSoundly z m

-- What is accepted runs soundly.
abbrev pub AcceptedIsSound : Type 0
AcceptedIsSound = (z : Settings) (bytes : List ℕ) → AcceptsUnder z bytes → RunsSoundly z bytes

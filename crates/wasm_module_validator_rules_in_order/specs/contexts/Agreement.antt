-- What a judgement of the rules looks at of a context (WebAssembly 3.0, validation, conventions, contexts): two contexts that agree
-- on it judge alike.
use Rattle.std.specs.Prelude.{◌≡◌, ◌<◌, ℕ, List, length}
use Rattle.wasm_operator_validator_rules.specs.Context.{Module}
use Rattle.wasm_operator_validator_rules.specs.Row.{IsOneOf}
use Rattle.wasm_module_validator_rules.specs.Valid.{Each}

-- types that are written mean the same in both
pub record AgreeOnTypes (g h : Module) : Type 0 where
  pub types : g.types ≡ h.types

-- A constant sees the same of both, but for which functions code may refer to.
pub record AgreeForConstants (g h : Module) : Type 0 where
  pub types : g.types ≡ h.types
  pub functions : g.functions ≡ h.functions
  pub globals : g.globals ≡ h.globals
  pub exact_functions : g.exact_functions ≡ h.exact_functions

-- code may refer to each of these functions that there is
abbrev pub MayReferToEach : Module → List ℕ → Type 0
MayReferToEach g xs = Each (λ x. x < length g.functions → IsOneOf x g.referenced) xs

-- an element segment finds the same in both: what its constants see, and the tables
pub record AgreeForElements (g h : Module) : Type 0 where
  pub constants : AgreeForConstants g h
  pub tables : g.tables ≡ h.tables

-- a data segment finds the same in both: what its offset sees, and the memories
pub record AgreeForData (g h : Module) : Type 0 where
  pub constants : AgreeForConstants g h
  pub memories : g.memories ≡ h.memories

-- an export finds the same in both
pub record AgreeForExports (g h : Module) : Type 0 where
  pub functions : g.functions ≡ h.functions
  pub tables : g.tables ≡ h.tables
  pub memories : g.memories ≡ h.memories
  pub globals : g.globals ≡ h.globals
  pub tags : g.tags ≡ h.tags

-- the start function is the same in both
pub record AgreeOnFunctions (g h : Module) : Type 0 where
  pub functions : g.functions ≡ h.functions

-- code finds the same in both, but for which functions it may refer to
pub record AgreeForCode (g h : Module) : Type 0 where
  pub types : g.types ≡ h.types
  pub functions : g.functions ≡ h.functions
  pub tables : g.tables ≡ h.tables
  pub memories : g.memories ≡ h.memories
  pub globals : g.globals ≡ h.globals
  pub tags : g.tags ≡ h.tags
  pub elements : g.elements ≡ h.elements
  pub data_count : g.data_count ≡ h.data_count
  pub exact_functions : g.exact_functions ≡ h.exact_functions

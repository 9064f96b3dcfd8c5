-- Locals that have values wherever they are read, and those that may have none (WebAssembly 3.0, validation, conventions, instruction types).
use Rattle.std.specs.Prelude.{◌≡◌, ◌==◌, ◌<◌, ℕ, List, true, if◌then◌else◌, length, get_or}
use Rattle.wasm_types.specs.decoding.Leb.{u32}
use Rattle.wasm_types.specs.decoding.Numbers.{GivesAt}
use Rattle.wasm_operator_validator_rules.specs.Context.{Initialised}
use Rattle.wasm_operator_validator_fast_tables.specs.declared.tables.Open.{Open}
use Rattle.wasm_operator_validator_fast_tables.specs.declared.tables.Tables.{Tables}
use Rattle.wasm_operator_validator_fast_tables.specs.Loop.{Full}

-- a frame is another, except that a local has a value in it, and maybe none that had none
pub record IsSet (t : Tables) (o : Open) (x : ℕ) (n : Open) : Type 0 where
  pub frame : n ≡ record { kind = o.kind; base = o.base; set = n.set; sig = o.sig }
  pub keeps : (set : Initialised) → Full t o.set set → Full t n.set (λ k. if x == k then true else set k)

-- the index of a local of this type, which has a value wherever it is read, stands from one offset to another
pub record IsLocalAt (text : List ℕ) (t : Tables) (i code j : ℕ) : Type 0 where
  pub index : ℕ
  pub read : GivesAt u32 text i index j
  pub sure : index < t.certain
  pub there : index < length t.locals.items
  pub type : code ≡ get_or t.locals.items index 0

-- Values that have a default, by the codes of their types.
use Rattle.std.proofs.Common.{◌≡◌, ◌<◌, ◌-◌, ◌/◌, ◌%◌, ℕ, Bool, true, false, nat_lt, refl, lt-ltb}
use Rattle.std.specs.Prelude.{◌==◌, if◌then◌else◌}
use Rattle.wasm_types.specs.trees.Types.{Number, HeapOf, number, ref}
use Rattle.wasm_types.specs.trees.Trees.{TypeTree}
use Rattle.wasm_operator_validator_rules.specs.Context.{defaultable}
use Rattle.wasm_operator_validator_fast_tables.specs.Values.{number_of, heap_of}
use Rattle.wasm_operator_validator_fast_tables.specs.Tables.{HasDefault}

-- numbers have defaults, and references that may be null
pub number_default : (code : ℕ) → code < 8 → HasDefault code
number_default code low ids = rw (lt-ltb code 8 low) refl

default_either : (low null : Bool) (k : Number) (h : HeapOf TypeTree) → null ≡ true → defaultable (if low then number k else ref null h) ≡ true
default_either true null k h e = refl
default_either false null k h e = e

pub null_default : (code : ℕ) → (code % 2 == 0) ≡ true → HasDefault code
null_default code even ids = default_either (nat_lt code 8) (code % 2 == 0) (number_of code) (heap_of ids ((code - 8) / 2)) even

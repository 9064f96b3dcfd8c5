-- The context in which constants are judged (WebAssembly 3.0, validation, modules): in the whole module the functions that a constant
-- names are among those that may be referred to, so where it stands it may name each function.
use Rattle.wasm_operator_validator_rules.specs.Context.{Module}
use Rattle.wasm_operator_validator_resources.specs.Meaning.{Meaning}
-- for attributes that unfold it
unfoldable pub use Rattle.wasm_operator_validator_resources.specs.Meaning.{type_in}
use Rattle.wasm_module_validator_rules_in_order.specs.contexts.InOrder.{places_from}

-- each function may be referred to
abbrev pub with_all_referenced : Module → Module
with_all_referenced g = record g { referenced = places_from 0 g.functions }

-- what look-ups mean then
abbrev pub meaning_with_all : Meaning → Meaning
meaning_with_all m = record { «module» = with_all_referenced m.«module»; ids = m.ids }

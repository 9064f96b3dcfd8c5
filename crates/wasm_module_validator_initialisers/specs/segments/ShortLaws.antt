-- A data segment at a number of 32 bits is valid in a module whose memory 0 has addresses of 32 bits.
use Rattle.std.proofs.Common.{ℕ, List, refl, sym, subst, Bool}
use Rattle.wasm_types.specs.settings.Settings.{Settings}
use Rattle.wasm_operator_validator_rules.specs.Context.{Module, address_type}
use Rattle.wasm_operator_validator_rules.specs.constants.Constants.{IsConstant}
use Rattle.wasm_sections_items.specs.segments.Spells.{active}
use Rattle.wasm_module_validator_initialisers.specs.segments.Judged.{IsData}
use Rattle.wasm_module_validator_initialisers.specs.segments.Short.{HasNarrowMemory, IsShortData}
use Rattle.wasm_module_validator_initialisers.specs.segments.NumberLaws.{i32_text}

pub short_data_is_valid : (text : List ℕ) (i j : ℕ) (s : IsShortData text i j) (z : Settings) (g : Module) (count : ℕ) → HasNarrowMemory g
    → IsData z g count (active 0 s.constant)
short_data_is_valid text i j s z g count (m, there, narrow) =
    let (c, spelled, constant) = i32_text z g count s.constant s.number in
    (active 0 c, (refl, spelled), (m, there, subst (λ (b : Bool). IsConstant z.features g count (address_type b) c) (sym narrow) constant))

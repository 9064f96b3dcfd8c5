use Rattle.std.proofs.Common.{◌∙◌, ℕ, List, sym, subst}
use Rattle.wasm_module_validator_resources.specs.referring.Naming.{NamesMore}
use Rattle.wasm_module_validator_initialisers.proofs.Unnamed.{names_none}
use Rattle.wasm_module_validator_initialisers.proofs.segments.constants.refers_to_none.Goals as goal

pub returns : goal.returns
returns c h z names =
    subst (λ (r : List ℕ). NamesMore z r names names) c.bytes_of.ensures (names_none z c.bytes_of.result.now names (sym c.contains.ensures.value ∙ c.if-contains.false))

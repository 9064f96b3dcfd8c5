use Rattle.std.proofs.Common.{sym}
use Rattle.wasm_module_validator_resources.proofs.Answering.{same_stored}
use Rattle.wasm_module_validator_resources.proofs.subtypes.is_stored_alike.Goals as goal

pub returns : goal.returns
returns c =
    rw (sym c.new.ensures, sym c.new-2.ensures)
    (same_stored _ _ _ _ c.eq.result _ c.eq.ensures (c.equality_is_of_declarations.ensures.subtypes c.stored_type-first.result.now c.stored_type-other.result.now)
    c.stored_type-first.ensures c.stored_type-other.ensures)

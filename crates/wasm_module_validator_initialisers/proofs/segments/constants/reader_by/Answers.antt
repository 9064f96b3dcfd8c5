use Rattle.wasm_module_validator_initialisers.proofs.Parts.{settled}
use Rattle.wasm_module_validator_initialisers.proofs.segments.constants.reader_by.Goals as goal

pub returns : goal.returns
returns c = settled c.args.settings.now c.args.expr.now _ _ _ _ _ c.get_binary_reader-reader.ensures c.features.ensures c.set_features.ensures c.limits.ensures c.set_limits.ensures

use Rattle.wasm_check_command.proofs.needs.bits_with.Goals as goal

pub returns : goal.returns
returns c = (c.features_with.result.0, c.features_with.ensures, c.union.ensures tt)

use Rattle.std.proofs.Common.{rules}
use Rattle.wasm_sections_items.proofs.limited.func_types.only_function.Goals as goal

pub returns : goal.returns
returns c = search rules

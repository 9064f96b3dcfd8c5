-- Behind a count within the limit no message is promised.
use Rattle.wasm_types_reader.proofs.Said.{says_nothing, not_above}
use Rattle.wasm_types_reader.proofs.lists.counted_items.Goals as goal

pub returns-clause-message : goal.returns-clause-message
returns-clause-message g c = says_nothing _ _ _ _ (not_above c.args.limit _ _ _ c.in_ok-count.ensures.answer)

-- The list that was found has features alone.
use Rattle.wasm_check_command.proofs.judging.accepted_text.Goals as goal

pub needs_switch-requires-clause-known : goal.needs_switch-requires-clause-known
needs_switch-requires-clause-known g c = rw c.as_slice.ensures.value c.in_ok-words.ensures.known

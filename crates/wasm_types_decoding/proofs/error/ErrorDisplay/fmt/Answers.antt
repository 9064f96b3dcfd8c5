-- The pieces of the text, one after the other.
use Rattle.std.proofs.Common.{ap, sym, ◌∙◌}
use Rattle.wasm_types_decoding.specs.ErrorValue.{ErrorValue}
use Rattle.wasm_types_decoding.proofs.error.ErrorDisplay.fmt.Goals as goal

pub returns-clause-writes : goal.returns-clause-writes
returns-clause-writes g c = rw (← c.self.view_is) (rw (
  c.in_radix.ensures,
  c.as_str.ensures.value,
  c.message-message.ensures ∙ ap (λ (e : ErrorValue). e.message) (sym c.self.view_is),
) at c.write.ensures.writes)

-- The parser reads where it stands, by its settings.
use Rattle.std.proofs.Common.{subst}
use Rattle.wasm_types.specs.decoding.Decoder.{State}
use Rattle.wasm_module_validator_streaming.specs.Passing.{IsFront}
use Rattle.wasm_module_validator_streaming.proofs.customs.read_front.Goals as goal

pub returns : goal.returns
returns c =
    subst (λ (s : State). IsFront s c.front_at.result) (λ i. record {
      rest = c.args.bytes.now;
      place = c.offset.ensures i;
      settings = record { features = c.features.ensures i; limits = c.limits.ensures.value i };
      start = c.offset.ensures i;
    }) c.front_at.ensures

use Rattle.std.proofs.Common.{◌≡◌, ◌==◌, false, rules}
use Rattle.std.proofs.lemmas.List.Elements.{All-more}
use Rattle.wasm_check_command.proofs.names.name_length.Goals as goal

pub loop-place-preserved : goal.loop-place-preserved
loop-place-preserved c = All-more (λ b. (b == 0) ≡ false) c.args.bytes.now c.loop-place.place 0 (search rules) c.loop-place.invariant (search rules)

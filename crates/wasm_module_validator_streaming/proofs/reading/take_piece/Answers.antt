-- What was too few stays so; and out of memory denies nothing.
use Rattle.std.proofs.Common.{rules, arith}
use Rattle.wasm_module_validator_streaming.proofs.Waiting.{are_bytes, still_pending}
use Rattle.wasm_module_validator_streaming.proofs.reading.take_piece.Goals as goal

pub returns-then-as_slice-pending-clause-pending : goal.returns-then-as_slice-pending-clause-pending
returns-then-as_slice-pending-clause-pending g c =
    still_pending g.T.TakesBytes.waits c.args.pending.now.needed c.args.pending.now.bytes.items c.args.piece.now c.args.taker.now c.requires.pending
    (are_bytes c.args.piece.now (λ i. omega (arith, c.type_inv.piece i))) c.append.new.bytes.items (search rules) (search rules)

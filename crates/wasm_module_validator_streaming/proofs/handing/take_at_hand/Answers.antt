-- Out of memory denies nothing; and what is left and may not be held is too long.
use Rattle.std.proofs.Common.{◌≡◌, ◌<◌, ◌-◌, ◌++◌, ℕ, List, false, length, take, drop, refl, subst}
use Rattle.wasm_types.specs.decoding.ErrorValue.{ErrorValue}
use Rattle.wasm_types.specs.decoding.declared.error.ErrorKind.TheVariants.{OutOfMemory}
use Rattle.wasm_module_validator_streaming.specs.Taking.{DeniesFrom}
use Rattle.wasm_module_validator_streaming.specs.Handing.{LongFrom}
use Rattle.wasm_module_validator_streaming.proofs.Handed.{says_if}
use Rattle.wasm_module_validator_streaming.proofs.OneItem.{all_left, waits_long}
use Rattle.wasm_module_validator_streaming.proofs.handing.take_at_hand.Goals as goal

pub returns-in-Waits-clause-err : goal.returns-in-Waits-clause-err
returns-in-Waits-clause-err g c =
    let b = g.T.TakesBytes in
    let text : List ℕ = c.args.bytes.now in
    says_if (λ (e : ErrorValue). e.kind ≡ OutOfMemory) (DeniesFrom b.stands b.denied false text c.args.taker.now)
    (c.args.most < length (take (length text - c.in-Waits.passed) (drop c.in-Waits.passed text))) (LongFrom b.stands b.waits c.args.most text c.args.taker.now)
    (λ e k first got s room more last room'. g.met.T.TakesBytes.memory first (got ++ more) e k)
    (λ m. waits_long b.stands b.shown b.denied b.waits text text refl c.args.taker.now c.take_items.new.taker c.in-Waits.passed c.in-Waits.needed c.in-Waits.ensures c.args.most
    (subst (λ (l : List ℕ). c.args.most < length l) (all_left c.in-Waits.passed text) m)) c.hold.result c.hold.ensures.err

use Rattle.wasm_operator_validator_stacks.proofs.Sharing.{inside_shared, outside_shared}
use Rattle.wasm_operator_validator_stacks.proofs.determined.shared.may_use.Goals as goal

pub returns-then-is_shared : goal.returns-then-is_shared
returns-then-is_shared c = inside_shared c.is_shared.result c.args.validator.now.given.shared c.args.shared c.is_shared.ensures c.if-is_shared.true

pub returns : goal.returns
returns c = outside_shared c.is_shared.result c.args.validator.now.given.shared c.args.shared c.is_shared.ensures c.if-is_shared.false

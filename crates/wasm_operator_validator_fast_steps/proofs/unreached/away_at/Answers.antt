use Rattle.std.proofs.Common.{◌+◌}
use Rattle.wasm_operator_validator_fast_steps.proofs.Unreaching.{passed_unreachable, passed_nop, passed_return, passed_throw_ref}
use Rattle.wasm_operator_validator_fast_steps.proofs.unreached.away_at.Goals as goal

pub returns-in-0-clause-passed : goal.returns-in-0-clause-passed
returns-in-0-clause-passed c =
    passed_unreachable c.args.tables.now c.args.bytes.now c.args.at (c.args.at + 1) c.args.opens.now.inner c.args.opens.now.outer
    (record { inside = c.requires; code_there = c.in-0.is })

pub returns-in-1-clause-passed : goal.returns-in-1-clause-passed
returns-in-1-clause-passed c =
    passed_nop c.args.tables.now c.args.bytes.now c.args.at (c.args.at + 1) c.args.opens.now.inner c.args.opens.now.outer
    (record { inside = c.requires; code_there = c.in-1.is })

pub returns-else-not-tables-clause-passed : goal.returns-else-not-tables-clause-passed
returns-else-not-tables-clause-passed c =
    passed_throw_ref c.args.tables.now c.args.bytes.now c.args.at (c.args.at + 1) c.args.opens.now.inner c.args.opens.now.outer c.if-not-tables.false
    (record { inside = c.requires; code_there = c.in-10.is })

pub returns-in-15-clause-passed : goal.returns-in-15-clause-passed
returns-in-15-clause-passed c =
    passed_return c.args.tables.now c.args.bytes.now c.args.at (c.args.at + 1) c.args.opens.now.inner c.args.opens.now.outer
    (record { inside = c.requires; code_there = c.in-15.is })

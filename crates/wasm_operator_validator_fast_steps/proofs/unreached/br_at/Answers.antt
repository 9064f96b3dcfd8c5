use Rattle.wasm_operator_validator_fast_steps.proofs.Unreaching.{passed_br}
use Rattle.wasm_operator_validator_fast_steps.proofs.unreached.br_at.Goals as goal

pub returns-clause-passed : goal.returns-clause-passed
returns-clause-passed c =
    passed_br c.args.tables.now c.args.bytes.now c.args.at c.in-Some.end c.args.opens.now.inner c.args.opens.now.outer c.requires c.in-Some.depth c.in-Some.ensures
    c.in-Some-frame_at._frame c.in-Some-frame_at.ensures

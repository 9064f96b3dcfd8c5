-- One more number is passed, or the passing ends where it does.
use Rattle.std.proofs.Common.{arith, ◌++◌, ◌∷◌, []}
use Rattle.std.proofs.lemmas.Result.{err_from_is_err_and}
use Rattle.wasm_types.specs.decoding.Laws.{reaches_then}
use Rattle.wasm_types.specs.decoding.Leb.{u32}
use Rattle.wasm_types.proofs.Rows.{goes_on, ends, is_done}
use Rattle.wasm_operators_immediates.proofs.read_br_table.pass_numbers.Goals as goal

pub returns-in_err-read_var_u32-clause-answer : goal.returns-in_err-read_var_u32-clause-answer
returns-in_err-read_var_u32-clause-answer c =
    let p = err_from_is_err_and c.from_residual.result c.from_residual.ensures.1 in
    rw (p.1, p.2) (ends u32 c.loop.invariant.read.0 c.args.count c.loop.counter c.loop.reader _ c.loop.invariant.read.1 _ _ c.loop-test.true c.in_err-read_var_u32.ensures.answer.0)

pub loop-preserved : goal.loop-preserved
loop-preserved c = record {
  forward = reaches_then _ _ _ c.loop.invariant.forward c.in_ok-read_var_u32.ensures.forward;
  read = (
    c.loop.invariant.read.0 ++ c.in_ok-read_var_u32.field-0 ∷ [],
    goes_on u32 c.loop.invariant.read.0 c.args.count c.loop.counter c.loop.reader
        _ c.loop.invariant.read.1 _ _ c.loop-test.true c.in_ok-read_var_u32.ensures.answer,
  );
}

pub returns-clause-answer : goal.returns-clause-answer
returns-clause-answer c = (c.loop.invariant.read.0, is_done u32 c.loop.invariant.read.0 c.args.count c.loop.counter c.loop.reader _ c.loop.invariant.read.1 (omega arith))

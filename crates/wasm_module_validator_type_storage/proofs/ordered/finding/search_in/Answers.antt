use Rattle.std.proofs.Common.{arith}
use Rattle.wasm_module_validator_type_storage.proofs.Splits.{place_between}
use Rattle.wasm_module_validator_type_storage.proofs.ordered.finding.search_in.Goals as goal

pub returns-clause-place : goal.returns-clause-place
returns-clause-place g c =
    place_between _ c.args.numbers.now c.search.low c.search.high (omega (arith, c.search.invariant.0, c.search-test.false)) (omega (arith, c.search.invariant))
    c.requires c.search.invariant.2 c.search.invariant.3

use Rattle.std.proofs.Common.{arith}
use Rattle.wasm_module_validator_type_storage.proofs.Splits.{less_to, rest_from}
use Rattle.wasm_module_validator_type_storage.proofs.ordered.finding.place_in.Goals as goal

pub returns-clause-less : goal.returns-clause-less
returns-clause-less g c = less_to _ c.args.numbers.now c.search.low (omega (arith, c.search.invariant)) c.requires c.search.invariant.2

pub returns-clause-rest : goal.returns-clause-rest
returns-clause-rest g c =
    rest_from _ c.args.numbers.now c.search.low c.requires c.search.high (omega (arith, c.search.invariant.0, c.search-test.false)) c.search.invariant.3

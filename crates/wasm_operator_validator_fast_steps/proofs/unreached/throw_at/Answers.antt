use Rattle.std.proofs.lemmas.Option.{slice_get-get_or}
use Rattle.wasm_operator_validator_fast_tables.specs.declared.tables.Sig.{Sig}
use Rattle.wasm_operator_validator_fast_steps.proofs.Unreaching.{passed_throw}
use Rattle.wasm_operator_validator_fast_steps.proofs.unreached.throw_at.Goals as goal

pub returns-clause-passed : goal.returns-clause-passed
returns-clause-passed c =
    let tags = c.as_slice-tags.ensures.value in
    let none : Sig = record { params = 0; param_count = 0; results = 0; result_count = 0 } in
    passed_throw c.args.tables.now c.args.bytes.now c.args.at c.in-Some.end c.args.opens.now.inner c.args.opens.now.outer c.if-not-tables.false c.requires c.in-Some.index c.in-Some.ensures
    _ (slice_get-get_or c.args.tables.now.known.tags.items c.in-Some.index none (rw tags at c.if-index-tags.false)) (rw (tags, c.as_slice.ensures.value) at c.if-sig-as_slice.false)

use Rattle.std.proofs.Common.{rules, ◌≡◌, to_z, of_z, w64, nat_abs}
use Rattle.std.proofs.lemmas.Option.{slice_get-get_or}
use Rattle.wasm_operator_validator_fast_tables.specs.declared.tables.Defined.TheVariants.{Other}
use Rattle.wasm_operator_validator_fast_tables.proofs.Writing.{index_few, index_read, defined_there}
use Rattle.wasm_operator_validator_fast_tables.proofs.written.defined_at.Goals as goal

pub returns : goal.returns
returns c =
    let held : to_z w64 (of_z w64 c.in-Some.index) ≡ c.in-Some.index = search rules in
    let value = c.as_slice-named.ensures.value in
    let y = nat_abs c.in-Some.index in
    rw (held, value) (defined_there c.args.bytes.now c.args.tables.now c.args.at c.in-Some.end y c.in-Some-top_of.top _
    (index_read c.args.bytes.now c.args.at c.in-Some.end c.in-Some.index (rw held at c.if-index-lt0.false) (rw held at c.if-index-ge1048576.false) c.in-Some.ensures.found)
    c.requires.references
    (slice_get-get_or c.args.tables.now.known.named.items y (record { code = 0; defined = Other }) (rw (held, value) at c.if-index-named.false))
    (rw (held, value) at c.if-named-ge-NO_CODE.false)
    (index_few c.in-Some.index (rw held at c.if-index-lt0.false) (rw held at c.if-index-ge1048576.false))
    (rw (held, value) at c.in-Some-top_of.ensures))

use Rattle.std.proofs.Common.{rules, ◌≡◌, to_z, of_z, w64, nat_abs}
use Rattle.std.proofs.lemmas.Option.{slice_get-get_or}
use Rattle.wasm_operators_immediates.specs.declared.block.BlockType.TheVariants.{FuncType}
use Rattle.wasm_operators_frequent.proofs.Carried.{index_there}
use Rattle.wasm_operator_validator_fast_steps.proofs.blocks.block_by_index.Goals as goal

pub returns : goal.returns
returns c =
    let held : to_z w64 (of_z w64 c.in-Some.index) ≡ c.in-Some.index = search rules in
    rw (held, c.as_slice-types.ensures.value) (
      FuncType (nat_abs c.in-Some.index),
      index_there c.args.bytes.now c.args.at c.requires.inside c.requires.begins c.in-Some.index c.in-Some.end (rw held at c.if-index-lt0.false) (rw held at c.if-index-ge4294967296.false) c.in-Some.ensures.found,
      λ ids z g fits.
          let (t, at, is) = fits.knows.types (nat_abs c.in-Some.index) _
          (slice_get-get_or c.args.tables.now.known.types.items (nat_abs c.in-Some.index) (record { params = 0; param_count = 0; results = 0; result_count = 0 })
          (rw (held, c.as_slice-types.ensures.value) at c.if-index-types.false))
          (rw (held, c.as_slice-types.ensures.value, c.as_slice.ensures.value) at c.if-sig-as_slice.false) in
          (fits.allows.values, t, at, is),
    )

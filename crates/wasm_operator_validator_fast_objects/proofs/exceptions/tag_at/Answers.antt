use Rattle.std.proofs.lemmas.Option.{slice_get-get_or}
use Rattle.wasm_operator_validator_fast_objects.proofs.exceptions.tag_at.Goals as goal

pub returns : goal.returns
returns c =
    let tags = c.as_slice-tags.ensures.value in
    let flat = c.as_slice.ensures.value in
    record {
      sig = _;
      at = slice_get-get_or c.args.tables.now.known.tags.items c.args.index (record { params = 0; param_count = 0; results = 0; result_count = 0 }) (rw tags at c.if-index-tags.false);
      usable = rw (flat, tags) at c.in-Some.ensures.within;
      carries = rw (flat, tags) at c.in-Some.ensures.value;
    }

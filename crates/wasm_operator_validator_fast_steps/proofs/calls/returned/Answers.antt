use Rattle.std.proofs.Common.{refl, sym, ◌∙◌}
use Rattle.std.proofs.lemmas.Option.{slice_get-get_or}
use Rattle.wasm_operator_validator_fast_steps.proofs.calls.returned.Goals as goal

pub returns : goal.returns
returns c =
    let types = c.as_slice-types.ensures.value in
    let flat = c.as_slice-flat.ensures.value in
    record {
      sig = _;
      at = slice_get-get_or c.args.tables.now.known.types.items c.args.ty (record { params = 0; param_count = 0; results = 0; result_count = 0 }) (rw types at c.if-index-types.false);
      usable = rw (flat, types) at c.in-Some.ensures.within;
      takes = rw (flat, types) at c.in-Some.ensures.value;
      gives = (rw (flat, types) at (sym c.in-Some-part.ensures.value)) ∙ sym (c.if-not-same.ensures refl) ∙ (rw flat at c.in-Some-part-2.ensures.value);
    }

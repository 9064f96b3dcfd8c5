use Rattle.std.proofs.Common.{◌∙◌, refl, sym, ap}
use Rattle.wasm_operator_validator_state.specs.resources.Meaning.{type_in}
use Rattle.wasm_operator_validator_fast_tables.proofs.Defining.{unpacked_is, packed_is}
use Rattle.wasm_operator_validator_fast_tables.proofs.naming.field_of.Goals as goal

pub returns : goal.returns
returns c = λ lt m. record {
  read = unpacked_is m c.args.field.now.element_type ∙ ap (type_in m) (sym c.unpack.ensures) ∙ c.code_of.ensures lt m;
  packed = packed_is m c.args.field.now.element_type ∙ sym c.is_packed.ensures;
  mutable = refl;
}

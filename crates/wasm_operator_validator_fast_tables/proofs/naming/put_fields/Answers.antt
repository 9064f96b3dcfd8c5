use Rattle.std.proofs.Common.{[], arith, refl, sym, append-nil}
use Rattle.std.proofs.lemmas.Option.{slice_get_read}
use Rattle.wasm_operator_validator_fast_tables.proofs.Defining.{fields_more, fields_end}
use Rattle.wasm_operator_validator_fast_tables.proofs.naming.put_fields.Goals as goal

pub loop-field-init : goal.loop-field-init
loop-field-init c = ([], sym (append-nil c.args.fields.now.items), λ m. tt)

pub loop-field-preserved : goal.loop-field-preserved
loop-field-preserved c =
    fields_more c.args.written.now c.loop-field.field-index _ c.field-item.result c.field_of-it.result c.args.fields.now.items c.loop-field.fields.items c.push.new.self.items
    (slice_get_read c.args.written.now _ c.loop-field.field-index c.field-item.result refl c.loop-field-test.true c.field-item.is) refl
    (c.field_of-it.ensures (omega arith)) c.in-Ok.ensures.items c.loop-field.invariant

pub returns-clause-fields : goal.returns-clause-fields
returns-clause-fields c = λ e.
    fields_end c.args.written.now c.loop-field.field-index c.args.fields.now.items c.loop-field.fields.items c.loop-field-test.false c.loop-field.invariant

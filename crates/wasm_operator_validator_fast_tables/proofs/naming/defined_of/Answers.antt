use Rattle.std.proofs.Common.{List, refl, sym, ap, subst, length, arith}
use Rattle.wasm_types.specs.fields.declared.field.FieldType.{FieldType}
use Rattle.wasm_types.specs.declared.composite.CompositeInnerType.TheVariants as composite
use Rattle.wasm_operator_validator_fast_tables.specs.declared.tables.Defined.TheVariants as defined
use Rattle.wasm_operator_validator_fast_tables.specs.Tables.{AreFields}
use Rattle.wasm_operator_validator_fast_tables.specs.Known.{fields_in}
use Rattle.wasm_operator_validator_fast_tables.proofs.Defining.{matched, function_is, struct_is, array_is}
use Rattle.wasm_operator_validator_fast_tables.proofs.naming.defined_of.Goals as goal

pub returns-in-Func-clause-is : goal.returns-in-Func-clause-is
returns-in-Func-clause-is c = λ m. matched m c.args.fields.now.items (composite.Func c.in-Func.field-0) c.args.inner.now defined.Function (sym c.in-Func.is) (function_is m c.args.fields.now.items c.in-Func.field-0)

pub returns-else-not-put_fields-clause-is : goal.returns-else-not-put_fields-clause-is
returns-else-not-put_fields-clause-is c = λ m.
    let (fs, is, all) = c.if-not-put_fields.ensures.fields refl in
    let all_written = subst (λ (ws : List FieldType). AreFields m.ids (fields_in m ws) fs) c.as_slice.ensures.value (all m) in
    let struct = defined.Struct (length c.as_slice-from.result.now) (length c.as_slice-count.result.now) in
    matched m c.put_fields.new.fields.items (composite.Struct c.in-Struct.it) c.args.inner.now struct (sym c.in-Struct.is)
    (struct_is m c.in-Struct.it.fields.items c.args.fields.now.items fs c.put_fields.new.fields.items _ _ (ap length c.as_slice-from.ensures.value) (ap length c.as_slice-count.ensures.value) is all_written)

pub returns-else-field-ge-NO_CODE-clause-is : goal.returns-else-field-ge-NO_CODE-clause-is
returns-else-field-ge-NO_CODE-clause-is c = λ m.
    matched m c.args.fields.now.items (composite.Array c.in-Array.it) c.args.inner.now (defined.Array c.field_of-field.result) (sym c.in-Array.is) (array_is m c.args.fields.now.items c.in-Array.it c.field_of-field.result (c.field_of-field.ensures (omega arith) m))

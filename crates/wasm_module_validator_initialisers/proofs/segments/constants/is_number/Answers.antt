use Rattle.std.proofs.Common.{sym, subst}
use Rattle.wasm_types.specs.values.declared.value.ValType.{ValType}
use Rattle.wasm_operator_validator_state.specs.resources.Meaning.{type_in}
use Rattle.wasm_operators_bodies.specs.declared.short.ShortConstant.{ShortConstant}
use Rattle.wasm_operators_bodies.specs.declared.short.ShortConstant.TheVariants as short
use Rattle.wasm_operators_bodies.specs.Short.{SpellsShort}
use Rattle.wasm_module_validator_initialisers.specs.segments.Judged.{IsConstantText}
use Rattle.wasm_module_validator_initialisers.specs.segments.NumberLaws.{i32_text, i64_text}
use Rattle.wasm_module_validator_initialisers.proofs.segments.constants.is_number.Goals as goal

pub returns-in-I32 : goal.returns-in-I32
unfolding type_in
returns-in-I32 c t z m count =
    let spelled : SpellsShort short.I32 c.args.expr.now.rest = subst (λ (k : ShortConstant). SpellsShort k c.args.expr.now.rest) c.in-Some-I32.field-0-is c.in-Some-I32.ensures in
    subst (λ (ty : ValType). IsConstantText z m.«module» count (type_in m ty) c.args.expr.now.rest) (sym c.in-I32.is)
    (i32_text z m.«module» count c.args.expr.now.rest spelled)

pub returns-in-I64 : goal.returns-in-I64
unfolding type_in
returns-in-I64 c t z m count =
    let spelled : SpellsShort short.I64 c.args.expr.now.rest = subst (λ (k : ShortConstant). SpellsShort k c.args.expr.now.rest) c.in-Some-I64.field-0-is c.in-Some-I64.ensures in
    subst (λ (ty : ValType). IsConstantText z m.«module» count (type_in m ty) c.args.expr.now.rest) (sym c.in-I64.is)
    (i64_text z m.«module» count c.args.expr.now.rest spelled)

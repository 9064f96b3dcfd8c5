-- Each step begins at a code of its class.
use Rattle.wasm_operator_validator_fast_objects.specs.declared.vector_shape.VectorClass.TheVariants as class
use Rattle.wasm_operator_validator_fast_objects.proofs.VectorCodes.{by_class, vector_at}
use Rattle.wasm_operator_validator_fast_objects.proofs.vectors.vector.Goals as goal

pub unary-requires : goal.unary-requires
unary-requires c = record { begins = vector_at c.args.bytes.now c.args.tables.now c.args.at c.in-Some.code c.in-Some.middle c.requires c.if-not-tables.false c.in-Some.ensures (c.may_relax.ensures c.if-not-may_relax.false); class = by_class class.Unary c.vector_class_of.result c.in-Some.code c.vector_class_of.ensures c.in-Unary.is }

pub binary-requires : goal.binary-requires
binary-requires c = record { begins = vector_at c.args.bytes.now c.args.tables.now c.args.at c.in-Some.code c.in-Some.middle c.requires c.if-not-tables.false c.in-Some.ensures (c.may_relax.ensures c.if-not-may_relax.false); class = by_class class.Binary c.vector_class_of.result c.in-Some.code c.vector_class_of.ensures c.in-Binary.is }

pub ternary-requires : goal.ternary-requires
ternary-requires c = record { begins = vector_at c.args.bytes.now c.args.tables.now c.args.at c.in-Some.code c.in-Some.middle c.requires c.if-not-tables.false c.in-Some.ensures (c.may_relax.ensures c.if-not-may_relax.false); class = by_class class.Ternary c.vector_class_of.result c.in-Some.code c.vector_class_of.ensures c.in-Ternary.is }

pub test-requires : goal.test-requires
test-requires c = record { begins = vector_at c.args.bytes.now c.args.tables.now c.args.at c.in-Some.code c.in-Some.middle c.requires c.if-not-tables.false c.in-Some.ensures (c.may_relax.ensures c.if-not-may_relax.false); class = by_class class.Test c.vector_class_of.result c.in-Some.code c.vector_class_of.ensures c.in-Test.is }

pub shift-requires : goal.shift-requires
shift-requires c = record { begins = vector_at c.args.bytes.now c.args.tables.now c.args.at c.in-Some.code c.in-Some.middle c.requires c.if-not-tables.false c.in-Some.ensures (c.may_relax.ensures c.if-not-may_relax.false); class = by_class class.Shift c.vector_class_of.result c.in-Some.code c.vector_class_of.ensures c.in-Shift.is }

pub splat-requires : goal.splat-requires
splat-requires c = vector_at c.args.bytes.now c.args.tables.now c.args.at c.in-Some.code c.in-Some.middle c.requires c.if-not-tables.false c.in-Some.ensures (c.may_relax.ensures c.if-not-may_relax.false)

pub constant-requires : goal.constant-requires
constant-requires c = record { begins = vector_at c.args.bytes.now c.args.tables.now c.args.at c.in-Some.code c.in-Some.middle c.requires c.if-not-tables.false c.in-Some.ensures (c.may_relax.ensures c.if-not-may_relax.false); class = by_class class.Const c.vector_class_of.result c.in-Some.code c.vector_class_of.ensures c.in-Const.is }

pub shuffle-requires : goal.shuffle-requires
shuffle-requires c = record { begins = vector_at c.args.bytes.now c.args.tables.now c.args.at c.in-Some.code c.in-Some.middle c.requires c.if-not-tables.false c.in-Some.ensures (c.may_relax.ensures c.if-not-may_relax.false); class = by_class class.Shuffle c.vector_class_of.result c.in-Some.code c.vector_class_of.ensures c.in-Shuffle.is }

pub extract-requires : goal.extract-requires
extract-requires c = vector_at c.args.bytes.now c.args.tables.now c.args.at c.in-Some.code c.in-Some.middle c.requires c.if-not-tables.false c.in-Some.ensures (c.may_relax.ensures c.if-not-may_relax.false)

pub replace-requires : goal.replace-requires
replace-requires c = vector_at c.args.bytes.now c.args.tables.now c.args.at c.in-Some.code c.in-Some.middle c.requires c.if-not-tables.false c.in-Some.ensures (c.may_relax.ensures c.if-not-may_relax.false)

pub vector_load-requires : goal.vector_load-requires
vector_load-requires c = vector_at c.args.bytes.now c.args.tables.now c.args.at c.in-Some.code c.in-Some.middle c.requires c.if-not-tables.false c.in-Some.ensures (c.may_relax.ensures c.if-not-may_relax.false)

pub vector_store-requires : goal.vector_store-requires
vector_store-requires c = record { begins = vector_at c.args.bytes.now c.args.tables.now c.args.at c.in-Some.code c.in-Some.middle c.requires c.if-not-tables.false c.in-Some.ensures (c.may_relax.ensures c.if-not-may_relax.false); class = by_class class.Store c.vector_class_of.result c.in-Some.code c.vector_class_of.ensures c.in-Store.is }

pub lane_load-requires : goal.lane_load-requires
lane_load-requires c = vector_at c.args.bytes.now c.args.tables.now c.args.at c.in-Some.code c.in-Some.middle c.requires c.if-not-tables.false c.in-Some.ensures (c.may_relax.ensures c.if-not-may_relax.false)

pub lane_store-requires : goal.lane_store-requires
lane_store-requires c = vector_at c.args.bytes.now c.args.tables.now c.args.at c.in-Some.code c.in-Some.middle c.requires c.if-not-tables.false c.in-Some.ensures (c.may_relax.ensures c.if-not-may_relax.false)

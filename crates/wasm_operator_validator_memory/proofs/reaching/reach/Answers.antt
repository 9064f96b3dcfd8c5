use Rattle.std.proofs.Common.{slice_get}
use Rattle.wasm_operator_validator_memory.proofs.Accessing.{not_found, not_aligned, not_within, not_in_memory, found}
use Rattle.wasm_operator_validator_memory.proofs.reaching.reach.Goals as goal

pub returns-in-None : goal.returns-in-None
returns-in-None g c =
    let m = g.R.WasmModuleResources.meaning c.args.resources.now in
    not_found c.args.is_atomic c.args.memarg.now (slice_get m.«module».memories c.args.memarg.now.memory) c.in-None.ensures

pub returns-then-not-has_alignment : goal.returns-then-not-has_alignment
returns-then-not-has_alignment g c =
    let m = g.R.WasmModuleResources.meaning c.args.resources.now in
    not_aligned c.args.is_atomic c.args.memarg.now (slice_get m.«module».memories c.args.memarg.now.memory) c.in-Some.memory c.has_alignment.result c.in-Some.ensures c.has_alignment.ensures c.if-not-has_alignment.true

pub returns-then-not-has_offset : goal.returns-then-not-has_offset
returns-then-not-has_offset g c =
    let m = g.R.WasmModuleResources.meaning c.args.resources.now in
    not_within c.args.is_atomic c.args.memarg.now (slice_get m.«module».memories c.args.memarg.now.memory) c.in-Some.memory c.has_offset.result c.in-Some.ensures c.has_offset.ensures c.if-not-has_offset.true

pub returns-then-not-reaches_memory : goal.returns-then-not-reaches_memory
returns-then-not-reaches_memory g c =
    let m = g.R.WasmModuleResources.meaning c.args.resources.now in
    not_in_memory c.args.is_atomic c.args.memarg.now (slice_get m.«module».memories c.args.memarg.now.memory) c.in-Some.memory c.reaches_memory.result c.in-Some.ensures c.reaches_memory.ensures c.if-not-reaches_memory.true

pub returns : goal.returns
returns g c =
    let m = g.R.WasmModuleResources.meaning c.args.resources.now in
    found m c.args.is_atomic c.args.memarg.now (slice_get m.«module».memories c.args.memarg.now.memory) c.in-Some.memory c.has_alignment.result c.has_offset.result c.reaches_memory.result c.index_type.result
    c.in-Some.ensures c.has_alignment.ensures c.if-not-has_alignment.false c.has_offset.ensures c.if-not-has_offset.false c.reaches_memory.ensures c.if-not-reaches_memory.false c.index_type.ensures

use Rattle.std.proofs.Common.{◌≡◌, ◌+◌, ℕ, List, Some, refl, ap, subst, slice_get}
use Rattle.std.proofs.lemmas.Option.{slice_get_read}
use Rattle.wasm_types.specs.trees.declared.index.UnpackedIndex.{UnpackedIndex}
use Rattle.wasm_types.specs.trees.Below.{expanded}
use Rattle.wasm_operator_validator_fast_tables.proofs.Climbing.{step_abstract, step_declared}
use Rattle.wasm_operator_validator_fast_tables.proofs.Defining.{supertype_is}
use Rattle.wasm_operator_validator_fast_tables.proofs.naming.step_of.Goals as goal

pub returns-in_default-get : goal.returns-in_default-get
returns-in_default-get c = λ m t fields n sound o alone is heap. step_abstract m.ids t n c.in-Some.around sound alone heap (c.in-Some.ensures m.ids fields (expanded t) is)

pub returns : goal.returns
returns c = λ m t fields n sound o alone is heap.
    let above = c.in-Some-get.above.now in
    let first : slice_get c.args.ty.now.supertype_idxs.items 0 ≡ Some above =
    subst (λ (xs : List UnpackedIndex). slice_get xs 0 ≡ Some above) c.deref.ensures.value
    (slice_get_read c.deref.result.now _ 0 above refl c.in-Some-get.ensures.lookup.3.0 c.in-Some-get.ensures.lookup.1) in
    step_declared m.ids t n c.in-Some.around sound alone heap (c.in-Some.ensures m.ids fields (expanded t) is) (16 + c.number-above.result) c.in-Some-as_core_type_id.id.0
    (ap (λ (k : ℕ). 16 + k) c.number-above.ensures) (supertype_is m c.args.ty.now t above c.in-Some-as_core_type_id.id o first c.in-Some-as_core_type_id.ensures)

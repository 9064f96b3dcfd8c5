use Rattle.std.proofs.Common.{◌∙◌, [], ap}
use Rattle.wasm_module_validator_type_storage.proofs.Places.{copies, laid_alike, items_alike}
use Rattle.wasm_module_validator_type_storage.proofs.snapshots.SnapshotList.commit.Goals as goal

pub invariant_of-result : goal.invariant_of-result
invariant_of-result g c =
    let pieces = copies (λ s. s.value) (λ x. x.items.items) c.seal.new.snapshots.items c.in_ok-snapshots.snapshots.items c.in_ok-snapshots.ensures.cases.0 in
    let priors = copies (λ s. s.value) (λ x. x.prior) c.seal.new.snapshots.items c.in_ok-snapshots.snapshots.items c.in_ok-snapshots.ensures.cases.0 in
    laid_alike _ _ _ _ _ [] c.new.result.items pieces priors c.new.ensures.items c.in_ok-self-inside.ensures.laid

pub returns-clause-same : goal.returns-clause-same
returns-clause-same g c =
    let pieces = copies (λ s. s.value) (λ x. x.items.items) c.seal.new.snapshots.items c.in_ok-snapshots.snapshots.items c.in_ok-snapshots.ensures.cases.0 in
    items_alike _ _ c.new.result.items _ pieces c.new.ensures.items (c.in_ok-self-inside.ensures.items ∙ ap (λ l. l.items) c.self.view_is)

use Rattle.std.proofs.Common.{◌≡◌, List, subst}
use Rattle.std.specs.Prelude.{OnOk}
use Rattle.wasm_types.specs.trees.declared.index.CoreTypeId.{CoreTypeId}
use Rattle.wasm_types.specs.Entries.{declared_types}
use Rattle.wasm_module_validator_canonical_types.specs.Canonical.{canonical_types}
use Rattle.wasm_module_validator_canonical_types.proofs.canonicalizer.TypeCanonicalizer.canonicalize_rec_group.Goals as goal

pub returns-clause-canonical : goal.returns-clause-canonical
returns-clause-canonical g c =
    subst (λ (ids : List CoreTypeId). OnOk c.canonicalize.result (declared_types c.canonicalize.new.rec_group ≡ canonical_types ids (declared_types c.args.rec_group.now)))
    c.type_ids.ensures c.canonicalize.ensures.canonical

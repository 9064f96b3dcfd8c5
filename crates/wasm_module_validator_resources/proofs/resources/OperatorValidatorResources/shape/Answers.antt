use Rattle.std.proofs.Common.{◌∙◌}
use Rattle.wasm_types.specs.Entries.{entry_of}
use Rattle.wasm_operator_validator_resources.specs.Meaning.{named_type}
use Rattle.wasm_module_validator_type_storage.specs.trees.Groups.{tree_of}
use Rattle.wasm_module_validator_resources.specs.Reading.{names_in}
use Rattle.wasm_module_validator_resources.proofs.Answering.{list_known, shared_in, abstract_in, nowhere_shared, nowhere_kind}
use Rattle.wasm_module_validator_resources.proofs.resources.OperatorValidatorResources.shape.Goals as goal

pub stored-ty-requires : goal.stored-ty-requires
stored-ty-requires c =
    list_known (c.args.self.now.types.now.groups) c.args.name c.in-Known.id c.in-Known.is c.requires

pub returns-in-Known-clause-shared : goal.returns-in-Known-clause-shared
returns-in-Known-clause-shared c =
    rw c.in-Known.is (shared_in (named_type (names_in (c.args.self.now.types.now.groups) (c.args.self.now.«module».now.types))) (entry_of c.stored-ty.result.now) (tree_of
    (c.args.self.now.types.now.groups) c.in-Known.id.0) c.stored-ty.ensures)

pub returns-in-Known-clause-kind : goal.returns-in-Known-clause-kind
returns-in-Known-clause-kind c =
    rw c.in-Known.is (c.kind_of.ensures ∙ abstract_in (named_type (names_in (c.args.self.now.types.now.groups) (c.args.self.now.«module».now.types))) (entry_of
    c.stored-ty.result.now) (tree_of (c.args.self.now.types.now.groups) c.in-Known.id.0) c.stored-ty.ensures)

pub returns-in-Unknown-clause-shared : goal.returns-in-Unknown-clause-shared
returns-in-Unknown-clause-shared c =
    rw c.in-Unknown.is (nowhere_shared _)

pub returns-in-Unknown-clause-kind : goal.returns-in-Unknown-clause-kind
returns-in-Unknown-clause-kind c =
    rw c.in-Unknown.is (nowhere_kind _)

use Rattle.std.proofs.Common.{◌∙◌, ◌<◌, sym, arith}
use Rattle.wasm_types.specs.trees.declared.index.CoreTypeId.{CoreTypeId}
use Rattle.wasm_module_validator_type_storage.specs.trees.Groups.{count}
use Rattle.wasm_module_validator_resources.specs.laws.Trees.{id_known, index_known}
use Rattle.wasm_module_validator_resources.proofs.Finding.{all_at, index_within, index_past}
use Rattle.wasm_module_validator_resources.proofs.resources.OperatorValidatorResources.id_at.Goals as goal

pub returns-in-Some-clause-answer : goal.returns-in-Some-clause-answer
returns-in-Some-clause-answer c =
    index_within (c.args.self.now.types.now.groups) (c.args.self.now.«module».now.types) c.args.number c.in-Some.id c.in-Some.ensures

pub returns-in-Some-clause-id : goal.returns-in-Some-clause-id
returns-in-Some-clause-id c =
    let lt = all_at (λ (i : CoreTypeId). i.0 < count (c.args.self.now.types.now.groups)) (c.args.self.now.«module».now.types) c.args.number c.in-Some.id
    c.args.self.now.settled.known c.in-Some.ensures in
    let small = c.type_count-count.ensures.small in
    record {
      means = id_known (c.args.self.now.types.now.groups) (c.args.self.now.«module».now.types) c.in-Some.id lt ∙ sym (index_known (c.args.self.now.types.now.groups)
          (c.args.self.now.«module».now.types) c.args.number c.in-Some.id (sym c.in-Some.ensures));
      known = lt;
      fits = omega arith;
    }

pub returns-in-None-clause-answer : goal.returns-in-None-clause-answer
returns-in-None-clause-answer c =
    rw c.with.ensures (λ lt. index_past (c.args.self.now.types.now.groups) (c.args.self.now.«module».now.types) c.args.number c.in-None.ensures lt)

use Rattle.std.proofs.Common.{ap}
use Rattle.wasm_module_validator_state.specs.Items.{Items}
use Rattle.wasm_module_validator_state.proofs.Making.{tag_context, tag_stays}
use Rattle.wasm_module_validator_state.proofs.state.ModuleState.add_tag.Goals as goal

pub returns-clause-context : goal.returns-clause-context
returns-clause-context c =
    let v = c.in-Ok.ensures.answer in
    tag_context c.args.types.now.groups c.args.self.now.spaces c.self.inside.«module» c.add_tag.new.self (ap (λ (m : Items). m.spaces) c.self.view_is) c.add_tag.result
    c.args.ty.func_type_idx (v.type, v.signature, v.named, v.function) c.add_tag.ensures.added

pub returns-clause-read : goal.returns-clause-read
returns-clause-read c =
    let v = c.in-Ok.ensures.answer in
    tag_stays c.args.types.now.groups c.args.self.now.spaces c.self.inside.«module» c.add_tag.new.self (ap (λ (m : Items). m.spaces) c.self.view_is) c.add_tag.result
    c.args.ty.func_type_idx (v.type, v.signature, v.named, v.function) c.requires c.add_tag.ensures.added c.add_tag.ensures.stays

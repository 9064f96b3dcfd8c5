use Rattle.std.proofs.Common.{ap}
use Rattle.wasm_types.specs.trees.ValidGroup.{types_of}
use Rattle.wasm_module_validator_type_groups.specs.adding.Interned.{space_of, written_group}
use Rattle.wasm_module_validator_state.specs.Items.{Items}
use Rattle.wasm_module_validator_state.proofs.Making.{types_context, types_stay}
use Rattle.wasm_module_validator_state.proofs.state.ModuleState.add_types.Goals as goal

pub returns-clause-space : goal.returns-clause-space
returns-clause-space c = rw (← c.self.view_is) c.add_types.ensures.space

pub returns-clause-context : goal.returns-clause-context
returns-clause-context c =
    types_context c.args.types.now.groups c.add_types.new.types.groups c.args.self.now.spaces c.self.inside.«module» c.add_types.new.self
    (ap (λ (m : Items). m.spaces) c.self.view_is) _ (types_of (space_of c.args.types.now.groups c.args.self.now.spaces.types) (written_group c.args.rec_group))
    c.add_types.result c.requires.read c.add_types.ensures.interned (rw (← c.self.view_is) c.add_types.ensures.space) c.add_types.ensures.added

pub returns-clause-read : goal.returns-clause-read
returns-clause-read c =
    types_stay c.args.types.now.groups c.add_types.new.types.groups c.args.self.now.spaces c.self.inside.«module» c.add_types.new.self
    (ap (λ (m : Items). m.spaces) c.self.view_is) _ (types_of (space_of c.args.types.now.groups c.args.self.now.spaces.types) (written_group c.args.rec_group))
    c.add_types.result c.requires.read c.add_types.ensures.interned c.add_types.ensures.checked c.add_types.ensures.known c.add_types.ensures.added

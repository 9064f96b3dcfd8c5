use Rattle.std.proofs.Common.{ap}
use Rattle.wasm_module_validator_state.specs.Items.{Items}
use Rattle.wasm_module_validator_declarations.proofs.Telling.{tag_told}
use Rattle.wasm_module_validator_declarations.proofs.Leaving.{on_ok, in_both, tag_left}
use Rattle.wasm_module_validator_declarations.proofs.own.add_tag_item.Goals as goal

pub returns-clause-answer : goal.returns-clause-answer
returns-clause-answer c = tag_told c.args.types.now.groups c.args.state.now c.add_tag.result c.args.ty c.add_tag.ensures.answer

pub returns-clause-added : goal.returns-clause-added
returns-clause-added c = on_ok c.add_tag.result _ _ (tag_left c.args.types.now.groups c.args.state.now c.args.ty c.add_tag.new.self) c.add_tag.ensures.added

pub returns-clause-settings : goal.returns-clause-settings
returns-clause-settings c =
    in_both c.add_tag.result _ _ _ (λ e. ap (λ (l : Items). l.spaces.settings) e) (λ e. ap (λ (l : Items). l.spaces.settings) e) c.add_tag.ensures.added c.add_tag.ensures.stays

pub returns-clause-types : goal.returns-clause-types
returns-clause-types c =
    in_both c.add_tag.result _ _ _ (λ e. ap (λ (l : Items). l.spaces.types) e) (λ e. ap (λ (l : Items). l.spaces.types) e) c.add_tag.ensures.added c.add_tag.ensures.stays

pub returns-clause-code : goal.returns-clause-code
returns-clause-code c = in_both c.add_tag.result _ _ _ (λ e. ap (λ (l : Items). l.next_code) e) (λ e. ap (λ (l : Items). l.next_code) e) c.add_tag.ensures.added c.add_tag.ensures.stays

use Rattle.std.proofs.Common.{ap}
use Rattle.wasm_module_validator_state.specs.Items.{Items}
use Rattle.wasm_module_validator_declarations.proofs.Telling.{export_told}
use Rattle.wasm_module_validator_declarations.proofs.Leaving.{on_ok, in_both, export_left, export_settings, export_types}
use Rattle.wasm_module_validator_declarations.proofs.exports.add_export_item.Goals as goal

pub returns-clause-answer : goal.returns-clause-answer
returns-clause-answer c =
    export_told c.args.types.now.groups c.args.state.now c.add_export.result
    (record { name = c.args.export.name.now; kind = c.args.export.kind; index = c.args.export.index }) c.add_export.ensures.answer

pub returns-clause-added : goal.returns-clause-added
returns-clause-added c =
    on_ok c.add_export.result _ _ (export_left c.args.types.now.groups c.args.state.now
    (record { name = c.args.export.name.now; kind = c.args.export.kind; index = c.args.export.index }) c.add_export.new.self) c.add_export.ensures.exported

pub returns-clause-settings : goal.returns-clause-settings
returns-clause-settings c =
    in_both c.add_export.result _ _ _ (export_settings c.args.types.now.groups c.args.state.now
    (record { name = c.args.export.name.now; kind = c.args.export.kind; index = c.args.export.index }) c.add_export.new.self)
    (λ e. ap (λ (l : Items). l.spaces.settings) e)
    c.add_export.ensures.exported c.add_export.ensures.stays

pub returns-clause-types : goal.returns-clause-types
returns-clause-types c =
    in_both c.add_export.result _ _ _ (export_types c.args.types.now.groups c.args.state.now
    (record { name = c.args.export.name.now; kind = c.args.export.kind; index = c.args.export.index }) c.add_export.new.self)
    (λ e. ap (λ (l : Items). l.spaces.types) e)
    c.add_export.ensures.exported c.add_export.ensures.stays

pub returns-clause-code : goal.returns-clause-code
returns-clause-code c =
    in_both c.add_export.result _ _ _ (λ k. ap (λ (l : Items). l.next_code) k.added)
    (λ e. ap (λ (l : Items). l.next_code) e) c.add_export.ensures.exported c.add_export.ensures.stays

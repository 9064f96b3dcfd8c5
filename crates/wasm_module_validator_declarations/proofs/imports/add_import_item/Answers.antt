use Rattle.std.proofs.Common.{ap, ⊎_elim}
use Rattle.wasm_module_validator_state.specs.Items.{Items}
use Rattle.wasm_module_validator_declarations.proofs.Telling.{import_told}
use Rattle.wasm_module_validator_declarations.proofs.Leaving.{on_ok, in_both, import_left, import_settings, import_types}
use Rattle.wasm_module_validator_declarations.proofs.imports.add_import_item.Goals as goal

pub returns-clause-answer : goal.returns-clause-answer
returns-clause-answer c =
    import_told c.args.types.now.groups c.args.state.now c.add_import.result
    (record { module_name = c.args.import.now.«module».now; field_name = c.args.import.now.name.now; ty = c.args.import.now.ty }) c.add_import.ensures.answer

pub returns-clause-added : goal.returns-clause-added
returns-clause-added c =
    on_ok c.add_import.result _ _ (import_left c.args.types.now.groups c.args.state.now
    (record { module_name = c.args.import.now.«module».now; field_name = c.args.import.now.name.now; ty = c.args.import.now.ty }) c.add_import.new.self) c.add_import.ensures.imported

pub returns-clause-settings : goal.returns-clause-settings
returns-clause-settings c =
    in_both c.add_import.result _ _ _ (import_settings c.args.types.now.groups c.args.state.now
    (record { module_name = c.args.import.now.«module».now; field_name = c.args.import.now.name.now; ty = c.args.import.now.ty }) c.add_import.new.self)
    (⊎_elim (λ e. ap (λ (l : Items). l.spaces.settings) e) (λ e. ap (λ (l : Items). l.spaces.settings) e))
    c.add_import.ensures.imported c.add_import.ensures.left

pub returns-clause-types : goal.returns-clause-types
returns-clause-types c =
    in_both c.add_import.result _ _ _ (import_types c.args.types.now.groups c.args.state.now
    (record { module_name = c.args.import.now.«module».now; field_name = c.args.import.now.name.now; ty = c.args.import.now.ty }) c.add_import.new.self)
    (⊎_elim (λ e. ap (λ (l : Items). l.spaces.types) e) (λ e. ap (λ (l : Items). l.spaces.types) e))
    c.add_import.ensures.imported c.add_import.ensures.left

pub returns-clause-code : goal.returns-clause-code
returns-clause-code c =
    in_both c.add_import.result _ _ _ (λ k. ap (λ (l : Items). l.next_code) k.added)
    (⊎_elim (λ e. ap (λ (l : Items). l.next_code) e) (λ e. ap (λ (l : Items). l.next_code) e)) c.add_import.ensures.imported c.add_import.ensures.left

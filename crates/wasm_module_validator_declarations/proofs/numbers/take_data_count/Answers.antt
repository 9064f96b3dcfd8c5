use Rattle.std.proofs.Common.{refl, ap, sym, subst}
use Rattle.wasm_module_validator_state.specs.Items.{Items}
use Rattle.wasm_module_validator_state.specs.Adding.{counting_data}
use Rattle.wasm_module_validator_state.specs.laws.Importing.{same_read}
use Rattle.wasm_module_validator_state.specs.resources.Named.{IsReadOver}
use Rattle.wasm_module_validator_declarations.proofs.Telling.{count_told}
use Rattle.wasm_module_validator_declarations.proofs.Leaving.{on_ok, in_both, count_left}
use Rattle.wasm_module_validator_declarations.proofs.numbers.take_data_count.Goals as goal

pub returns-clause-answer : goal.returns-clause-answer
returns-clause-answer c = λ groups. count_told groups c.args.state.now c.add_data_count.result c.args.count c.add_data_count.ensures.answer

pub returns-clause-added : goal.returns-clause-added
returns-clause-added c = on_ok c.add_data_count.result _ _ (λ e groups. count_left groups c.args.state.now c.args.count c.add_data_count.new.self e) c.add_data_count.ensures.added

pub returns-clause-read : goal.returns-clause-read
returns-clause-read c =
    in_both c.add_data_count.result _ _ _
    (λ e groups h. subst (λ (l : Items). IsReadOver groups l.spaces) (sym e) (same_read groups c.args.state.now.spaces h (counting_data c.args.count c.args.state.now.spaces) refl refl refl))
    (λ e groups h. subst (λ (l : Items). IsReadOver groups l.spaces) (sym e) h) c.add_data_count.ensures.added c.add_data_count.ensures.stays

pub returns-clause-settings : goal.returns-clause-settings
returns-clause-settings c =
    in_both c.add_data_count.result _ _ _ (λ e. ap (λ (l : Items). l.spaces.settings) e) (λ e. ap (λ (l : Items). l.spaces.settings) e) c.add_data_count.ensures.added c.add_data_count.ensures.stays

pub returns-clause-types : goal.returns-clause-types
returns-clause-types c =
    in_both c.add_data_count.result _ _ _ (λ e. ap (λ (l : Items). l.spaces.types) e) (λ e. ap (λ (l : Items). l.spaces.types) e) c.add_data_count.ensures.added c.add_data_count.ensures.stays

pub returns-clause-code : goal.returns-clause-code
returns-clause-code c =
    in_both c.add_data_count.result _ _ _ (λ e. ap (λ (l : Items). l.next_code) e) (λ e. ap (λ (l : Items). l.next_code) e) c.add_data_count.ensures.added c.add_data_count.ensures.stays

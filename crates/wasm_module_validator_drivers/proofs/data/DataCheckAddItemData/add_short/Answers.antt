use Rattle.std.proofs.Common.{◌≡◌, ap, refl, sym, subst, List}
use Rattle.wasm_module_validator_payloads.specs.state.Items.{Items}
use Rattle.wasm_module_validator_section_order.specs.rules_in_order.Sections as section
use Rattle.wasm_module_validator_type_storage.specs.trees.Groups.{Group}
use Rattle.wasm_module_validator_payloads.specs.state.invariant.Standing.{IsAdded}
use Rattle.wasm_module_validator_payloads.specs.laws.Short.{adds_data, in_first}
use Rattle.wasm_module_validator_drivers.proofs.data.DataCheckAddItemData.add_short.Goals as goal

pub returns-in-Some-clause-added : goal.returns-in-Some-clause-added
returns-in-Some-clause-added c =
    let k = c.args.self.now.«module».now in
    let s = c.in-Some.ensures.short in
    let told = c.in-Some.ensures.added s in
    let here = subst (λ (i : Items). IsAdded section.data_segments c.types.result.now.groups i (in_first s) i) c.state.ensures told in
    let added = subst (λ (gs : List Group). IsAdded section.data_segments gs k.items (in_first s) k.items) c.types.ensures.value here in
    let a = adds_data k.groups k.items c.args._limits.now c.args.bytes.now c.args.at c.in-Some.end s added k.count in
    record { item = a.item; front = a.front; whole = a.whole; place = a.place; inside = a.inside; spelled = a.spelled; may = a.may; added = a.added }

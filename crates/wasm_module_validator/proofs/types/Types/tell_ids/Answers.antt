use Rattle.std.proofs.Common.{◌≡◌, ◌∙◌, List, ap, subst}
use Rattle.wasm_module_validator_drivers.specs.payloads.Progress.{Kept}
use Rattle.wasm_module_validator_type_storage.specs.trees.Groups.{Group}
use Rattle.wasm_module_validator.specs.Lists.{AreToldUnder}
use Rattle.wasm_module_validator.specs.Shown.{Learned}
use Rattle.wasm_module_validator.specs.laws.Lists.{told_apart}
use Rattle.wasm_module_validator.proofs.types.Types.tell_ids.Goals as goal

pub returns : goal.returns
returns c =
    let k : Kept = c.deref.result.now in
    let gs : List Group = c.types.result.now.groups in
    let told : AreToldUnder k.items.spaces.settings gs gs = λ on. told_apart gs c.type_count-count.ensures.formed (c.types.ensures.over.checked.canonical on) in
    let here : AreToldUnder k.items.spaces.settings k.groups k.groups = subst (λ (hs : List Group). AreToldUnder k.items.spaces.settings hs hs) c.types.ensures.value told in
    let same : k ≡ c.args.self.now.kept = c.deref.ensures ∙ ap (λ (l : Learned). l.kept) c.self.view_is in
    subst (λ (m : Kept). AreToldUnder m.items.spaces.settings m.groups m.groups) same here

use Rattle.std.proofs.Common.{rules}
use Rattle.std.proofs.Common.{◌∙◌, ◌++◌, ◌∷◌, [], ap, refl, arith}
use Rattle.wasm_module_validator_type_storage.proofs.Places.{laid_more, items_more}
use Rattle.wasm_module_validator_type_storage.proofs.snapshots.seal.Goals as goal

pub returns-in-Ok-clause-laid : goal.returns-in-Ok-clause-laid
returns-in-Ok-clause-laid g c =
    let more = c.push_in_room.ensures ∙ ap (λ l. l ++ c.in-Ok.shared ∷ []) c.reserve.ensures.items in
    let is = ap (λ s. s.items.items) c.in-Ok.ensures.ok ∙ ap (λ v. v.items) c.replace-items.ensures.value ∙ c.shrink_to_fit.ensures.items in
    laid_more (λ s. s.value.items.items) (λ s. s.value.prior) c.args.snapshots.now.items c.push_in_room.new.items.items c.in-Ok.shared c.args.current.now.items [] more is refl
    c.args.total _ c.requires (ap (λ s. s.prior) c.in-Ok.ensures.ok) (omega arith)

pub returns-in-Ok-clause-items : goal.returns-in-Ok-clause-items
returns-in-Ok-clause-items g c =
    let more = c.push_in_room.ensures ∙ ap (λ l. l ++ c.in-Ok.shared ∷ []) c.reserve.ensures.items in
    let is = ap (λ s. s.items.items) c.in-Ok.ensures.ok ∙ ap (λ v. v.items) c.replace-items.ensures.value ∙ c.shrink_to_fit.ensures.items in
    items_more (λ s. s.value.items.items) (λ s. s.value.prior) c.args.snapshots.now.items c.push_in_room.new.items.items c.in-Ok.shared c.args.current.now.items [] more is refl

pub returns-in-Err-clause-current_stays : goal.returns-in-Err-clause-current_stays
returns-in-Err-clause-current_stays c = search rules

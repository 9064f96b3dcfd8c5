use Rattle.std.proofs.Common.{◌∙◌, List, ◌∷◌, ap, sym, subst, map, length}
use Rattle.std.proofs.lemmas.List.{length-map}
use Rattle.wasm_types.specs.Entries.{declared_of, declared_types, subtypes}
use Rattle.wasm_types.specs.declared.sub_type.SubType.{SubType}
use Rattle.wasm_module_validator_type_storage.specs.trees.Groups.{Group, supertype_id}
use Rattle.wasm_module_validator_type_list.specs.Known.{group_in, CanLearn, KnowsMore}
use Rattle.wasm_module_validator_type_list.specs.List.{groups_in, IsAdded}
use Rattle.wasm_module_validator_type_list.proofs.Knowing.{can_learn}
use Rattle.wasm_module_validator_type_list.proofs.Holding.{holds, groups_same, lists_stay, lists_unlearned, depths_kept, on_err}
use Rattle.wasm_module_validator_type_list.proofs.Rolling.{lists_give}
use Rattle.wasm_module_validator_type_list.proofs.Adding.{stored_length, short_lists, added_list}
use Rattle.wasm_module_validator_type_list.proofs.Likeness.{uniform_same}
use Rattle.wasm_module_validator_type_list.proofs.list.TypeList.add.Goals as goal

pub append-requires-clause-short : goal.append-requires-clause-short
append-requires-clause-short c =
    short_lists c.self.inside.lists c.reserve.new.self c.reserve.new.self c.self.inside.known c.self.inside.known c.args.self.now.groups (ap (λ l. l.groups) c.self.view_is) c.self.invariant
    c.reserve.ensures.same c.args.group c.requires.room (length c.in_ok-types.types.items)
    (stored_length c.in_ok-types.types.items c.types.result.now (declared_types c.args.group) _ c.in_ok-types.ensures (ap (map declared_of) c.types.ensures))

pub learn-requires : goal.learn-requires
learn-requires c =
    subst (λ (l : List SubType). CanLearn c.args.is_canonical l c.args.group c.self.inside.known) (sym c.reserve.ensures.same.types)
    (can_learn (groups_in c.self.inside.lists) c.self.inside.lists.types.items c.args.is_canonical c.args.group c.self.inside.known c.self.invariant.knows
    (subst (λ (l : List Group). IsAdded l (group_in c.args.is_canonical c.args.group)) (sym (ap (λ l. l.groups) c.self.view_is)) c.requires.added))

pub append-requires-clause-uniform : goal.append-requires-clause-uniform
append-requires-clause-uniform c =
    uniform_same c.self.inside.lists.types.items c.reserve.new.self.types.items c.self.inside.lists.supertypes.items c.reserve.new.self.supertypes.items
    c.self.inside.lists.uniform.items c.reserve.new.self.uniform.items c.reserve.ensures.same.types c.reserve.ensures.same.supertypes c.reserve.ensures.same.uniform
    c.self.invariant.uniform

pub invariant_of-self-2 : goal.invariant_of-self-2
invariant_of-self-2 c =
    holds (group_in c.args.is_canonical c.args.group ∷ c.args.self.now.groups) c.append.new.self c.learn.new.known
    (added_list c.self.inside.lists c.reserve.new.self c.append.new.self c.self.inside.known c.learn.new.known c.args.self.now.groups (ap (λ l. l.groups) c.self.view_is) c.self.invariant
    c.reserve.ensures.same c.args.group c.requires.room
    c.order_is_of_types.ensures.ties c.args.is_canonical c.args.id c.requires.formed c.requires.added c.requires.id
    c.in_ok-types.types.items c.types.result.now c.in_ok-homes.homes.items c.in_ok-supertypes.supertypes.items c.new.result c.new-2.result
    c.type_count-start.result (length c.types-further.result.now)
    c.type_count-start.ensures.counted (ap length c.types-further.ensures ∙ sym (length-map (subtypes c.args.group) declared_of))
    c.new.ensures c.new-2.ensures (ap (map declared_of) c.types.ensures)
    c.in_ok-types.ensures c.in_ok-homes.ensures (c.in_ok-supertypes.ensures ∙ ap (λ l. map supertype_id (map declared_of l)) c.as_slice.ensures.value)
    (subst (λ (l : List SubType). KnowsMore c.args.is_canonical c.reserve.new.self.types.items l c.type_count-start.result c.args.group c.args.id c.self.inside.known c.learn.new.known)
    c.as_slice-2.ensures.value c.in_ok-learn.ensures.ok)
    c.append.ensures.forms c.append.ensures.types c.append.ensures.homes c.append.ensures.supertypes c.append.ensures.elements
    (ap (λ l. l.can_intern) c.self.view_is ∙ c.requires.can_intern) c.reserve.ensures.depths c.append.ensures.depths c.append.ensures.uniform)

pub returns-clause-ok : goal.returns-clause-ok
returns-clause-ok c =
    lists_give (group_in c.args.is_canonical c.args.group ∷ c.args.self.now.groups) c.append.new.self c.learn.new.known
    (added_list c.self.inside.lists c.reserve.new.self c.append.new.self c.self.inside.known c.learn.new.known c.args.self.now.groups (ap (λ l. l.groups) c.self.view_is) c.self.invariant
    c.reserve.ensures.same c.args.group c.requires.room
    c.order_is_of_types.ensures.ties c.args.is_canonical c.args.id c.requires.formed c.requires.added c.requires.id
    c.in_ok-types.types.items c.types.result.now c.in_ok-homes.homes.items c.in_ok-supertypes.supertypes.items c.new.result c.new-2.result
    c.type_count-start.result (length c.types-further.result.now)
    c.type_count-start.ensures.counted (ap length c.types-further.ensures ∙ sym (length-map (subtypes c.args.group) declared_of))
    c.new.ensures c.new-2.ensures (ap (map declared_of) c.types.ensures)
    c.in_ok-types.ensures c.in_ok-homes.ensures (c.in_ok-supertypes.ensures ∙ ap (λ l. map supertype_id (map declared_of l)) c.as_slice.ensures.value)
    (subst (λ (l : List SubType). KnowsMore c.args.is_canonical c.reserve.new.self.types.items l c.type_count-start.result c.args.group c.args.id c.self.inside.known c.learn.new.known)
    c.as_slice-2.ensures.value c.in_ok-learn.ensures.ok)
    c.append.ensures.forms c.append.ensures.types c.append.ensures.homes c.append.ensures.supertypes c.append.ensures.elements
    (ap (λ l. l.can_intern) c.self.view_is ∙ c.requires.can_intern) c.reserve.ensures.depths c.append.ensures.depths c.append.ensures.uniform)

pub returns-clause-depths : goal.returns-clause-depths
returns-clause-depths c =
    depths_kept c.self.inside.known c.self.inside.limits c.self.inside.lists c.reserve.new.self c.append.new.self c.args.self.now (length c.in_ok-types.types.items) c.self.view_is c.self.invariant
    c.reserve.ensures.depths c.append.ensures.depths

pub invariant_of-self : goal.invariant_of-self
invariant_of-self c = lists_stay c.self.inside.known c.self.inside.lists c.reserve.new.self c.reserve.ensures.same c.reserve.ensures.depths c.self.invariant

pub returns-in_err-reserve-clause-err : goal.returns-in_err-reserve-clause-err
returns-in_err-reserve-clause-err c =
    on_err c.from_residual-in_err-reserve.result (groups_same c.self.inside.lists c.reserve.new.self c.reserve.ensures.same ∙ ap (λ l. l.groups) c.self.view_is)

pub invariant_of-self-in_err-learn : goal.invariant_of-self-in_err-learn
invariant_of-self-in_err-learn c =
    lists_unlearned c.self.inside.known c.learn.new.known c.self.inside.lists c.reserve.new.self c.reserve.ensures.same c.reserve.ensures.depths c.self.invariant
    c.in_err-learn.ensures.err

pub returns-in_err-learn-clause-err : goal.returns-in_err-learn-clause-err
returns-in_err-learn-clause-err c =
    on_err c.from_residual-in_err-learn.result (groups_same c.self.inside.lists c.reserve.new.self c.reserve.ensures.same ∙ ap (λ l. l.groups) c.self.view_is)

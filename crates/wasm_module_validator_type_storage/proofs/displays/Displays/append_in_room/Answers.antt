use Rattle.std.proofs.Common.{rules, ◌≡◌, ◌∙◌, ◌+◌, ◌-◌, ◌≤◌, ◌++◌, List, [], length, ap, sym, subst, refl, arith, true, is_ok}
use Rattle.std.specs.Prelude.{IsOk}
use Rattle.wasm_module_validator_type_storage.proofs.Filling.{if_so, types_added, all_made}
use Rattle.wasm_module_validator_type_storage.proofs.displays.Displays.append_in_room.Goals as goal

pub fill-requires : goal.fill-requires
fill-requires c =
    let few = c.self.invariant.so_far.few in
    let room : length c.args.items.now.items ≤ c.self.inside.room = omega (arith, c.requires, ap (λ l. l.room) c.self.view_is) in
    let ok : is_ok c.append.result ≡ true = c.append.ensures.succeeds (let have = c.self.invariant.supertypes_room in omega (arith, room)) (omega (arith, few, room)) in
    let is = if_so (is_ok c.append.result) c.append.new.self.items _ _ c.append.ensures.items ok in
    types_added c.self.inside.supertypes c.append.new.self c.args.items.now.items c.self.inside.displays c.self.inside.entries c.self.inside.room 0 c.self.invariant is (omega (arith, room))

pub invariant_of-self : goal.invariant_of-self
invariant_of-self c =
    let few = c.self.invariant.so_far.few in
    let long : length c.as_slice-further.result.now ≡ length c.args.items.now.items = ap length c.as_slice-further.ensures.value in
    let room : length c.args.items.now.items ≤ c.self.inside.room = omega (arith, c.requires, ap (λ l. l.room) c.self.view_is) in
    let ok : is_ok c.append.result ≡ true = c.append.ensures.succeeds (let have = c.self.invariant.supertypes_room in omega (arith, room)) (omega (arith, few, room)) in
    let is = if_so (is_ok c.append.result) c.append.new.self.items _ _ c.append.ensures.items ok in
    all_made c.self.inside.supertypes c.append.new.self c.args.items.now.items c.self.inside.displays c.fill.new.displays c.self.inside.entries c.fill.new.entries c.self.inside.room
    (c.self.inside.room - length c.as_slice-further.result.now) c.self.invariant is (omega (arith, long, room)) c.append.ensures.room c.fill.ensures.so_far c.fill.ensures.all

pub returns-clause-items : goal.returns-clause-items
returns-clause-items c =
    let few = c.self.invariant.so_far.few in
    let room : length c.args.items.now.items ≤ c.self.inside.room = omega (arith, c.requires, ap (λ l. l.room) c.self.view_is) in
    let ok : is_ok c.append.result ≡ true = c.append.ensures.succeeds (let have = c.self.invariant.supertypes_room in omega (arith, room)) (omega (arith, few, room)) in
    if_so (is_ok c.append.result) c.append.new.self.items _ _ c.append.ensures.items ok ∙ ap (λ l. l.items ++ c.args.items.now.items) c.self.view_is

pub returns-clause-taken : goal.returns-clause-taken
returns-clause-taken c =
    let few = c.self.invariant.so_far.few in
    let room : length c.args.items.now.items ≤ c.self.inside.room = omega (arith, c.requires, ap (λ l. l.room) c.self.view_is) in
    let ok : is_ok c.append.result ≡ true = c.append.ensures.succeeds (let have = c.self.invariant.supertypes_room in omega (arith, room)) (omega (arith, few, room)) in
    if_so (is_ok c.append.result) c.append.new.items.items _ _ c.append.ensures.taken ok

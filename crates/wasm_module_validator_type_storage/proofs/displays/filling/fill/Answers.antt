use Rattle.std.proofs.Common.{rules, ◌≡◌, ◌∙◌, ◌*◌, ◌+◌, ◌<◌, ◌≤◌, ℕ, List, [], ◌∷◌, length, ap, sym, subst, refl, arith, true, false, Some, None}
use Rattle.std.specs.Prelude.{slice_get}
use Rattle.std.proofs.lemmas.List.{length-append}
use Rattle.wasm_module_validator_type_storage.proofs.Filling.{one_made}
use Rattle.wasm_module_validator_type_storage.proofs.displays.filling.fill.Goals as goal

pub types-init : goal.types-init
types-init c = (c.requires, λ further h. h, c.len-number.ensures)

pub next_display-display-requires-clause-right : goal.next_display-display-requires-clause-right
next_display-display-requires-clause-right c = c.types.invariant.0.right

pub next_display-display-requires-clause-own : goal.next_display-display-requires-clause-own
next_display-display-requires-clause-own c = omega (arith, c.new-own.ensures, c.types-test.true, c.len-number-end.ensures)

pub next_display-display-requires-clause-room : goal.next_display-display-requires-clause-room
next_display-display-requires-clause-room c =
    let room = c.types.invariant.0.entries_room in let at = c.types.invariant.2 in omega (arith, room, at, c.types-test.true, c.len-number-end.ensures)

pub next_display-display-requires-clause-short : goal.next_display-display-requires-clause-short
next_display-display-requires-clause-short c =
    let few = c.types.invariant.0.few in
    let entries = c.types.invariant.0.entries_few in
    let at = c.types.invariant.2 in
    omega (arith, few, entries, at, c.types-test.true, c.len-number-end.ensures)

pub push_in_room-requires-clause-room : goal.push_in_room-requires-clause-room
push_in_room-requires-clause-room c =
    let room = c.types.invariant.0.displays_room in let at = c.types.invariant.2 in omega (arith, room, at, c.types-test.true, c.len-number-end.ensures)

pub push_in_room-requires-clause-short : goal.push_in_room-requires-clause-short
push_in_room-requires-clause-short c =
    let few = c.types.invariant.0.few in let at = c.types.invariant.2 in omega (arith, few, at, c.types-test.true, c.len-number-end.ensures)

pub types-preserved : goal.types-preserved
types-preserved c =
    let at = c.types.invariant.2 in
    let more : length c.push_in_room.new.list.items ≡ length c.types.displays.items + 1 = ap length c.push_in_room.ensures.items ∙ length-append c.types.displays.items (c.next_display-display.result ∷ []) in
    let step = one_made c.args.supertypes.now.items c.types.entries c.next_display-display.new.entries c.types.displays c.push_in_room.new.list c.new-own.result c.next_display-display.result
    (omega (arith, at, c.new-own.ensures)) (omega (arith, c.new-own.ensures, c.types-test.true, c.len-number-end.ensures)) c.next_display-display.ensures.keeps
    c.next_display-display.ensures.has c.next_display-display.ensures.long c.next_display-display.ensures.room c.push_in_room.ensures.items c.push_in_room.ensures.room in
    (step 0 c.types.invariant.0, λ further h. step further (c.types.invariant.1 further h), omega (arith, at, more))

pub returns-clause-so_far : goal.returns-clause-so_far
returns-clause-so_far c = c.types.invariant.1

pub returns-clause-all : goal.returns-clause-all
returns-clause-all c =
    let some = c.types.invariant.0.some in let at = c.types.invariant.2 in omega (arith, some, at, c.types-test.false, c.len-number-end.ensures)

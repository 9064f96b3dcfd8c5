use Rattle.std.proofs.Common.{rules, ◌≡◌, ◌∙◌, ◌*◌, ◌+◌, ◌<◌, ◌≤◌, ℕ, List, [], ◌∷◌, length, ap, sym, subst, refl, arith, true, false, Some, None}
use Rattle.std.specs.Prelude.{slice_get}
use Rattle.std.proofs.lemmas.List.{length-append}
use Rattle.wasm_module_validator_type_storage.proofs.Ancestors.{copied_none, copied_one, copied_all, kept}
use Rattle.wasm_module_validator_type_storage.specs.displays.Entries.{IsExtended}
use Rattle.wasm_module_validator_type_storage.proofs.displays.filling.extended.Goals as goal

pub loop-j-init : goal.loop-j-init
loop-j-init c = (copied_none c.args.entries.now.items c.args.start c.len-end.result (sym c.len-end.ensures), omega arith, omega arith)

pub index-entry-requires : goal.index-entry-requires
index-entry-requires c =
    let long = c.loop-j.invariant.0.long in
    let there = c.requires.there (omega (arith, c.loop-j-test.true)) in
    omega (arith, long, there, c.loop-j-test.true, c.len-end.ensures)

pub push_in_room-requires-in-loop-j-clause-room : goal.push_in_room-requires-in-loop-j-clause-room
push_in_room-requires-in-loop-j-clause-room c = let r = c.loop-j.invariant.1 in omega (arith, r, c.requires.room, c.loop-j-test.true)

pub push_in_room-requires-in-loop-j-clause-short : goal.push_in_room-requires-in-loop-j-clause-short
push_in_room-requires-in-loop-j-clause-short c =
    let long = c.loop-j.invariant.0.long in omega (arith, long, c.len-end.ensures, c.requires.short, c.loop-j-test.true)

pub loop-j-preserved : goal.loop-j-preserved
loop-j-preserved c =
    let r = c.loop-j.invariant.1 in (
      copied_one c.args.entries.now.items c.loop-j.entries.items c.push_in_room-in-loop-j.new.list.items c.args.start c.len-end.result c.loop-j.j c.loop-j.invariant.0
          c.index-entry.result.now c.push_in_room-in-loop-j.ensures.items c.index-entry.ensures,
      omega (arith, r, c.push_in_room-in-loop-j.ensures.room),
      omega (arith, c.loop-j-test.true),
    )

pub push_in_room-requires-2-clause-room : goal.push_in_room-requires-2-clause-room
push_in_room-requires-2-clause-room c = let r = c.loop-j.invariant.1 in let s = c.loop-j.invariant.2 in omega (arith, r, s, c.requires.room)

pub push_in_room-requires-2-clause-short : goal.push_in_room-requires-2-clause-short
push_in_room-requires-2-clause-short c =
    let long = c.loop-j.invariant.0.long in let s = c.loop-j.invariant.2 in omega (arith, long, s, c.len-end.ensures, c.requires.short)

pub returns-clause-keeps : goal.returns-clause-keeps
returns-clause-keeps c = λ i x h. kept c.loop-j.entries.items c.push_in_room-2.new.list.items (c.args.last ∷ []) c.push_in_room-2.ensures.items i x (c.loop-j.invariant.0.keeps i x h)

pub returns-clause-extended : goal.returns-clause-extended
returns-clause-extended c =
    let s = c.loop-j.invariant.2 in
    let same : c.loop-j.j ≡ c.args.count = omega (arith, s, c.loop-j-test.false) in
    subst (λ (n : ℕ). IsExtended c.args.entries.now.items c.push_in_room-2.new.list.items c.args.start n c.args.last c.len-end.result) same
    (copied_all c.args.entries.now.items c.loop-j.entries.items c.push_in_room-2.new.list.items c.args.start c.len-end.result c.loop-j.j c.loop-j.invariant.0 c.args.last c.push_in_room-2.ensures.items)

pub returns-clause-long : goal.returns-clause-long
returns-clause-long c =
    let long = c.loop-j.invariant.0.long in
    let s = c.loop-j.invariant.2 in
    let more : length c.push_in_room-2.new.list.items ≡ length c.loop-j.entries.items + 1 = ap length c.push_in_room-2.ensures.items ∙ length-append c.loop-j.entries.items (c.args.last ∷ []) in
    omega (arith, long, s, more, c.len-end.ensures)

pub returns-clause-room : goal.returns-clause-room
returns-clause-room c = let r = c.loop-j.invariant.1 in let s = c.loop-j.invariant.2 in omega (arith, r, s, c.push_in_room-2.ensures.room)

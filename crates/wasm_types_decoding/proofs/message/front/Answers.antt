use Rattle.std.proofs.Common.{rules}
-- The text as it is, or its front.
use Rattle.std.proofs.Common.{ℕ, sym, ap, take, ◌∙◌, arith}
use Rattle.wasm_types_decoding.proofs.Cut.{cut_fits, cut_cuts}
use Rattle.wasm_types_decoding.proofs.message.front.Goals as goal

pub returns-then-text-room-clause-value : goal.returns-then-text-room-clause-value
returns-then-text-room-clause-value c = sym (cut_fits c.args.room c.args.text.now c.if-text-room.true)

pub returns-clause-value : goal.returns-clause-value
returns-clause-value c =
    let last = c.floor_char_boundary.ensures in
    c.range.ensures.value ∙ ap (λ (n : ℕ). take n c.args.text.now) (omega arith) ∙ sym
    (cut_cuts c.args.room c.args.text.now c.floor_char_boundary.result c.if-text-room.false (last.bound, last.boundary, last.nearest))

pub range-requires-clause-end_boundary : goal.range-requires-clause-end_boundary
range-requires-clause-end_boundary c = search rules

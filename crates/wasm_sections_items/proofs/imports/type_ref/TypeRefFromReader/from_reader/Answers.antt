-- The parts that are read, one after the other.
use Rattle.wasm_types.specs.Laws.{reaches_then}
use Rattle.std.proofs.Common.{refl}
use Rattle.wasm_sections_items.specs.imports.Decode.{type_ref}
use Rattle.wasm_sections_items.proofs.imports.type_ref.TypeRefFromReader.from_reader.Goals as goal

pub returns-in_ok-index-in-Func-clause-forward : goal.returns-in_ok-index-in-Func-clause-forward
returns-in_ok-index-in-Func-clause-forward c =
    reaches_then _ _ _ c.in_ok-kind.ensures.forward c.in_ok-index-in-Func.ensures.forward

pub returns-in_ok-ty-in-Table-clause-answer : goal.returns-in_ok-ty-in-Table-clause-answer
unfolding type_ref
returns-in_ok-ty-in-Table-clause-answer c =
    rw (c.in_ok-kind.ensures.answer, c.in-Table.is, c.in_ok-ty-in-Table.ensures.answer) refl

pub returns-in_ok-ty-in-Table-clause-forward : goal.returns-in_ok-ty-in-Table-clause-forward
returns-in_ok-ty-in-Table-clause-forward c =
    reaches_then _ _ _ c.in_ok-kind.ensures.forward c.in_ok-ty-in-Table.ensures.forward

pub returns-in_ok-ty-in-Memory-clause-answer : goal.returns-in_ok-ty-in-Memory-clause-answer
unfolding type_ref
returns-in_ok-ty-in-Memory-clause-answer c =
    rw (c.in_ok-kind.ensures.answer, c.in-Memory.is, c.in_ok-ty-in-Memory.ensures.answer) refl

pub returns-in_ok-ty-in-Memory-clause-forward : goal.returns-in_ok-ty-in-Memory-clause-forward
returns-in_ok-ty-in-Memory-clause-forward c =
    reaches_then _ _ _ c.in_ok-kind.ensures.forward c.in_ok-ty-in-Memory.ensures.forward

pub returns-in_ok-ty-in-Global-clause-answer : goal.returns-in_ok-ty-in-Global-clause-answer
unfolding type_ref
returns-in_ok-ty-in-Global-clause-answer c =
    rw (c.in_ok-kind.ensures.answer, c.in-Global.is, c.in_ok-ty-in-Global.ensures.answer) refl

pub returns-in_ok-ty-in-Global-clause-forward : goal.returns-in_ok-ty-in-Global-clause-forward
returns-in_ok-ty-in-Global-clause-forward c =
    reaches_then _ _ _ c.in_ok-kind.ensures.forward c.in_ok-ty-in-Global.ensures.forward

pub returns-in_ok-ty-in-Tag-clause-answer : goal.returns-in_ok-ty-in-Tag-clause-answer
unfolding type_ref
returns-in_ok-ty-in-Tag-clause-answer c =
    rw (c.in_ok-kind.ensures.answer, c.in-Tag.is, c.in_ok-ty-in-Tag.ensures.answer) refl

pub returns-in_ok-ty-in-Tag-clause-forward : goal.returns-in_ok-ty-in-Tag-clause-forward
returns-in_ok-ty-in-Tag-clause-forward c =
    reaches_then _ _ _ c.in_ok-kind.ensures.forward c.in_ok-ty-in-Tag.ensures.forward

pub returns-in_ok-index-in-FuncExact-clause-answer : goal.returns-in_ok-index-in-FuncExact-clause-answer
unfolding type_ref
returns-in_ok-index-in-FuncExact-clause-answer c =
    rw (c.in_ok-kind.ensures.answer, c.in-FuncExact.is, c.in_ok-index-in-FuncExact.ensures.answer) refl

pub returns-in_ok-index-in-FuncExact-clause-forward : goal.returns-in_ok-index-in-FuncExact-clause-forward
returns-in_ok-index-in-FuncExact-clause-forward c =
    reaches_then _ _ _ c.in_ok-kind.ensures.forward c.in_ok-index-in-FuncExact.ensures.forward

-- A custom section's bytes are there.
use Rattle.std.proofs.Common.{arith, true, ◌-◌, length, drop}
use Rattle.std.proofs.lemmas.List.{length-take, length-drop}
use Rattle.wasm_sections_parser.specs.declared.frame.Frame.TheVariants.{Custom}
use Rattle.wasm_sections_parser.specs.runs.calls.Advance.{parsed_within}
use Rattle.wasm_sections.proofs.walk.next_custom.Goals as goal

pub slice_bounds-result-count : goal.slice_bounds-result-count
slice_bounds-result-count c =
    (parsed_within c.args.parser.now c.args.bytes.now true c.in-Some.consumed (Custom c.in-Some.section) c.next_custom.new.self (c.in-Some.ensures.section true)).0

pub slice_bounds-result-start : goal.slice_bounds-result-start
slice_bounds-result-start c =
    (parsed_within c.args.parser.now c.args.bytes.now true c.in-Some.consumed (Custom c.in-Some.section) c.next_custom.new.self (c.in-Some.ensures.section true)).0

pub returns-clause-fits : goal.returns-clause-fits
returns-clause-fits c =
    let h = parsed_within c.args.parser.now c.args.bytes.now true c.in-Some.consumed (Custom c.in-Some.section) c.next_custom.new.self (c.in-Some.ensures.section true) in
    omega (arith, h.0, h.2, length-take (length c.args.bytes.now - c.in-Some.consumed) (drop c.in-Some.consumed c.args.bytes.now), length-drop c.in-Some.consumed c.args.bytes.now)

use Rattle.wasm_sections_parser.proofs.needs.+least_within.Given as goal

abbrev pub decreases-least_within : goal.decreases-least_within
decreases-least_within l = l.left

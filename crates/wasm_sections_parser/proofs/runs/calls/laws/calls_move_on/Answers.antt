-- By the laws of single calls.
use Rattle.wasm_sections_parser.specs.runs.calls.Advance.{parsed_within, parsed_is_over, refused_stays}
use Rattle.wasm_sections_parser.proofs.runs.calls.laws.calls_move_on.Goals as goal

pub returns-clause-within : goal.returns-clause-within
returns-clause-within c = parsed_within

pub returns-clause-over : goal.returns-clause-over
returns-clause-over c = parsed_is_over

pub returns-clause-refused : goal.returns-clause-refused
returns-clause-refused c = refused_stays

-- Which calls of a validator come in turn, and what it is in after them.
use Rattle.std.specs.Prelude.{Bool, true, false}
use Rattle.wasm_module_validator_checks.specs.declared.sections.state.State.{State}
use Rattle.wasm_module_validator_checks.specs.declared.sections.state.State.TheVariants as state
use Rattle.wasm_module_validator_checks.specs.declared.sections.state.Call.{Call}
use Rattle.wasm_module_validator_checks.specs.declared.sections.state.Call.TheVariants as call

-- A header comes first. Then sections come in any order, and behind the start of the code section its entries alone, the start
-- section and the data section. The end comes behind a header.
abbrev pub is_in_turn : State → Call → Bool
is_in_turn state.Unparsed call.Header = true
is_in_turn state.Module call.Section = true
is_in_turn state.Module call.CodeStart = true
is_in_turn state.Module call.StartOrData = true
is_in_turn state.Module call.End = true
is_in_turn state.Code call.Entry = true
is_in_turn state.Code call.StartOrData = true
is_in_turn state.Code call.End = true
is_in_turn s c = false

-- where a call in turn leads
abbrev pub after : State → Call → State
after s call.Header = state.Module
after s call.CodeStart = state.Code
after s call.End = state.End
after s call.Section = s
after s call.Entry = s
after s call.StartOrData = s

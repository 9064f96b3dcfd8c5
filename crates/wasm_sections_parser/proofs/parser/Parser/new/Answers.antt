use Rattle.std.proofs.Common.{sym, subst}
use Rattle.wasm_types.specs.settings.Limits.{IsWithinCeilings}
use Rattle.wasm_types.specs.settings.LimitsRowLaws.{default_within}
use Rattle.wasm_sections_parser.proofs.parser.Parser.new.Goals as goal

pub invariant_of-result : goal.invariant_of-result
invariant_of-result c = subst IsWithinCeilings (sym c.default-2.ensures) default_within

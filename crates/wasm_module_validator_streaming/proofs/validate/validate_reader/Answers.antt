-- The default limits are those of the contract, and within their ceilings.
use Rattle.std.proofs.Common.{sym, subst}
use Rattle.wasm_types.specs.settings.Limits.{IsWithinCeilings}
use Rattle.wasm_types.specs.settings.LimitsRowLaws.{default_within}
use Rattle.wasm_types.specs.settings.declared.Limits.{Limits}
use Rattle.wasm_module_validator_streaming.specs.Verdicts.{AnswersReader, StopsReader}
use Rattle.wasm_module_validator_streaming.proofs.validate.validate_reader.Goals as goal

pub validate_reader_limited-requires-clause-within : goal.validate_reader_limited-requires-clause-within
validate_reader_limited-requires-clause-within g c = subst IsWithinCeilings (sym c.default.ensures) default_within

pub returns-clause-answer : goal.returns-clause-answer
returns-clause-answer g c =
    subst (λ (l : Limits). AnswersReader (record { features = c.args.features.0; limits = l }) c.args.id c.args.max_bytes (g.R.Read.remaining c.args.reader.now.reader)
    (g.R.Read.remaining c.validate_reader_limited.new.reader.reader) c.validate_reader_limited.result) c.default.ensures c.validate_reader_limited.ensures.answer

pub returns-clause-stops : goal.returns-clause-stops
returns-clause-stops g c =
    subst (λ (l : Limits). StopsReader (record { features = c.args.features.0; limits = l }) c.args.max_bytes c.args.piece (g.R.Read.remaining c.args.reader.now.reader)
    (g.R.Read.remaining c.validate_reader_limited.new.reader.reader) c.validate_reader_limited.result) c.default.ensures c.validate_reader_limited.ensures.stops

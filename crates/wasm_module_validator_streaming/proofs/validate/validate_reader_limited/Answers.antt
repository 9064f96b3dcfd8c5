-- By the laws of the first and the last step.
use Rattle.wasm_module_validator_streaming.proofs.Stepping.{begins_there, waits_first, answers_reader, stops_reader}
use Rattle.wasm_module_validator_streaming.proofs.validate.validate_reader_limited.Goals as goal

pub take_reader-requires-clause-begins : goal.take_reader-requires-clause-begins
take_reader-requires-clause-begins g c =
    begins_there (record { features = c.args.features.0; limits = c.args.limits }) c.new-judging.result c.requires.within c.new-judging.ensures.state c.new-judging.ensures.settings
    c.new-judging.ensures.empty c.new-judging.ensures.parser c.new-judging.ensures.judge c.new-judging.ensures.idle

pub take_reader-requires-clause-waits : goal.take_reader-requires-clause-waits
take_reader-requires-clause-waits g c = waits_first (record { features = c.args.features.0; limits = c.args.limits }) c.new-judging.result c.new-judging.ensures.parser c.new-judging.ensures.idle

pub returns-clause-answer : goal.returns-clause-answer
returns-clause-answer g c =
    answers_reader (record { features = c.args.features.0; limits = c.args.limits }) c.args.id c.new-judging.result c.new-judging.ensures.settings c.new-judging.ensures.id c.args.max_bytes
    (g.R.Read.remaining c.args.reader.now.reader) (g.R.Read.remaining c.take_reader.new.reader.reader) c.take_reader.result c.take_reader.ensures.answer

pub returns-clause-stops : goal.returns-clause-stops
returns-clause-stops g c =
    stops_reader (record { features = c.args.features.0; limits = c.args.limits }) c.new-judging.result c.new-judging.ensures.settings c.args.max_bytes c.args.piece
    (g.R.Read.remaining c.args.reader.now.reader) (g.R.Read.remaining c.take_reader.new.reader.reader) c.take_reader.result c.take_reader.ensures.stops

use Rattle.wasm_operators_reader.specs.walks.InFrameLaws.{reads_in_frame, refuses_in_frame}
use Rattle.wasm_operators_reader.proofs.walks.laws.the_innermost_frame_decides.Goals as goal

pub returns-clause-reads : goal.returns-clause-reads
returns-clause-reads c = reads_in_frame

pub returns-clause-refuses : goal.returns-clause-refuses
returns-clause-refuses c = refuses_in_frame

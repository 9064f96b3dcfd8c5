-- After a refusal the reader is where it was.
use Rattle.std.proofs.Common.{◌∙◌, sym, subst}
use Rattle.wasm_types_decoding.specs.Decoder.{Reaches}
use Rattle.wasm_types_decoding.specs.Laws.{reaches_self}
use Rattle.wasm_types_reader.proofs.binary_reader.BinaryReader.read.Goals as goal

pub returns-in-Err-clause-forward : goal.returns-in-Err-clause-forward
returns-in-Err-clause-forward g c = subst (Reaches c.args.self.now) (sym (c.return_to.ensures ∙ c.clone-start.ensures)) (reaches_self c.args.self.now)

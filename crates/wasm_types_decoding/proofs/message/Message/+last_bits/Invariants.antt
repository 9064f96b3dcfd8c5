use Rattle.wasm_types_decoding.proofs.message.Message.+last_bits.Given as goal

abbrev pub decreases-last_bits : goal.decreases-last_bits
decreases-last_bits l = l.count

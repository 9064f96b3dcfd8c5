use Rattle.wasm_types_decoding.proofs.message.Message.+last_of_hex.Given as goal

abbrev pub decreases-last_of_hex : goal.decreases-last_of_hex
decreases-last_of_hex l = l.most

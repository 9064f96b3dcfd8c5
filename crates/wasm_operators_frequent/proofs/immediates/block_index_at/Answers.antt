use Rattle.std.proofs.Common.{rules, ◌≡◌, to_z, of_z, w64, sym, ◌∙◌}
use Rattle.wasm_operators_frequent.proofs.Carried.{index_there}
use Rattle.wasm_operators_frequent.proofs.immediates.block_index_at.Goals as goal

pub returns : goal.returns
returns c =
    let held : to_z w64 (of_z w64 c.in-Some.index) ≡ c.in-Some.index = search rules in
    let begins = sym c.begins_index.ensures ∙ c.if-not-begins_index.false in
    rw held (index_there c.args.bytes.now c.args.at c.requires begins c.in-Some.index c.in-Some.end
    (rw held at c.if-index-lt0.false) (rw held at c.if-index-ge4294967296.false) c.in-Some.ensures.found)

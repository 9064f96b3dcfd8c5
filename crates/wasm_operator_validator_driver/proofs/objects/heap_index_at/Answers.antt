use Rattle.std.proofs.Common.{rules, ◌≡◌, to_z, of_z, w64}
use Rattle.wasm_operator_validator_driver.proofs.Carried.{concrete_there}
use Rattle.wasm_operator_validator_driver.proofs.objects.heap_index_at.Goals as goal

pub returns : goal.returns
returns c =
    let held : to_z w64 (of_z w64 c.in-Some.index) ≡ c.in-Some.index = search rules in
    rw held (concrete_there c.args.bytes.now c.args.at c.requires.inside c.requires.begins c.in-Some.index c.in-Some.end
    (rw held at c.if-index-lt0.false) (rw held at c.if-index-ge1048576.false) c.in-Some.ensures.found)

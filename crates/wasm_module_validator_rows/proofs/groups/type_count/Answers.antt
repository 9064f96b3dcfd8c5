use Rattle.std.proofs.Common.{◌≡◌, ◌<◌, ◌≤◌, true, false, is_some, arith}
use Rattle.wasm_module_validator_type_storage.specs.trees.Groups.{count}
use Rattle.wasm_module_validator_rows.proofs.Counting.{some_known, none_known}
use Rattle.wasm_module_validator_rows.proofs.groups.type_count.Goals as goal

pub loop-low-preserved-then-is_some : goal.loop-low-preserved-then-is_some
loop-low-preserved-then-is_some c =
    let yes : is_some c.get.result ≡ true = cc in
    let known : c.new.result.0 < count c.args.types.now.groups = some_known _ _ _ c.get.result c.get.ensures yes in
    let fits = c.loop-low.auto.high-fits in
    (omega (arith, c.new.ensures), c.loop-low.invariant.1)

pub loop-low-preserved : goal.loop-low-preserved
loop-low-preserved c =
    let no : is_some c.get.result ≡ false = cc in
    let known : count c.args.types.now.groups ≤ c.new.result.0 = none_known _ _ _ c.get.result c.get.ensures no in
    (c.loop-low.invariant.0, omega (arith, c.new.ensures))

use Rattle.std.proofs.Common.{◌∙◌, ◌++◌, ap, sym}
use Rattle.wasm_operators_reader.specs.StandingLaws.{reads_fewer}
use Rattle.wasm_module_validator_resources.specs.referring.NamingLaws.{named_more}
use Rattle.wasm_module_validator_resources.proofs.referring.naming.name_all.Goals as goal

pub loop-operators-smaller : goal.loop-operators-smaller
loop-operators-smaller c = reads_fewer c.loop-operators.operators c.in-Ok.ensures.read.0 c.read_reference.new.operators c.in-Ok.ensures.read.1

pub loop-operators-preserved : goal.loop-operators-preserved
loop-operators-preserved c =
    named_more c.args.operators.now c.loop-operators.operators c.read_reference.new.operators c.args.names.now.items c.loop-operators.names.items c.name_found.new.names.items
    c.in-Ok.ensures.read.0 c.loop-operators.invariant c.in-Ok.ensures.read.1
    (c.in-Ok-name_found.ensures.named ∙ ap (λ xs. c.loop-operators.names.items ++ xs) (sym c.in-Ok.ensures.read.2))

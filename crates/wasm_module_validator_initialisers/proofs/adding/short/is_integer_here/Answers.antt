use Rattle.std.proofs.Common.{rules, ◌≡◌, ◌∙◌, Bool, ap, subst}
use Rattle.wasm_types.specs.settings.Features.{Gc, has}
use Rattle.wasm_operator_validator_state.specs.resources.Meaning.{Meaning}
use Rattle.wasm_module_validator_resources.specs.referring.Referring.{meaning_with_all}
use Rattle.wasm_module_validator_state.specs.invariant.Standing.{constants_of}
use Rattle.wasm_module_validator_initialisers.specs.adding.Short.{IsInteger}
use Rattle.wasm_module_validator_initialisers.proofs.adding.short.is_integer_here.Goals as goal

pub returns : goal.returns
returns c h =
    let m = c.new.ensures ∙ ap meaning_with_all c.resources-module.ensures in
    let gc : c.gc-gc.result ≡ has Gc c.args.state.now.spaces.settings.features = search rules in
    subst (λ (b : Bool). IsInteger b (constants_of c.args.types.now.groups c.args.state.now.spaces).«module» c.args.wide c.args.constant) gc
    (subst (λ (n : Meaning). IsInteger c.gc-gc.result n.«module» c.args.wide c.args.constant) m (c.is_integer.ensures h))

use Rattle.std.proofs.Common.{rules, ◌≡◌, ◌∙◌, ap, sym, true, Some}
use Rattle.std.specs.Prelude.{slice_get}
use Rattle.wasm_module_validator_type_list.specs.Uniform.{like}
use Rattle.wasm_module_validator_type_list.proofs.uniform.is_uniform.Goals as goal

pub returns : goal.returns
returns c = λ t.
    let declared : slice_get c.args.supertypes.now.items c.args.own ≡ Some (Some c.in-Some-declared.above) = search rules in
    let own : slice_get c.args.types.now.items c.args.own ≡ Some c.in-Some-get.ty.now = search rules in
    let upper : slice_get c.args.types.now.items c.number.result ≡ Some c.in-Some-get-2.upper.now = search rules in
    let flag : slice_get c.args.flags.now.items c.number-2.result ≡ Some c.in-Some-get-3.flag.now = search rules in
    like c.in-Some-declared.above c.in-Some-get.ty.now c.in-Some-get-2.upper.now declared own
    (ap (λ k. slice_get c.args.types.now.items k) (sym c.number.ensures) ∙ upper)
    (ap (λ k. slice_get c.args.flags.now.items k) (sym c.number-2.ensures) ∙ flag ∙ ap (λ b. Some b) c.if-not-flag.false)
    (c.are_alike.ensures t)

use Rattle.std.proofs.Common.{◌∙◌, Bool, sym, subst}
use Rattle.wasm_sections.specs.declared.payload.Payload.TheVariants as payloads
use Rattle.wasm_module_validator.specs.Methods.{TakesWhere}
use Rattle.wasm_module_validator.proofs.Turns.{not_begun}
use Rattle.wasm_module_validator.proofs.validator.Validator.data_section.Goals as goal

pub returns : goal.returns
returns c =
    let v = c.args.self.now in
    subst (λ (fits : Bool). TakesWhere fits (payloads.DataSection c.args.section) v c.take.result c.take.new.self)
    (not_begun v.reached.code (sym c.has_code.ensures ∙ c.if-has_code.false)) c.take.ensures

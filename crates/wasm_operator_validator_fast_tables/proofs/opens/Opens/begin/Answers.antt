use Rattle.std.proofs.Common.{refl, ap, ◌∙◌, ◌∷◌, List}
use Rattle.wasm_operator_validator_fast_tables.specs.declared.tables.Open.{Open}
use Rattle.wasm_operator_validator_fast_tables.specs.Nested.{nested}
use Rattle.wasm_operator_validator_fast_tables.proofs.opens.Opens.begin.Goals as goal

pub returns : goal.returns
returns c = ap nested (c.if-not-push.ensures.put refl ∙ ap (λ (xs : List Open). c.args.frame ∷ xs) (c.if-not-begin.ensures refl))

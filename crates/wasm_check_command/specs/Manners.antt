-- How verdicts are written.
use Rattle.std.specs.Prelude.{Bool, false}
use Rattle.wasm_check_lines.specs.declared.forms.Form.{Form}
use Rattle.wasm_check_lines.specs.declared.forms.Form.TheVariants.{Lines}

-- How verdicts are written: in this form, and each refusal with an explanation or without; and whether it is told which features a valid file needs.
pub record Manner : Type 0 where
  pub form : Form
  pub explains : Bool
  pub needs : Bool

-- lines for people, without explanations, of verdicts alone
abbrev pub plain : Manner
plain = record { form = Lines; explains = false; needs = false }

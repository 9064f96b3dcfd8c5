use Rattle.std.proofs.Common.{false, codes, string_bytes}
use Rattle.std.specs.Prelude.{option_map}
use Rattle.std.specs.Fmt.{digits}
use Rattle.wasm_check_lines.specs.Shown.{shown}
use Rattle.wasm_check_lines.specs.Hints.{hint_for}
use Rattle.wasm_check_lines.specs.Forms.{lines_below}
use Rattle.wasm_check_lines.proofs.FormLemmas.{text_of_7}
use Rattle.wasm_check_lines.proofs.forms.refusal_lines.Goals as goal

pub returns : goal.returns
returns c = text_of_7 string_bytes c.format.result (shown c.args.name.now) (codes ": invalid at 0x") (digits 16 false c.args.offset) (codes ": ") (shown c.args.message.now)
    (codes "\n") (lines_below c.args.below.explains (hint_for c.args.below.limits c.args.below.cause c.args.below.front.now) (option_map (λ x. x.now) c.args.below.explanation)) (rw c.in_radix.ensures at c.format.ensures.ok)

use Rattle.std.proofs.Common.{codes, string_bytes}
use Rattle.std.specs.Prelude.{option_map}
use Rattle.std.specs.Fmt.{decimal}
use Rattle.wasm_check_lines.specs.Json.{json_text}
use Rattle.wasm_check_lines.specs.Forms.{kind_word, help_members}
use Rattle.wasm_check_lines.proofs.FormLemmas.{text_of_11}
use Rattle.wasm_check_lines.proofs.forms.refusal_object.Goals as goal

pub returns : goal.returns
returns c = text_of_11 string_bytes c.format.result (codes "{\"file\":\"") (json_text c.args.name.now) (codes "\",\"valid\":false,\"offset\":") (decimal c.args.offset) (codes ",\"kind\":\"")
    (kind_word c.args.kind.cause c.args.kind.kind) (codes "\",\"message\":\"") (json_text c.args.message.now) (codes "\"")
    (help_members c.args.members.limits c.args.members.cause c.args.members.front.now (option_map (λ x. x.now) c.args.members.explanation)) (codes "}\n") c.format.ensures.ok

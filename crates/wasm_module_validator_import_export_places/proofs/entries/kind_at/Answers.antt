use Rattle.std.proofs.Common.{◌≡◌, ◌-◌, ◌∙◌, ℕ, ap, subst, sym, length, drop, arith, length-drop}
use Rattle.std.proofs.lemmas.List.{take_all}
use Rattle.wasm_sections_items.specs.imports.Decode.{external_kind}
use Rattle.wasm_sections_items.specs.imports.DecodeLaws.{decides-external_kind}
use Rattle.wasm_sections_items.specs.imports.Spells.{SpelledKind}
use Rattle.wasm_module_validator_import_export_places.specs.Entries.{kind_number}
use Rattle.wasm_module_validator_import_export_places.proofs.Standing.{value_read, value_refused, ends_at}
use Rattle.wasm_module_validator_import_export_places.proofs.entries.kind_at.Goals as goal

pub returns-in-Ok-clause-found : goal.returns-in-Ok-clause-found
returns-in-Ok-clause-found c z a front rest h e =
    let text = c.args.bytes.now in
    let l = length-drop c.args.at text in
    let all = take_all (length text - c.args.at) (drop c.args.at text) (omega (arith, l)) in
    let k = value_read external_kind SpelledKind decides-external_kind c.new-reader.result c.from_reader.new.reader c.in-Ok.kind a front rest h.0 (c.new-reader.ensures.rest ∙ all ∙ e) c.in-Ok.ensures.answer in
    let n : length rest ≡ c.bytes_remaining.result = sym (c.bytes_remaining.ensures ∙ ap length k.1) in
    (c.number_of.ensures ∙ ap kind_number k.0, subst (λ (m : ℕ). drop (length text - m) text ≡ rest) n (ends_at text c.args.at front rest c.requires e))

pub returns-in-Err-clause-found : goal.returns-in-Err-clause-found
returns-in-Err-clause-found c z a front rest h e =
    let text = c.args.bytes.now in
    let l = length-drop c.args.at text in
    let all = take_all (length text - c.args.at) (drop c.args.at text) (omega (arith, l)) in
    value_refused external_kind SpelledKind decides-external_kind c.new-reader.result c.in-Err._error a front rest h.0 (c.new-reader.ensures.rest ∙ all ∙ e) c.in-Err.ensures.answer c.in-Err.ensures.no_memory

use Rattle.std.proofs.Common.{◌≡◌, ◌∙◌, ap, sym, subst, All, false, [], map, string_bytes, arith}
use Rattle.std.proofs.lemmas.List.{length-map, get_or-map, take_all}
use Rattle.std.proofs.lemmas.List.Elements.{All-more}
use Rattle.wasm_check_command.specs.Opened.{names_stdin}
use Rattle.wasm_check_command.proofs.listing.are_files.Goals as goal

pub loop-place-preserved : goal.loop-place-preserved
loop-place-preserved c =
    All-more (λ n. names_stdin n ≡ false) (map string_bytes c.args.names.now) c.loop-place.place []
    (omega (arith, c.loop-place-test.true, length-map c.args.names.now string_bytes)) c.loop-place.invariant
    (ap names_stdin (get_or-map string_bytes c.args.names.now c.loop-place.place c.index-names-place.result [] c.loop-place-test.true
    ∙ ap string_bytes (sym c.index-names-place.is) ∙ sym c.as_str.ensures.value)
    ∙ sym c.is_stdin.ensures ∙ c.if-is_stdin.false)

pub returns : goal.returns
returns c = λ _. subst (All (λ n. names_stdin n ≡ false))
    (take_all c.loop-place.place (map string_bytes c.args.names.now) (omega (arith, c.loop-place-test.false, length-map c.args.names.now string_bytes)))
    c.loop-place.invariant

use Rattle.std.proofs.Common.{◌≡◌, ◌∙◌, ℕ, List, false, true, ap, sym, take, get_or, bytes_eq, codes, rules}
use Rattle.std.proofs.lemmas.List.{take_rest}
use Rattle.wasm_check_lines.specs.Hints.{is_space}
use Rattle.wasm_check_lines.proofs.HintLemmas.{text_decides, space_goes_on, nothing_decides}
use Rattle.wasm_check_lines.proofs.hints.is_text.Goals as goal

pub returns-then-not-is_space : goal.returns-then-not-is_space
returns-then-not-is_space c =
    let plain : is_space (get_or c.args.front.now c.loop-i.i 0) ≡ false = search rules in
    c.begins_module.ensures ∙ ap (λ (bs : List ℕ). bytes_eq (take 7 bs) (codes "(module")) (take_rest c.args.front.now c.loop-i.i) ∙ sym (c.loop-i.invariant ∙ text_decides c.args.front.now c.loop-i.i 0 (search rules) plain)

pub loop-i-preserved : goal.loop-i-preserved
loop-i-preserved c =
    let space : is_space (get_or c.args.front.now c.loop-i.i 0) ≡ true = search rules in
    c.loop-i.invariant ∙ space_goes_on c.args.front.now c.loop-i.i 0 (search rules) space

pub returns : goal.returns
returns c = sym (c.loop-i.invariant ∙ nothing_decides c.args.front.now c.loop-i.i (search rules))

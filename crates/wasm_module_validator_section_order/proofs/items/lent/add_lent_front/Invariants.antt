use Rattle.std.proofs.Common.{◌≡◌, ◌≤◌, ◌-◌, ℕ, length}
use Rattle.wasm_types.specs.settings.Settings.{Settings}
use Rattle.wasm_types.specs.decoding.Decoder.{State}
use Rattle.wasm_module_validator_section_order.specs.items.AddingLaws.{Stands, behind}
use Rattle.wasm_sections_items.specs.limited.Walking.{Walk}
use Rattle.wasm_module_validator_section_order.proofs.items.lent.add_lent_front.Given as goal

-- as many items were passed as there were turns, and the state stands behind them
abbrev pub invariant-loop-passed : goal.invariant-loop-passed
invariant-loop-passed g l =
    let i = g.T.FromReader in
    let a = g.S.AddLent in
    (l.at ≤ length l.fn.bytes)
    × ((z : Settings) (n : ℕ) (b : State) (s : g.row.S.Denot) (w : Walk) → z.limits ≡ l.fn.limits → w.reader.rest ≡ l.fn.bytes → w.left ≡ l.fn.most
    → Stands i.view a.of i.decoder i.grammar a.adds z a.reads n b s w l.fn.state
    → Stands i.view a.of i.decoder i.grammar a.adds z a.reads n b s (behind w l.at (l.fn.most - l.passed)) l.state)
    × a.grows l.fn.state l.state

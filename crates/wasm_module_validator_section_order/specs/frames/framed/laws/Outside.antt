-- Bytes are a module that is valid outside its bodies exactly if their frames are judged one after the other.
use Rattle.std.proofs.Common.{◌≡◌, ◌≤◌, ℕ, List, [], length, refl, sym, subst, arith}
use Rattle.std.specs.Prelude.{◌↔◌}
use Rattle.wasm_sections_parser.specs.Steps.{Shape}
use Rattle.wasm_sections_parser.specs.runs.Modules.{IsModule}
use Rattle.wasm_types.specs.settings.Settings.{Settings}
use Rattle.wasm_module_validator_rules_in_order.specs.rules.Syntax.{ModuleTree}
use Rattle.wasm_module_validator_rules_in_order.specs.rules.Accepts.{AreEntries, IsValidOutsideBodies}
use Rattle.wasm_module_validator_rules_in_order.specs.contexts.laws.InOrder.{valid_in_order_with, valid_by_order_with}
use Rattle.wasm_module_validator_rules_in_order.specs.Steps.{SoFar, IsJudged, nothing, JudgesShapes}
use Rattle.wasm_module_validator_rules_in_order.specs.laws.Judged.{judged_in_order_with, nothing_is_judged, shapes_keep}
use Rattle.wasm_module_validator_section_order.specs.frames.framed.laws.Accepted.{bodies_of_functions}
use Rattle.wasm_module_validator_section_order.specs.frames.framed.laws.Complete.{module_comes_with}
use Rattle.wasm_module_validator_section_order.specs.frames.framed.laws.Sound.{judged_is_spelled_with}

module _ (z : Settings) (text : List ℕ) where
  outside_by : (xs : List Shape) (q : SoFar) → IsModule z text xs → JudgesShapes z nothing xs q → IsValidOutsideBodies z text
  outside_by xs q m j =
      let known : IsJudged z q = shapes_keep z xs nothing q (nothing_is_judged z) j in
      let n : ModuleTree = record q.tree { code = [] } in
      let entries : AreEntries z n q.bodies = (bodies_of_functions z text xs q m j, known.bodies) in (
        n,
        record {
          spelled = judged_is_spelled_with (AreEntries z n) z text xs q [] m j entries;
          valid = valid_by_order_with z n (judged_in_order_with (Unit {0}) z q [] known tt);
          code = refl;
        },
      )

  outside_comes : IsValidOutsideBodies z text → (q : SoFar) × (xs : List Shape) × IsModule z text xs × JudgesShapes z nothing xs q
  outside_comes a =
      let m = a.0 in
      let entries = a.1.spelled.sections.code in
      let h = module_comes_with z m text a.1.spelled (valid_in_order_with z m a.1.valid) entries.1 (omega (arith, entries.0)) in
      (h.2.0, h.0, h.1, h.2.1)

  pub outside_exactly : IsValidOutsideBodies z text ↔ ((q : SoFar) × (xs : List Shape) × IsModule z text xs × JudgesShapes z nothing xs q)
  outside_exactly = (outside_comes, λ (q, xs, is, j). outside_by xs q is j)

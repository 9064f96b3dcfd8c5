-- Sections by their ids.
use Rattle.std.proofs.Common.{◌≡◌, ◌∙◌, ℕ, List, false, refl, sym, ap, subst}
use Rattle.std.specs.Prelude.{◌↔◌}
use Rattle.wasm_types.specs.settings.Settings.{Settings}
use Rattle.wasm_sections_parser.specs.Steps as frame
use Rattle.wasm_sections_parser.specs.Steps.{place_of}
use Rattle.wasm_sections.specs.Payloads.{is_unknown}
use Rattle.wasm_module_validator_rules_in_order.specs.Sections.{Section, number, place}
use Rattle.wasm_module_validator_rules_in_order.specs.Sections as section
use Rattle.wasm_module_validator_rules_in_order.specs.Steps.{SoFar, JudgesSection, JudgesShape}
use Rattle.wasm_module_validator_rules_in_order.specs.laws.Places.{has_place}
use Rattle.wasm_module_validator_rules_in_order.specs.laws.Fronts.{one_place}

one_number : (s t : Section) → number s ≡ number t → s ≡ t
one_number s t e = one_place s t (sym (has_place s) ∙ (ap place_of e ∙ has_place t))

pub shape_judged : (z : Settings) (s : Section) (p q : SoFar) (text : List ℕ)
    → JudgesShape z p (frame.section (number s) text) q ↔ JudgesSection z p s text q
shape_judged z s p q text = (λ h. subst (λ t. JudgesSection z p t text q) (one_number h.0 s (sym h.1)) h.2, λ h. (s, refl, h))

known : (s : Section) → is_unknown (number s) ≡ false
known section.types = refl
known section.imports = refl
known section.functions = refl
known section.tables = refl
known section.memories = refl
known section.tags = refl
known section.globals = refl
known section.exports = refl
known section.start = refl
known section.element_segments = refl
known section.data_count = refl
known section.data_segments = refl

pub unknown_not_judged : (z : Settings) (id : ℕ) (p q : SoFar) (text : List ℕ) → JudgesShape z p (frame.section id text) q
    → is_unknown id ≡ false
unknown_not_judged z id p q text h = ap is_unknown h.1 ∙ known h.0

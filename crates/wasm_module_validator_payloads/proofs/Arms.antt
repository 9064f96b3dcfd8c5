-- What each arm of a payload tells, from what the call in it promises of the section or the frame.
use Rattle.std.proofs.Common.{◌≡◌, ℕ, true, List, refl, subst, None, Some, Result, Ok, Err}
use Rattle.std.specs.Prelude.{OnOk}
use Rattle.std.specs.Borrow.{Bor}
use Rattle.std.specs.declared.ops.Range.{Range}
use Rattle.wasm_types.specs.decoding.Decoder.{State}
use Rattle.wasm_types.specs.decoding.Denials.{Denies, Tells}
use Rattle.wasm_types.specs.decoding.declared.error.ErrorKind.{ErrorKind}
use Rattle.wasm_types.specs.decoding.ErrorValue.{ErrorValue}
use Rattle.wasm_types.specs.decoding.DenialLaws.{denies, denies_from}
use Rattle.wasm_types.specs.settings.Settings.{Settings}
use Rattle.wasm_sections_parser.specs.declared.frame.Frame.{Frame}
use Rattle.wasm_sections_parser.specs.Parsing.{shape_of}
use Rattle.wasm_sections.specs.declared.payload.Payload.{Payload}
use Rattle.wasm_sections.specs.declared.payload.Payload.TheVariants as payloads
use Rattle.wasm_sections.specs.Payloads.{IsSectionOf, IsPayloadOf, is_unknown}
use Rattle.wasm_module_validator_section_order.specs.declared.items.bodies.Body.{Body}
use Rattle.wasm_module_validator_section_order.specs.rules_in_order.Sections.{Section, number}
use Rattle.wasm_module_validator_section_order.specs.rules_in_order.Sections as section
use Rattle.wasm_module_validator_section_order.specs.rules_in_order.Steps.{SoFar, JudgesSection, JudgesShape}
use Rattle.wasm_module_validator_section_order.specs.frames.Walks.{HasSettings}
use Rattle.wasm_module_validator_payloads.specs.Progress.{Progress, IsAt}
use Rattle.wasm_module_validator_payloads.specs.laws.Shapes.{frame_back, of_frame, of_section, of_shape, shape_told}

-- what holds exactly where another does
pub same_told : {X : Type 0} (result : Result X ErrorValue) (P Q : Type 0) → (P → Q) → (Q → P) → Tells result P → Tells result Q
same_told (Ok u) P Q to from h = to h
same_told (Err e) P Q to from h = denies_from e.kind P Q from h

module _ {X : Type 0} (result : Result X ErrorValue) (x payload : Payload) (same : payload ≡ x) where
  pub section_answer : (z : Settings) (p : SoFar) (f : Frame) (s : Section) → frame_back x ≡ None
      → ((id : ℕ) (b : State) → IsSectionOf id b x → (id ≡ number s) × (b.settings ≡ z → Tells result ((q : SoFar) × JudgesSection z p s b.rest q)))
      → HasSettings z f → IsPayloadOf f payload → Tells result ((q : SoFar) × JudgesShape z p (shape_of f) q)
  section_answer z p f s none given has is =
      of_section (λ g. HasSettings z g → Tells result ((q : SoFar) × JudgesShape z p (shape_of g) q)) f x none
      (λ id b h st. let k = given id b h in shape_told z p s b.rest result id k.0 (k.1 st)) (subst (IsPayloadOf f) same is) has

  pub frame_answer : (z : Settings) (p : SoFar) (f g : Frame) → frame_back x ≡ Some g → (HasSettings z g → Tells result ((q : SoFar) × JudgesShape z p (shape_of g) q))
      → HasSettings z f → IsPayloadOf f payload → Tells result ((q : SoFar) × JudgesShape z p (shape_of f) q)
  frame_answer z p f g back value has is =
      of_frame (λ h. HasSettings z h → Tells result ((q : SoFar) × JudgesShape z p (shape_of h) q)) f x g back (subst (IsPayloadOf f) same is) value has

-- what is left behind a section
pub section_added : {X : Type 0} (result : Result X ErrorValue) (x payload : Payload) → payload ≡ x → frame_back x ≡ None → (r after : Progress) (bodies : List Body) (s : Section) (G : State → Type 0)
    → ((id : ℕ) (b : State) → IsSectionOf id b x → (id ≡ number s) × G b)
    → OnOk result ((z : Settings) (p q : SoFar) (bs : List Body) (b : State) → IsAt z r bs p → b.settings ≡ z → G b → JudgesSection z p s b.rest q → IsAt z after bs q)
    → OnOk result ((z : Settings) (p q : SoFar) (f : Frame) → IsAt z r bodies p → HasSettings z f → IsPayloadOf f payload → JudgesShape z p (shape_of f) q → IsAt z after bodies q)
section_added (Ok u) x payload same none r after bodies s G given h = λ z p q f at has is j.
    of_section (λ g. HasSettings z g → JudgesShape z p (shape_of g) q → IsAt z after bodies q) f x none
    (λ id b k st w. let m = given id b k in h z p q bodies b at st m.1 (of_shape z p s b.rest id m.0 q w)) (subst (IsPayloadOf f) same is) has j
section_added (Err e) x payload same none r after bodies s G given h = tt

-- each section has an id that is known
is_known : (s : Section) → is_unknown (number s) ≡ true → ⊥
is_known section.types e = cc
is_known section.imports e = cc
is_known section.functions e = cc
is_known section.tables e = cc
is_known section.memories e = cc
is_known section.tags e = cc
is_known section.globals e = cc
is_known section.exports e = cc
is_known section.start e = cc
is_known section.element_segments e = cc
is_known section.data_count e = cc
is_known section.data_segments e = cc

-- so a section of another id is none
pub unknown_answer : (k : ErrorKind) (payload : Payload) (i : ℕ) (c : Bor (List ℕ)) (r : Range ℕ) → payload ≡ payloads.UnknownSection i c r
    → (z : Settings) (p : SoFar) (f : Frame) → IsPayloadOf f payload → Denies k ((q : SoFar) × JudgesShape z p (shape_of f) q)
unknown_answer k payload i c r same z p f is = denies k _ (λ h.
    of_section (λ g. JudgesShape z p (shape_of g) h.0 → ⊥) f (payloads.UnknownSection i c r) refl
    (λ id b u j. is_known j.0 (subst (λ (n : ℕ). is_unknown n ≡ true) j.1 u.1)) (subst (IsPayloadOf f) same is) h.1)

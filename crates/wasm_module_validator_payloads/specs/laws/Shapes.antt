-- Which frame a payload is that of, and what is judged of a section as a frame.
use Rattle.std.proofs.Common.{◌≡◌, ◌∙◌, ℕ, List, sym, ap, subst, Option, Some, None, Result, Ok, Err}
use Rattle.wasm_types.specs.decoding.Decoder.{State}
use Rattle.wasm_types.specs.decoding.Denials.{Tells}
use Rattle.wasm_types.specs.decoding.DenialLaws.{denies_from}
use Rattle.wasm_types.specs.decoding.ErrorValue.{ErrorValue}
use Rattle.wasm_types.specs.settings.Settings.{Settings}
use Rattle.wasm_sections_parser.specs.declared.frame.Frame.{Frame}
use Rattle.wasm_sections_parser.specs.declared.frame.Frame.TheVariants as frames
use Rattle.wasm_sections_parser.specs.Steps as frame
use Rattle.wasm_sections_parser.specs.Steps.{place_of}
use Rattle.wasm_sections.specs.declared.payload.Payload.{Payload}
use Rattle.wasm_sections.specs.declared.payload.Payload.TheVariants as payloads
use Rattle.wasm_sections.specs.Payloads.{IsSectionOf, IsPayloadOf}
use Rattle.wasm_module_validator_section_order.specs.rules_in_order.Sections.{Section, number}
use Rattle.wasm_module_validator_section_order.specs.rules_in_order.Steps.{SoFar, JudgesSection, JudgesShape}
use Rattle.wasm_module_validator_section_order.specs.rules_in_order.laws.Fronts.{one_place}
use Rattle.wasm_module_validator_section_order.specs.rules_in_order.laws.Places.{has_place}

-- ---- payloads that are no section

-- the frame that such a payload is that of
abbrev pub frame_back : Payload → Option Frame
frame_back (payloads.Version n e r) = Some (frames.Version n e r)
frame_back (payloads.CodeSectionStart n r k) = Some (frames.CodeStart n r k)
frame_back (payloads.CodeSectionEntry b) = Some (frames.CodeEntry b)
frame_back (payloads.CustomSection c) = Some (frames.Custom c)
frame_back (payloads.End place) = Some (frames.End place)
frame_back (payloads.TypeSection s) = None
frame_back (payloads.ImportSection s) = None
frame_back (payloads.FunctionSection s) = None
frame_back (payloads.TableSection s) = None
frame_back (payloads.MemorySection s) = None
frame_back (payloads.TagSection s) = None
frame_back (payloads.GlobalSection s) = None
frame_back (payloads.ExportSection s) = None
frame_back (payloads.StartSection n r) = None
frame_back (payloads.ElementSection s) = None
frame_back (payloads.DataCountSection n r) = None
frame_back (payloads.DataSection s) = None
frame_back (payloads.UnknownSection i c r) = None

not_section : (x : Payload) (g : Frame) → frame_back x ≡ Some g → (id : ℕ) (b : State) → IsSectionOf id b x → ⊥
not_section (payloads.Version n e r) g back id b h = h
not_section (payloads.CodeSectionStart n r k) g back id b h = h
not_section (payloads.CodeSectionEntry body) g back id b h = h
not_section (payloads.CustomSection c) g back id b h = h
not_section (payloads.End place) g back id b h = h
not_section (payloads.TypeSection s) g back id b h = absurd cc
not_section (payloads.ImportSection s) g back id b h = absurd cc
not_section (payloads.FunctionSection s) g back id b h = absurd cc
not_section (payloads.TableSection s) g back id b h = absurd cc
not_section (payloads.MemorySection s) g back id b h = absurd cc
not_section (payloads.TagSection s) g back id b h = absurd cc
not_section (payloads.GlobalSection s) g back id b h = absurd cc
not_section (payloads.ExportSection s) g back id b h = absurd cc
not_section (payloads.StartSection n r) g back id b h = absurd cc
not_section (payloads.ElementSection s) g back id b h = absurd cc
not_section (payloads.DataCountSection n r) g back id b h = absurd cc
not_section (payloads.DataSection s) g back id b h = absurd cc
not_section (payloads.UnknownSection i c r) g back id b h = absurd cc

no_frame : {A : Type 0} (x : A) → None ≡ Some x → ⊥
no_frame x e = absurd cc

some_is : {A : Type 0} (x y : A) → Some x ≡ Some y → x ≡ y
some_is {A} x y e = ap got e
  where
    got : Option A → A
    got None = x
    got (Some a) = a

pub frame_is : (f : Frame) (x : Payload) (g : Frame) → frame_back x ≡ Some g → IsPayloadOf f x → f ≡ g
frame_is (frames.Version n e r) x g back h = some_is _ g (sym (ap frame_back h) ∙ back)
frame_is (frames.Custom c) x g back h = some_is _ g (sym (ap frame_back h) ∙ back)
frame_is (frames.Section id b) x g back h = absurd (not_section x g back id b h)
frame_is (frames.CodeStart n r k) x g back h = some_is _ g (sym (ap frame_back h) ∙ back)
frame_is (frames.CodeEntry b) x g back h = some_is _ g (sym (ap frame_back h) ∙ back)
frame_is (frames.End place) x g back h = some_is _ g (sym (ap frame_back h) ∙ back)

-- what is known of that frame is known of each whose payload this is
pub of_frame : (P : Frame → Type 0) (f : Frame) (x : Payload) (g : Frame) → frame_back x ≡ Some g → IsPayloadOf f x → P g → P f
of_frame P f x g back h p = subst P (sym (frame_is f x g back h)) p

-- ---- payloads of sections

-- what is known of each section whose payload this is is known of each frame
pub of_section : (P : Frame → Type 0) (f : Frame) (x : Payload) → frame_back x ≡ None → ((id : ℕ) (b : State) → IsSectionOf id b x → P (frames.Section id b)) → IsPayloadOf f x → P f
of_section P (frames.Version n e r) x none given h = absurd (no_frame _ (sym none ∙ ap frame_back h))
of_section P (frames.Custom c) x none given h = absurd (no_frame _ (sym none ∙ ap frame_back h))
of_section P (frames.Section id b) x none given h = given id b h
of_section P (frames.CodeStart n r k) x none given h = absurd (no_frame _ (sym none ∙ ap frame_back h))
of_section P (frames.CodeEntry b) x none given h = absurd (no_frame _ (sym none ∙ ap frame_back h))
of_section P (frames.End place) x none given h = absurd (no_frame _ (sym none ∙ ap frame_back h))

-- ---- sections as frames

one_number : (s t : Section) → number s ≡ number t → s ≡ t
one_number s t e = one_place s t (sym (has_place s) ∙ (ap place_of e ∙ has_place t))

module _ (z : Settings) (p : SoFar) (s : Section) (text : List ℕ) where
  as_shape : (id : ℕ) → id ≡ number s → (q : SoFar) → JudgesSection z p s text q → JudgesShape z p (frame.section id text) q
  as_shape id is q j = (s, is, j)

  pub of_shape : (id : ℕ) → id ≡ number s → (q : SoFar) → JudgesShape z p (frame.section id text) q → JudgesSection z p s text q
  of_shape id is q (t, e, j) = subst (λ (u : Section). JudgesSection z p u text q) (one_number t s (sym e ∙ is)) j

  pub shape_told : {X : Type 0} (result : Result X ErrorValue) (id : ℕ) → id ≡ number s → Tells result ((q : SoFar) × JudgesSection z p s text q)
      → Tells result ((q : SoFar) × JudgesShape z p (frame.section id text) q)
  shape_told (Ok u) id is h = (h.0, as_shape id is h.0 h.1)
  shape_told (Err e) id is h = denies_from e.kind _ _ (λ j. (j.0, of_shape id is j.0 j.1)) h

use Rattle.std.proofs.Common.{◌≡◌, refl, sym, subst, inr}
use Rattle.wasm_types.specs.decoding.Decoder.{State, Done}
use Rattle.wasm_sections_parser.specs.declared.frame.Frame.TheVariants as frames
use Rattle.wasm_sections.specs.declared.payload.Payload.{Payload}
use Rattle.wasm_sections.specs.declared.payload.Payload.TheVariants as payloads
use Rattle.wasm_sections_parser.specs.Parsing.{shape_of}
use Rattle.wasm_sections.specs.Payloads.{Counts, only_number, IsPayloadOf}
use Rattle.wasm_module_validator_section_order.specs.rules_in_order.Steps.{SoFar, JudgesShape}
use Rattle.wasm_module_validator_section_order.specs.items.FullLaws.{unless_full, unless_full_from, never_full}
use Rattle.wasm_module_validator_declarations.specs.Total.{IsPastTotal}
use Rattle.wasm_module_validator_payloads.specs.Progress.{HasGroup}
use Rattle.wasm_module_validator_payloads.specs.laws.Shapes.{of_frame}
use Rattle.wasm_module_validator_section_order.specs.rules_in_order.Sections as section
use Rattle.wasm_module_validator_payloads.proofs.Arms.{same_told, section_answer, frame_answer, section_added, unknown_answer}
use Rattle.wasm_module_validator_payloads.specs.laws.Growing.{grows_by_nothing, stays}
use Rattle.wasm_module_validator_payloads.proofs.progress.InProgress.take_payload.Goals as goal

pub returns-in-Version-clause-answer : goal.returns-in-Version-clause-answer
returns-in-Version-clause-answer c = unless_full _ c.check_header.result _ (λ z p f at.
    frame_answer c.check_header.result _ c.args.payload c.in-Version.is z p f (frames.Version c.in-Version.num c.in-Version.encoding c.in-Version.range) refl
    (λ st. same_told c.check_header.result _ _ (λ h. (p, (h.0, h.1, refl))) (λ j. (j.1.0, j.1.1)) c.check_header.ensures.answer))

pub returns-in-CodeSectionStart-clause-answer : goal.returns-in-CodeSectionStart-clause-answer
returns-in-CodeSectionStart-clause-answer c = unless_full _ c.take_code_start.result _ (λ z p f at.
    frame_answer c.take_code_start.result _ c.args.payload c.in-CodeSectionStart.is z p f _ refl
    (λ st. same_told c.take_code_start.result _ _ (λ h. (_, (h, refl))) (λ j. j.1.0) (c.take_code_start.ensures.answer z p c.args.bodies.now.items at)))

pub returns-in-CodeSectionEntry-clause-answer : goal.returns-in-CodeSectionEntry-clause-answer
returns-in-CodeSectionEntry-clause-answer c = unless_full _ c.take_body.result _ (λ z p f at.
    frame_answer c.take_body.result _ c.args.payload c.in-CodeSectionEntry.is z p f (frames.CodeEntry c.in-CodeSectionEntry.body) refl
    (λ st. c.take_body.ensures.answer z p at st))

pub returns-in-CustomSection-clause-answer : goal.returns-in-CustomSection-clause-answer
returns-in-CustomSection-clause-answer c = λ z p f at has is.
    of_frame (λ g. (q : SoFar) × JudgesShape z p (shape_of g) q) f (payloads.CustomSection c.in-CustomSection.field-0) (frames.Custom c.in-CustomSection.field-0) refl
    (subst (IsPayloadOf f) c.in-CustomSection.is is) (p, refl)

pub returns-in-End-clause-answer : goal.returns-in-End-clause-answer
returns-in-End-clause-answer c = λ z p f at has is.
    of_frame (λ g. (q : SoFar) × JudgesShape z p (shape_of g) q) f (payloads.End c.in-End.field-0) (frames.End c.in-End.field-0) refl (subst (IsPayloadOf f) c.in-End.is is) (p, refl)

pub returns-in-TypeSection-clause-answer : goal.returns-in-TypeSection-clause-answer
returns-in-TypeSection-clause-answer c =
    let x = payloads.TypeSection c.in-TypeSection.section in
    unless_full_from _ _ c.take_section.result _ _ (λ e full z p at. subst (λ (y : Payload). IsPastTotal c.args.self.now.kept.groups c.args.self.now.kept.items (HasGroup y) e) (sym c.in-TypeSection.is)
    (full.1 z p c.args.bodies.now.items at))
    (λ told z p f at.
    section_answer c.take_section.result x c.args.payload c.in-TypeSection.is z p f section.types refl
    (λ id b h. (h.0, λ st. told z p c.args.bodies.now.items b at st h.1))) c.take_section.ensures.answer

pub returns-in-TypeSection-clause-added : goal.returns-in-TypeSection-clause-added
returns-in-TypeSection-clause-added c =
    section_added c.take_section.result (payloads.TypeSection c.in-TypeSection.section) c.args.payload c.in-TypeSection.is refl c.args.self.now c.take_section.new.self c.args.bodies.now.items section.types
    (λ (b : State). Counts b c.in-TypeSection.section.count c.in-TypeSection.section.reader) (λ id b h. h) c.take_section.ensures.added

pub returns-in-ImportSection-clause-answer : goal.returns-in-ImportSection-clause-answer
returns-in-ImportSection-clause-answer c = unless_full _ c.take_imports.result _ (λ z p f at.
    section_answer c.take_imports.result (payloads.ImportSection c.in-ImportSection.section) c.args.payload c.in-ImportSection.is z p f section.imports refl
    (λ id b h. (h.0, λ st. c.take_imports.ensures.answer z p c.args.bodies.now.items b at st h.1)))

pub returns-in-ImportSection-clause-added : goal.returns-in-ImportSection-clause-added
returns-in-ImportSection-clause-added c =
    section_added c.take_imports.result (payloads.ImportSection c.in-ImportSection.section) c.args.payload c.in-ImportSection.is refl c.args.self.now c.take_imports.new.self c.args.bodies.now.items section.imports
    (λ (b : State). Counts b c.in-ImportSection.section.count c.in-ImportSection.section.reader) (λ id b h. h) c.take_imports.ensures.added

pub returns-in-FunctionSection-clause-answer : goal.returns-in-FunctionSection-clause-answer
returns-in-FunctionSection-clause-answer c = unless_full _ c.take_section-in-FunctionSection.result _ (λ z p f at.
    section_answer c.take_section-in-FunctionSection.result (payloads.FunctionSection c.in-FunctionSection.section) c.args.payload c.in-FunctionSection.is z p f section.functions refl
    (λ id b h. (h.0, λ st. (never_full _ (λ e full. let same : section.functions ≡ section.types = full.0 in absurd cc) c.take_section-in-FunctionSection.result _ c.take_section-in-FunctionSection.ensures.answer) z p c.args.bodies.now.items b at st h.1)))

pub returns-in-FunctionSection-clause-added : goal.returns-in-FunctionSection-clause-added
returns-in-FunctionSection-clause-added c =
    section_added c.take_section-in-FunctionSection.result (payloads.FunctionSection c.in-FunctionSection.section) c.args.payload c.in-FunctionSection.is refl c.args.self.now c.take_section-in-FunctionSection.new.self c.args.bodies.now.items section.functions
    (λ (b : State). Counts b c.in-FunctionSection.section.count c.in-FunctionSection.section.reader) (λ id b h. h) c.take_section-in-FunctionSection.ensures.added

pub returns-in-TableSection-clause-answer : goal.returns-in-TableSection-clause-answer
returns-in-TableSection-clause-answer c = unless_full _ c.take_section-in-TableSection.result _ (λ z p f at.
    section_answer c.take_section-in-TableSection.result (payloads.TableSection c.in-TableSection.section) c.args.payload c.in-TableSection.is z p f section.tables refl
    (λ id b h. (h.0, λ st. (never_full _ (λ e full. let same : section.tables ≡ section.types = full.0 in absurd cc) c.take_section-in-TableSection.result _ c.take_section-in-TableSection.ensures.answer) z p c.args.bodies.now.items b at st h.1)))

pub returns-in-TableSection-clause-added : goal.returns-in-TableSection-clause-added
returns-in-TableSection-clause-added c =
    section_added c.take_section-in-TableSection.result (payloads.TableSection c.in-TableSection.section) c.args.payload c.in-TableSection.is refl c.args.self.now c.take_section-in-TableSection.new.self c.args.bodies.now.items section.tables
    (λ (b : State). Counts b c.in-TableSection.section.count c.in-TableSection.section.reader) (λ id b h. h) c.take_section-in-TableSection.ensures.added

pub returns-in-MemorySection-clause-answer : goal.returns-in-MemorySection-clause-answer
returns-in-MemorySection-clause-answer c = unless_full _ c.take_section-in-MemorySection.result _ (λ z p f at.
    section_answer c.take_section-in-MemorySection.result (payloads.MemorySection c.in-MemorySection.section) c.args.payload c.in-MemorySection.is z p f section.memories refl
    (λ id b h. (h.0, λ st. (never_full _ (λ e full. let same : section.memories ≡ section.types = full.0 in absurd cc) c.take_section-in-MemorySection.result _ c.take_section-in-MemorySection.ensures.answer) z p c.args.bodies.now.items b at st h.1)))

pub returns-in-MemorySection-clause-added : goal.returns-in-MemorySection-clause-added
returns-in-MemorySection-clause-added c =
    section_added c.take_section-in-MemorySection.result (payloads.MemorySection c.in-MemorySection.section) c.args.payload c.in-MemorySection.is refl c.args.self.now c.take_section-in-MemorySection.new.self c.args.bodies.now.items section.memories
    (λ (b : State). Counts b c.in-MemorySection.section.count c.in-MemorySection.section.reader) (λ id b h. h) c.take_section-in-MemorySection.ensures.added

pub returns-in-TagSection-clause-answer : goal.returns-in-TagSection-clause-answer
returns-in-TagSection-clause-answer c = unless_full _ c.take_section-in-TagSection.result _ (λ z p f at.
    section_answer c.take_section-in-TagSection.result (payloads.TagSection c.in-TagSection.section) c.args.payload c.in-TagSection.is z p f section.tags refl
    (λ id b h. (h.0, λ st. (never_full _ (λ e full. let same : section.tags ≡ section.types = full.0 in absurd cc) c.take_section-in-TagSection.result _ c.take_section-in-TagSection.ensures.answer) z p c.args.bodies.now.items b at st h.1)))

pub returns-in-TagSection-clause-added : goal.returns-in-TagSection-clause-added
returns-in-TagSection-clause-added c =
    section_added c.take_section-in-TagSection.result (payloads.TagSection c.in-TagSection.section) c.args.payload c.in-TagSection.is refl c.args.self.now c.take_section-in-TagSection.new.self c.args.bodies.now.items section.tags
    (λ (b : State). Counts b c.in-TagSection.section.count c.in-TagSection.section.reader) (λ id b h. h) c.take_section-in-TagSection.ensures.added

pub returns-in-GlobalSection-clause-answer : goal.returns-in-GlobalSection-clause-answer
returns-in-GlobalSection-clause-answer c = unless_full _ c.take_section-in-GlobalSection.result _ (λ z p f at.
    section_answer c.take_section-in-GlobalSection.result (payloads.GlobalSection c.in-GlobalSection.section) c.args.payload c.in-GlobalSection.is z p f section.globals refl
    (λ id b h. (h.0, λ st. (never_full _ (λ e full. let same : section.globals ≡ section.types = full.0 in absurd cc) c.take_section-in-GlobalSection.result _ c.take_section-in-GlobalSection.ensures.answer) z p c.args.bodies.now.items b at st h.1)))

pub returns-in-GlobalSection-clause-added : goal.returns-in-GlobalSection-clause-added
returns-in-GlobalSection-clause-added c =
    section_added c.take_section-in-GlobalSection.result (payloads.GlobalSection c.in-GlobalSection.section) c.args.payload c.in-GlobalSection.is refl c.args.self.now c.take_section-in-GlobalSection.new.self c.args.bodies.now.items section.globals
    (λ (b : State). Counts b c.in-GlobalSection.section.count c.in-GlobalSection.section.reader) (λ id b h. h) c.take_section-in-GlobalSection.ensures.added

pub returns-in-ExportSection-clause-answer : goal.returns-in-ExportSection-clause-answer
returns-in-ExportSection-clause-answer c = unless_full _ c.take_section-in-ExportSection.result _ (λ z p f at.
    section_answer c.take_section-in-ExportSection.result (payloads.ExportSection c.in-ExportSection.section) c.args.payload c.in-ExportSection.is z p f section.exports refl
    (λ id b h. (h.0, λ st. (never_full _ (λ e full. let same : section.exports ≡ section.types = full.0 in absurd cc) c.take_section-in-ExportSection.result _ c.take_section-in-ExportSection.ensures.answer) z p c.args.bodies.now.items b at st h.1)))

pub returns-in-ExportSection-clause-added : goal.returns-in-ExportSection-clause-added
returns-in-ExportSection-clause-added c =
    section_added c.take_section-in-ExportSection.result (payloads.ExportSection c.in-ExportSection.section) c.args.payload c.in-ExportSection.is refl c.args.self.now c.take_section-in-ExportSection.new.self c.args.bodies.now.items section.exports
    (λ (b : State). Counts b c.in-ExportSection.section.count c.in-ExportSection.section.reader) (λ id b h. h) c.take_section-in-ExportSection.ensures.added

pub returns-in-ElementSection-clause-answer : goal.returns-in-ElementSection-clause-answer
returns-in-ElementSection-clause-answer c = unless_full _ c.take_section-in-ElementSection.result _ (λ z p f at.
    section_answer c.take_section-in-ElementSection.result (payloads.ElementSection c.in-ElementSection.section) c.args.payload c.in-ElementSection.is z p f section.element_segments refl
    (λ id b h. (h.0, λ st. (never_full _ (λ e full. let same : section.element_segments ≡ section.types = full.0 in absurd cc) c.take_section-in-ElementSection.result _ c.take_section-in-ElementSection.ensures.answer) z p c.args.bodies.now.items b at st h.1)))

pub returns-in-ElementSection-clause-added : goal.returns-in-ElementSection-clause-added
returns-in-ElementSection-clause-added c =
    section_added c.take_section-in-ElementSection.result (payloads.ElementSection c.in-ElementSection.section) c.args.payload c.in-ElementSection.is refl c.args.self.now c.take_section-in-ElementSection.new.self c.args.bodies.now.items section.element_segments
    (λ (b : State). Counts b c.in-ElementSection.section.count c.in-ElementSection.section.reader) (λ id b h. h) c.take_section-in-ElementSection.ensures.added

pub returns-in-DataSection-clause-answer : goal.returns-in-DataSection-clause-answer
returns-in-DataSection-clause-answer c = unless_full _ c.take_section-in-DataSection.result _ (λ z p f at.
    section_answer c.take_section-in-DataSection.result (payloads.DataSection c.in-DataSection.section) c.args.payload c.in-DataSection.is z p f section.data_segments refl
    (λ id b h. (h.0, λ st. (never_full _ (λ e full. let same : section.data_segments ≡ section.types = full.0 in absurd cc) c.take_section-in-DataSection.result _ c.take_section-in-DataSection.ensures.answer) z p c.args.bodies.now.items b at st h.1)))

pub returns-in-DataSection-clause-added : goal.returns-in-DataSection-clause-added
returns-in-DataSection-clause-added c =
    section_added c.take_section-in-DataSection.result (payloads.DataSection c.in-DataSection.section) c.args.payload c.in-DataSection.is refl c.args.self.now c.take_section-in-DataSection.new.self c.args.bodies.now.items section.data_segments
    (λ (b : State). Counts b c.in-DataSection.section.count c.in-DataSection.section.reader) (λ id b h. h) c.take_section-in-DataSection.ensures.added

pub returns-in-StartSection-clause-answer : goal.returns-in-StartSection-clause-answer
returns-in-StartSection-clause-answer c = unless_full _ c.take_start_section.result _ (λ z p f at.
    section_answer c.take_start_section.result (payloads.StartSection c.in-StartSection.func c.in-StartSection.range) c.args.payload c.in-StartSection.is z p f section.start refl
    (λ id b h. (h.0, λ st. c.take_start_section.ensures.answer z p c.args.bodies.now.items b at st h.1)))

pub returns-in-StartSection-clause-added : goal.returns-in-StartSection-clause-added
returns-in-StartSection-clause-added c =
    section_added c.take_start_section.result (payloads.StartSection c.in-StartSection.func c.in-StartSection.range) c.args.payload c.in-StartSection.is refl c.args.self.now c.take_start_section.new.self c.args.bodies.now.items section.start
    (λ (b : State). only_number b ≡ Done c.in-StartSection.func b) (λ id b h. (h.0, h.1)) c.take_start_section.ensures.added

pub returns-in-DataCountSection-clause-answer : goal.returns-in-DataCountSection-clause-answer
returns-in-DataCountSection-clause-answer c = unless_full _ c.take_data_count_section.result _ (λ z p f at.
    section_answer c.take_data_count_section.result (payloads.DataCountSection c.in-DataCountSection.count c.in-DataCountSection.range) c.args.payload c.in-DataCountSection.is z p f section.data_count refl
    (λ id b h. (h.0, λ st. c.take_data_count_section.ensures.answer z p c.args.bodies.now.items b at st h.1)))

pub returns-in-DataCountSection-clause-added : goal.returns-in-DataCountSection-clause-added
returns-in-DataCountSection-clause-added c =
    section_added c.take_data_count_section.result (payloads.DataCountSection c.in-DataCountSection.count c.in-DataCountSection.range) c.args.payload c.in-DataCountSection.is refl c.args.self.now c.take_data_count_section.new.self c.args.bodies.now.items section.data_count
    (λ (b : State). only_number b ≡ Done c.in-DataCountSection.count b) (λ id b h. (h.0, h.1)) c.take_data_count_section.ensures.added

pub returns-in-Version-clause-grown : goal.returns-in-Version-clause-grown
returns-in-Version-clause-grown c = stays c.check_header.result _ _ refl

pub returns-in-CustomSection-clause-grown : goal.returns-in-CustomSection-clause-grown
returns-in-CustomSection-clause-grown c = grows_by_nothing _

pub returns-in-End-clause-grown : goal.returns-in-End-clause-grown
returns-in-End-clause-grown c = grows_by_nothing _

pub returns-in-CodeSectionStart-clause-grown : goal.returns-in-CodeSectionStart-clause-grown
returns-in-CodeSectionStart-clause-grown c = stays c.take_code_start.result _ _ c.take_code_start.ensures.kept

pub returns-in-CodeSectionEntry-clause-grown : goal.returns-in-CodeSectionEntry-clause-grown
returns-in-CodeSectionEntry-clause-grown c = stays c.take_body.result _ _ c.take_body.ensures.kept

pub returns-in-UnknownSection-clause-answer : goal.returns-in-UnknownSection-clause-answer
returns-in-UnknownSection-clause-answer c = inr (λ z p f at has is.
    unknown_answer c.unknown_section.result.kind c.args.payload _ _ _ c.in-UnknownSection.is z p f is)

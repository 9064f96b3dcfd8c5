use Rattle.std.proofs.Common.{◌∙◌, refl, sym, ap, subst}
use Rattle.wasm_types.specs.decoding.Decoder.{State as Bytes}
use Rattle.wasm_sections.specs.declared.payload.Payload.{Payload}
use Rattle.wasm_module_validator.specs.Payloads.{with_body, TakesPayload}
use Rattle.wasm_module_validator.proofs.validator.Validator.payload.Goals as goal

pub returns-in-Version : goal.returns-in-Version
returns-in-Version c =
    subst (λ (x : Payload). TakesPayload x c.args.self.now c.pass.result c.version.new.self) (sym c.in-Version.is)
    (c.version.result, c.pass.ensures, c.version.ensures)

pub returns-in-TypeSection : goal.returns-in-TypeSection
returns-in-TypeSection c =
    subst (λ (x : Payload). TakesPayload x c.args.self.now c.pass-in-TypeSection.result c.type_section.new.self) (sym c.in-TypeSection.is)
    (c.type_section.result, c.pass-in-TypeSection.ensures, c.type_section.ensures)

pub returns-in-ImportSection : goal.returns-in-ImportSection
returns-in-ImportSection c =
    subst (λ (x : Payload). TakesPayload x c.args.self.now c.pass-in-ImportSection.result c.import_section.new.self) (sym c.in-ImportSection.is)
    (c.import_section.result, c.pass-in-ImportSection.ensures, c.import_section.ensures)

pub returns-in-FunctionSection : goal.returns-in-FunctionSection
returns-in-FunctionSection c =
    subst (λ (x : Payload). TakesPayload x c.args.self.now c.pass-in-FunctionSection.result c.function_section.new.self) (sym c.in-FunctionSection.is)
    (c.function_section.result, c.pass-in-FunctionSection.ensures, c.function_section.ensures)

pub returns-in-TableSection : goal.returns-in-TableSection
returns-in-TableSection c =
    subst (λ (x : Payload). TakesPayload x c.args.self.now c.pass-in-TableSection.result c.table_section.new.self) (sym c.in-TableSection.is)
    (c.table_section.result, c.pass-in-TableSection.ensures, c.table_section.ensures)

pub returns-in-MemorySection : goal.returns-in-MemorySection
returns-in-MemorySection c =
    subst (λ (x : Payload). TakesPayload x c.args.self.now c.pass-in-MemorySection.result c.memory_section.new.self) (sym c.in-MemorySection.is)
    (c.memory_section.result, c.pass-in-MemorySection.ensures, c.memory_section.ensures)

pub returns-in-TagSection : goal.returns-in-TagSection
returns-in-TagSection c =
    subst (λ (x : Payload). TakesPayload x c.args.self.now c.pass-in-TagSection.result c.tag_section.new.self) (sym c.in-TagSection.is)
    (c.tag_section.result, c.pass-in-TagSection.ensures, c.tag_section.ensures)

pub returns-in-GlobalSection : goal.returns-in-GlobalSection
returns-in-GlobalSection c =
    subst (λ (x : Payload). TakesPayload x c.args.self.now c.pass-in-GlobalSection.result c.global_section.new.self) (sym c.in-GlobalSection.is)
    (c.global_section.result, c.pass-in-GlobalSection.ensures, c.global_section.ensures)

pub returns-in-ExportSection : goal.returns-in-ExportSection
returns-in-ExportSection c =
    subst (λ (x : Payload). TakesPayload x c.args.self.now c.pass-in-ExportSection.result c.export_section.new.self) (sym c.in-ExportSection.is)
    (c.export_section.result, c.pass-in-ExportSection.ensures, c.export_section.ensures)

pub returns-in-StartSection : goal.returns-in-StartSection
returns-in-StartSection c =
    subst (λ (x : Payload). TakesPayload x c.args.self.now c.pass-in-StartSection.result c.start_section.new.self) (sym c.in-StartSection.is)
    (c.start_section.result, c.pass-in-StartSection.ensures, c.start_section.ensures)

pub returns-in-ElementSection : goal.returns-in-ElementSection
returns-in-ElementSection c =
    subst (λ (x : Payload). TakesPayload x c.args.self.now c.pass-in-ElementSection.result c.element_section.new.self) (sym c.in-ElementSection.is)
    (c.element_section.result, c.pass-in-ElementSection.ensures, c.element_section.ensures)

pub returns-in-DataCountSection : goal.returns-in-DataCountSection
returns-in-DataCountSection c =
    subst (λ (x : Payload). TakesPayload x c.args.self.now c.pass-in-DataCountSection.result c.data_count_section.new.self) (sym c.in-DataCountSection.is)
    (c.data_count_section.result, c.pass-in-DataCountSection.ensures, c.data_count_section.ensures)

pub returns-in-DataSection : goal.returns-in-DataSection
returns-in-DataSection c =
    subst (λ (x : Payload). TakesPayload x c.args.self.now c.pass-in-DataSection.result c.data_section.new.self) (sym c.in-DataSection.is)
    (c.data_section.result, c.pass-in-DataSection.ensures, c.data_section.ensures)

pub returns-in-CodeSectionStart : goal.returns-in-CodeSectionStart
returns-in-CodeSectionStart c =
    subst (λ (x : Payload). TakesPayload x c.args.self.now c.pass-in-CodeSectionStart.result c.code_section_start.new.self) (sym c.in-CodeSectionStart.is)
    (c.code_section_start.result, c.pass-in-CodeSectionStart.ensures, c.code_section_start.ensures)

pub returns-in-UnknownSection : goal.returns-in-UnknownSection
returns-in-UnknownSection c =
    subst (λ (x : Payload). TakesPayload x c.args.self.now c.pass-in-UnknownSection.result c.unknown_section.new.self) (sym c.in-UnknownSection.is)
    (c.unknown_section.result, c.pass-in-UnknownSection.ensures, c.unknown_section.ensures)

pub returns-in-CustomSection : goal.returns-in-CustomSection
returns-in-CustomSection c =
    subst (λ (x : Payload). TakesPayload x c.args.self.now c.pass-in-CustomSection.result c.args.self.now) (sym c.in-CustomSection.is)
    (c.custom_section.result, c.pass-in-CustomSection.ensures, (c.custom_section.ensures, refl))

pub returns-in-CodeSectionEntry : goal.returns-in-CodeSectionEntry
returns-in-CodeSectionEntry c =
    subst (λ (x : Payload). TakesPayload x c.args.self.now c.hand_out.result c.code_section_entry-answer.new.self) (sym c.in-CodeSectionEntry.is) (
      c.code_section_entry-answer.result,
      c.hand_out.ensures ∙ ap (λ (b : Bytes). with_body b c.code_section_entry-answer.result) c.read_anew-anew.ensures,
      c.code_section_entry-answer.ensures,
    )

pub returns-in-End : goal.returns-in-End
returns-in-End c = subst (λ (x : Payload). TakesPayload x c.args.self.now c.finish.result c.end.new.self) (sym c.in-End.is) (c.end.result, c.finish.ensures, c.end.ensures.ends)

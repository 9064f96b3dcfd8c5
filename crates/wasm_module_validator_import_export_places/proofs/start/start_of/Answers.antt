use Rattle.wasm_module_validator_rules.specs.Binary.{contents}
use Rattle.wasm_module_validator_import_export_places.proofs.Parting.{not_broken}
use Rattle.wasm_module_validator_import_export_places.proofs.Starting.{no_start, start_at}
use Rattle.wasm_module_validator_import_export_places.proofs.start.start_of.Goals as goal

pub returns-in-Broken : goal.returns-in-Broken
returns-in-Broken c z m h = absurd (not_broken c.args.bytes.now (contents 8 h.outer.parts) (c.in-Broken.ensures.found z h.outer h.framed))

pub returns-in-Absent : goal.returns-in-Absent
returns-in-Absent c z m h = no_start c.args.bytes.now m.start (contents 8 h.outer.parts) (c.in-Absent.ensures.found z h.outer h.framed) h.sections.start

pub returns-in-At : goal.returns-in-At
returns-in-At c z m h =
    start_at z c.args.bytes.now c.in-At.start m.start (contents 8 h.outer.parts) c.number_of.result (c.in-At.ensures.found z h.outer h.framed) h.sections.start c.number_of.ensures

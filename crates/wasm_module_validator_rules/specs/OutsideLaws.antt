-- A valid module is valid outside its bodies.
use Rattle.std.proofs.Common.{◌≡◌, ◌≤◌, ℕ, List, [], ◌∷◌, length, refl, arith}
use Rattle.std.specs.List.{AllZip}
use Rattle.std.proofs.lemmas.Slice.Zip.{AllZip-long}
use Rattle.wasm_types.specs.settings.Settings.{Settings}
use Rattle.wasm_module_validator_rules.specs.Syntax.{Function, ModuleTree}
use Rattle.wasm_module_validator_rules.specs.Binary.{SpelledFunction, SpelledModule, entries_of}
use Rattle.wasm_module_validator_rules.specs.Spaces.{module_of, imported_globals}
use Rattle.wasm_module_validator_rules.specs.Valid.{Each, HasValidBody, IsValid, IsValidWith}
use Rattle.wasm_module_validator_rules.specs.Accepts.{AcceptsUnder, AreEntries, JudgesOutsideBodies, IsValidOutsideBodies}

abbrev without_code : ModuleTree → ModuleTree
without_code m = record m { code = [] }

pub valid_without_code : (z : Settings) (m : ModuleTree) → IsValid z m
    → IsValidWith (Unit {0}) z (module_of (without_code m)) (imported_globals (without_code m)) (without_code m)
valid_without_code z m k = record {
  types = k.types;
  imports = k.imports;
  functions = k.functions;
  tables = k.tables;
  memories = k.memories;
  tags = k.tags;
  globals = k.globals;
  exports = k.exports;
  names = k.names;
  start = k.start;
  element_segments = k.element_segments;
  data_count = k.data_count;
  code = tt;
  data_segments = k.data_segments;
  limits = record {
    groups = k.limits.groups;
    types = k.limits.types;
    imports = k.limits.imports;
    functions = k.limits.functions;
    tables = k.limits.tables;
    memories = k.limits.memories;
    tags = k.limits.tags;
    globals = k.limits.globals;
    exports = k.limits.exports;
    element_segments = k.limits.element_segments;
    data_segments = k.limits.data_segments;
    data_count = k.limits.data_count;
    sizes = k.limits.sizes;
  };
}

-- bodies that functions are spelled by are within their limit
pub each_within : (z : Settings) (fs : List Function) (es : List (List ℕ)) → AllZip (SpelledFunction z) fs es
    → Each (λ (t : List ℕ). length t ≤ z.limits.body_bytes) es
each_within z [] [] h = tt
each_within z [] (e ∷ es) h = absurd h
each_within z (f ∷ fs) [] h = absurd h
each_within z (f ∷ fs) (e ∷ es) h = (h.0.within, each_within z fs es h.1)

pub are_entries : (z : Settings) (m : ModuleTree) (es : List (List ℕ)) → AllZip (SpelledFunction z) m.code es
    → AllZip (HasValidBody z (module_of m)) m.functions m.code → AreEntries z m es
are_entries z m es spelled typed =
    let entries = AllZip-long (SpelledFunction z) m.code es spelled in
    let bodies = AllZip-long (HasValidBody z (module_of m)) m.functions m.code typed in
    (omega (arith, entries, bodies), each_within z m.code es spelled)

pub accepted_outside : (z : Settings) (bytes : List ℕ) → AcceptsUnder z bytes → IsValidOutsideBodies z bytes
accepted_outside z bytes a =
    let m = a.0 in
    let t = a.1.spelled in (
      without_code m,
      record {
        spelled = record {
          outer = t.outer;
          framed = t.framed;
          core = t.core;
          sections = record {
            types = t.sections.types;
            imports = t.sections.imports;
            functions = t.sections.functions;
            tables = t.sections.tables;
            memories = t.sections.memories;
            tags = t.sections.tags;
            tags_allowed = t.sections.tags_allowed;
            globals = t.sections.globals;
            exports = t.sections.exports;
            start = t.sections.start;
            element_segments = t.sections.element_segments;
            data_count = t.sections.data_count;
            code = are_entries z m (entries_of t.outer.parts) t.sections.code a.1.valid.code;
            data_segments = t.sections.data_segments;
          };
        };
        valid = valid_without_code z m a.1.valid;
        code = refl;
      },
    )

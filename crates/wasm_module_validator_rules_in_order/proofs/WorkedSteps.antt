-- The worked rows.
use Rattle.std.specs.Prelude.{ℤ}
use Rattle.std.proofs.Common.{◌≡◌, ℕ, List, [], ◌∷◌, ◌++◌, refl, rules, inl, arith}
use Rattle.wasm_types.specs.settings.Features.{has}
use Rattle.wasm_types.specs.settings.Limits.{default_limits}
use Rattle.wasm_types.specs.trees.Trees.{opened}
use Rattle.wasm_types.specs.trees.ValidGroup.{types_from}
use Rattle.wasm_types.specs.decoding.Leb.{IsUnsigned, last, more, IsListed}
use Rattle.wasm_module_validator_rules.specs.Valid.{IsFunctionIndex}
use Rattle.wasm_module_validator_rules.specs.worked.Trees.{everything}
use Rattle.wasm_module_validator_rules_in_order.specs.contexts.InOrder.{context_so_far}
use Rattle.wasm_module_validator_rules_in_order.specs.Sections.{Section, number}
use Rattle.wasm_module_validator_rules_in_order.specs.Sections as section
use Rattle.wasm_module_validator_rules_in_order.specs.Steps.{SoFar, JudgesSection}
use Rattle.wasm_module_validator_rules_in_order.proofs.WorkedCode.{number_global, is_constant, reads_first}
use Rattle.wasm_module_validator_rules_in_order.specs.Worked.{with_type, with_global, read, TypesWorked, SpacesWorked, SegmentsWorked, ReadWorked, FramesWorked}

pub types_worked : TypesWorked
unfolding has opened types_from default_limits
types_worked = record {
  group = (_, record { valid = search rules; within = search rules; added = refl });
  group_behind = (_, record { valid = search rules; within = search rules; added = refl });
  group_unknown = search rules;
  groups_full = search rules;
  types_full = search rules;
  begins = search rules;
  begins_not = search rules;
  imported = (_, record { valid = (_, _, refl, refl); within = search rules; added = refl });
  import_unknown = search rules;
  functions_full = search rules;
  exact_functions_full = search rules;
  tables_full = search rules;
  memories_full = search rules;
  globals_full = search rules;
  tags_full = search rules;
  import_small = (_, record { valid = (_, _, refl, refl); within = search rules; added = refl });
  import_large = search rules;
  imports_begin = search rules;
  imports_begin_not = search rules;
}

pub spaces_worked : (x : ℤ) → SpacesWorked x
unfolding has opened types_from default_limits
spaces_worked x = record {
  function = (_, record { valid = (_, _, refl, refl); within = search rules; added = refl });
  function_unknown = search rules;
  functions_full = search rules;
  functions_begin = search rules;
  functions_begin_not = search rules;
  table = (_, record { valid = (record { element = inl refl; limits = search rules; wide = search rules; shared = search rules }, search rules); within = search rules; added = refl });
  table_without_null = search rules;
  table_reads_own = search rules;
  tables_full = search rules;
  tables_begin = search rules;
  tables_begin_not = search rules;
  memory = (_, record { valid = search rules; within = search rules; added = refl });
  memory_backwards = search rules;
  memories_full = search rules;
  memories_begin = search rules;
  memories_begin_not = search rules;
  tag = (_, record { valid = record { exceptions = search rules; type = _; signature = _; named = refl; function = refl; results = inl refl }; within = search rules; added = refl });
  tag_unknown = search rules;
  tags_full = search rules;
  tags_begin = search rules;
  tags_begin_not = search rules;
  global = (_, record { valid = (number_global _, is_constant _ _ x); within = search rules; added = refl });
  global_reads_earlier = (_, record { valid = (number_global _, reads_first (context_so_far (with_global x)) [] _); within = search rules; added = refl });
  global_reads_itself = search rules;
  globals_full = search rules;
  globals_begin = search rules;
  globals_begin_not = search rules;
}

pub segments_worked : (x : ℤ) → SegmentsWorked x
unfolding has opened types_from default_limits
segments_worked x = record {
  export = (_, record { valid = (search rules, tt); within = search rules; added = refl });
  export_behind = (_, record { valid = (search rules, search rules); within = search rules; added = refl });
  export_unknown = search rules;
  export_twice = search rules;
  export_small = (_, record { valid = (search rules, tt); within = search rules; added = refl });
  export_large = search rules;
  exports_begin = search rules;
  exports_begin_not = search rules;
  start = (_, record { valid = (_, refl, refl); within = refl; added = refl });
  start_unknown = search rules;
  start_twice = search rules;
  element = (_, record { valid = record { mode = search rules; items = search rules; within = search rules }; within = search rules; added = refl });
  element_unknown = search rules;
  elements_full = search rules;
  elements_begin = search rules;
  elements_begin_not = search rules;
  count = (_, record { valid = search rules; within = search rules; added = refl });
  count_needs = search rules;
  count_large = search rules;
  count_twice = search rules;
  segment = (_, record { valid = search rules; within = tt; added = refl });
  segment_unknown = search rules;
  segments_begin = search rules;
  segments_begin_not = search rules;
}

pub read_worked : (x : ℤ) → ReadWorked x
read_worked x = record {
  function = search rules;
  function_differs = search rules;
  table = search rules;
  table_differs = search rules;
  table_filled = search rules;
  table_empty = search rules;
  global_of_no_bytes = search rules;
  element = search rules;
  element_differs = search rules;
  element_of_another_mode = search rules;
  element_none = search rules;
  segment = search rules;
  segment_differs = search rules;
  segment_active = search rules;
}

no_section : (s : Section) → 14 ≡ number s → ⊥
no_section section.types e = omega (arith, e)
no_section s e = omega (arith, e)

late : (q : SoFar) (s : Section) → 3 ≡ number s → JudgesSection everything read s (0x01 ∷ 0x00 ∷ []) q → ⊥
late q section.functions e j = omega (arith, j.ordered)
late q s e j = omega (arith, e)

of_no_type : (s : Section) → 3 ≡ number s
    → JudgesSection everything (record { last = 1; tree = with_type; bodies = [] }) s (0x01 ∷ 0x01 ∷ []) (record read { tree = record with_type { functions = 1 ∷ [] } }) → ⊥
unfolding types_from opened
of_no_type section.functions e j = (let no : IsFunctionIndex (context_so_far with_type) 1 → ⊥ = search rules in no) j.valid.0
of_no_type s e j = omega (arith, e)

-- the count of the items is not that of the text
head_is : (n m : ℕ) (ns ms : List ℕ) → n ∷ ns ≡ m ∷ ms → n ≡ m
head_is n m ns ms e = cc

not_one : (count values : List ℕ) → IsUnsigned 32 1 count → 0x02 ∷ 0x00 ∷ [] ≡ count ++ values → ⊥
not_one [] values h w = elim h [ ]
not_one (n ∷ []) values (last N v m a b e) w = omega (arith, e, head_is 2 n (0x00 ∷ []) values w)
not_one (n ∷ ns) values (more N v m k text a b h e) w = omega (arith, a, head_is 2 n (0x00 ∷ []) (ns ++ values) w)

counts_two : IsListed (IsUnsigned 32) (0 ∷ []) (0x02 ∷ 0x00 ∷ []) → ⊥
counts_two h = not_one h.count h.values h.counted h.whole

otherwise : (s : Section) → 3 ≡ number s → JudgesSection everything (record { last = 1; tree = with_type; bodies = [] }) s (0x02 ∷ 0x00 ∷ []) read → ⊥
otherwise section.functions e j = counts_two j.spelled
otherwise s e j = omega (arith, e)

pub frames_worked : FramesWorked
unfolding has opened types_from default_limits
frames_worked = record {
  header = search rules;
  header_of_another_version = search rules;
  header_of_another_layer = search rules;
  custom_section = search rules;
  functions = (
    section.functions,
    refl,
    record {
      ordered = search rules;
      added = record { kept = refl; last = refl };
      spelled = record {
        count = 0x01 ∷ [];
        values = 0x00 ∷ [];
        counted = last 32 1 1 (omega arith) (omega arith) refl;
        each = (0x00 ∷ [], [], last 32 0 0 (omega arith) (omega arith) refl, refl, refl);
        whole = refl;
      };
      valid = ((_, _, refl, refl), tt);
      within = search rules;
      last = refl;
      bodies = refl;
    },
  );
  functions_of_no_type = λ h. of_no_type h.0 h.1 h.2;
  functions_spelled_otherwise = λ h. otherwise h.0 h.1 h.2;
  functions_late = λ h. late h.0 h.1.0 h.1.1 h.1.2;
  section_unknown = λ h. no_section h.1.0 h.1.1;
  code_begins = search rules;
  code_twice = search rules;
  body = search rules;
  body_without_function = search rules;
  body_before_code = search rules;
  body_long = search rules;
  end = search rules;
}

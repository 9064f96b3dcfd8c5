-- The rows of `Items`.
use Rattle.std.proofs.Common.{◌≡◌, ◌⊎◌, inl, inr, ◌+◌, ◌<◌, ℕ, Bool, true, false, List, [], ◌∷◌, Option, Some, None, All, zero, suc, refl, ap, arith, lit<, rules}
use Rattle.wasm_types.specs.settings.Features.{has}
use Rattle.wasm_types.specs.settings.declared.WasmFeatures.{WasmFeatures}
use Rattle.wasm_types.specs.settings.Limits.{default_limits}
use Rattle.wasm_types.specs.settings.Settings.{Settings}
use Rattle.wasm_types.specs.settings.declared.Limits.{Limits}
use Rattle.wasm_types.specs.trees.Trees.{opened}
use Rattle.wasm_types.specs.trees.Unfold.{type_count, type_tree}
use Rattle.wasm_types.specs.decoding.declared.error.ErrorKind.TheVariants.{Other}
use Rattle.wasm_types.specs.values.declared.value.ValType.TheVariants as value
use Rattle.wasm_types.specs.values.declared.heap.HeapType.TheVariants as heap
use Rattle.wasm_types.specs.values.Reference.{Reference}
use Rattle.wasm_types.specs.values.Values.{value_of}
use Rattle.wasm_types.specs.externs.declared.table.TableType.{TableType}
use Rattle.wasm_types.specs.externs.declared.global.GlobalType.{GlobalType}
use Rattle.wasm_module_validator_initialisers.specs.index_spaces.declared.module.Function.{Function}
use Rattle.wasm_module_validator_type_storage.specs.trees.Groups.{Group, count}
use Rattle.wasm_module_validator_type_storage.specs.trees.Worked.{id, id_of, both}
use Rattle.wasm_module_validator_section_order.specs.rules.worked.Trees.{funcref, table_with, constant_of}
use Rattle.wasm_module_validator_initialisers.specs.state.Contexts.{AreNamesKnown, IsKnownValue}
use Rattle.wasm_module_validator_initialisers.specs.resources.Named.{IsFunctionId}
use Rattle.wasm_module_validator_initialisers.specs.index_spaces.Spaces.{nothing_read, own_function}
use Rattle.wasm_module_validator_exports.specs.declared.names.exports.NamedExport.{NamedExport}
use Rattle.wasm_module_validator_exports.specs.declared.names.imports.NamedImports.{NamedImports}
use Rattle.wasm_module_validator_initialisers.specs.resources.referring.Referring.{type_in}
use Rattle.wasm_module_validator_initialisers.specs.state.Items.{IsRefusedBy}
use Rattle.wasm_module_validator_tests.specs.Items.{referring, ImportsNamed, NamesKept, RoomFor, Importable, Exportable, one_memory, second, imported_at, Imported, NextPlaces, exported_as, Exported, with_code, NextCode, RefusedBy, NamesKnown, ReadOver}

pub imports_named : ImportsNamed
unfolding type_in opened
imports_named = record {
  table = (refl, refl, refl);
  table_of_another = search rules;
  table_of_more = search rules;
  table_of_most = search rules;
  global = refl;
  global_of_another = search rules;
  global_written = search rules;
  function = refl;
  function_of_another = search rules;
  function_exactly = search rules;
  memory = refl;
  memory_of_more = search rules;
  tag = refl;
  tag_of_another = search rules;
  another_kind = search rules;
}

pub names_kept : (e : NamedExport) (n : NamedImports) → NamesKept e n
names_kept e n = record { its_kind = refl; its_index = refl; its_places = refl; names = refl }

pub room_for : RoomFor
unfolding has default_limits
room_for = record {
  function = search rules;
  no_function = search rules;
  exact_function = search rules;
  no_exact_function = search rules;
  table = search rules;
  no_table = search rules;
  memory = search rules;
  no_memory = search rules;
  global = search rules;
  no_global = search rules;
  tag = search rules;
  no_tag = search rules;
}

pub importable : Importable
unfolding has default_limits
importable = record {
  memory = record { valid = search rules; room = search rules; size = search rules };
  not_valid = search rules;
  no_room = search rules;
  too_large = search rules;
}

pub exportable : Exportable
unfolding has default_limits
exportable = record {
  memory = record { valid = search rules; room = search rules; size = search rules; new = search rules };
  untested = record { valid = search rules; room = search rules; size = search rules; new = search rules };
  no_memory = search rules;
  no_room = search rules;
  too_large = search rules;
  taken = λ h. h.new.0 refl;
}

-- ---- what is added

pub imported : (l : Limits) → Imported l
imported l = record {
  added = record { type = _; named = refl; added = refl; context = refl };
  not_added = search rules;
  another_place = search rules;
  another_kind = search rules;
  another_size = search rules;
  left = inl refl;
  left_named = inr refl;
  not_left = search rules;
  not_left_elsewhere = search rules;
}

pub next_places : (z : Settings) → NextPlaces z
next_places z = record { function = refl; exact_function = refl; table = refl; memory = refl; global = refl; tag = refl }

pub exported : (l : Limits) → Exported l
exported l = record {
  added = record { added = refl; context = refl };
  not_added = search rules;
  another_index = search rules;
  another_size = search rules;
  another_name = search rules;
}

pub next_code : (z : Settings) → NextCode z
next_code z = record {
  first = refl;
  next = refl;
  own = (refl, (_, refl, refl, lit< tt), refl);
  behind = (refl, (_, refl, refl, lit< tt), refl);
  imported = search rules;
  of_another_type = search rules;
  twice = search rules;
  forgotten = search rules;
  all = search rules;
  none_changes = search rules;
}

-- ---- refusals

not_by_rule : IsRefusedBy 0 (λ bits. Unit {0}) ⊥ Other → ⊥
not_by_rule (inl h) = h 0 tt
not_by_rule (inr h) = h.1

pub refused_by : (f : WasmFeatures) → RefusedBy f
refused_by f = record {
  by_rule = inl (λ b h. h);
  otherwise = inr (refl, tt);
  not_valid = not_by_rule;
  not_failed = search rules;
  not_memory = search rules;
  not_end_of_data = search rules;
}

-- ---- what is known

all_none : {A : Type 0} (P : A → Type 0) → All P []
all_none P k d h = absurd (omega (arith, h))

all_one : {A : Type 0} (P : A → Type 0) (x : A) → P x → All P (x ∷ [])
all_one P x p zero d h = p
all_one P x p (suc k) d h = absurd (omega (arith, h))

all_two : {A : Type 0} (P : A → Type 0) (x y : A) → P x → P y → All P (x ∷ y ∷ [])
all_two P x y p q zero d h = p
all_two P x y p q (suc zero) d h = q
all_two P x y p q (suc (suc k)) d h = absurd (omega (arith, h))

names_of_nothing : (groups : List Group) (z : Settings) → AreNamesKnown groups (nothing_read z)
names_of_nothing groups z = record { functions = all_none _; tables = all_none _; globals = all_none _; elements = all_none _ }

pub names_known : (z : Settings) → NamesKnown z
unfolding type_count
names_known z = record {
  nothing = names_of_nothing [] z;
  function = record { functions = all_one (λ (f : Function). f.type_index < 1) (own_function 0) (lit< tt); tables = all_none _; globals = all_none _; elements = all_none _ };
  function_unknown = λ n. let e = n.functions 0 (own_function 1) (lit< tt) in omega (arith, e);
  table = record { functions = all_none _; tables = all_one (λ (t : TableType). IsKnownValue both (value_of (value.Ref t.element_type))) (table_with (referring (heap.Concrete (id 2))) 1) (let h : 2 < 3 = lit< tt in h); globals = all_none _; elements = all_none _ };
  table_unknown = λ n. let e = n.tables 0 (table_with funcref 1) (lit< tt) in omega (arith, e);
  table_by_index = λ n. n.tables 0 (table_with funcref 1) (lit< tt);
  global = record { functions = all_none _; tables = all_none _; globals = all_one (λ (t : GlobalType). IsKnownValue both (value_of t.content_type)) (constant_of (value.Ref (referring (heap.Exact (id 2))))) (let h : 2 < 3 = lit< tt in h); elements = all_none _ };
  global_unknown = λ n. let e = n.globals 0 (constant_of value.I32) (lit< tt) in omega (arith, e);
  element = record { functions = all_none _; tables = all_none _; globals = all_none _; elements = all_two (λ (r : Reference). IsKnownValue both (value_of (value.Ref r))) (referring (heap.Concrete (id 2))) funcref (let h : 2 < 3 = lit< tt in h) tt };
  element_unknown = λ n. let e = n.elements 1 funcref (lit< tt) in omega (arith, e);
}

none_below : (id : ℕ) → id < count [] → ⊥
unfolding type_count
none_below id h = let k : id < 0 = h in omega (arith, k)

no_function : IsFunctionId both (id_of 0) → ⊥
unfolding opened type_tree type_count
no_function h = h.1

pub read_over : (z : Settings) → ReadOver z
read_over z = record {
  nothing = record {
    checked = record { canonical = λ h. tt; valid = λ id h. absurd (none_below id h) };
    known = all_none _;
    tags = all_none _;
  };
  type_unknown = λ r. none_below 0 (r.known 0 (id_of 0) (lit< tt));
  tag_unknown = λ r. none_below 0 (r.tags 0 (id_of 0) (lit< tt)).0;
  tag_of_a_struct = no_function;
}

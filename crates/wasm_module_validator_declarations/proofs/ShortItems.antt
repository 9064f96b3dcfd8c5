-- The bytes of names, of exports and of imports of functions.
use Rattle.std.proofs.Common.{◌≡◌, ◌≤◌, ◌<◌, ℕ, ◌+◌, ◌-◌, List, [], ◌∷◌, ◌++◌, Option, Some, None, refl, sym, ap, ◌∙◌, subst, arith, length, take, drop, get_or}
use Rattle.std.specs.Prelude.{IsUtf8, IfSome, IsTrue, false}
use Rattle.std.proofs.lemmas.List.{length-take-le, length-drop, drop_more}
use Rattle.wasm_types.specs.decoding.Leb.{u32, IsUnsigned}
use Rattle.wasm_types.specs.decoding.Text.{IsName}
use Rattle.wasm_types.specs.settings.declared.Limits.{Limits}
use Rattle.wasm_types.specs.decoding.Numbers.{GivesAt}
use Rattle.wasm_sections_items.specs.declared.imports.kind.ExternalKind.{ExternalKind}
use Rattle.wasm_sections_items.specs.declared.imports.kind.ExternalKind.TheVariants.{FuncExact}
use Rattle.wasm_sections_items.specs.declared.imports.type_ref.TypeRef.TheVariants.{Func}
use Rattle.wasm_sections_items.specs.imports.Spells.{ImportTree, ExportTree, kind_byte}
use Rattle.wasm_module_validator_type_storage.specs.trees.Groups.{Group}
use Rattle.wasm_module_validator_state.specs.Items.{Items}
use Rattle.wasm_module_validator_state.specs.invariant.Standing.{IsAdded}
use Rattle.wasm_module_validator_section_order.specs.rules_in_order.Sections as section
use Rattle.wasm_module_validator_section_order.specs.rules_in_order.Between.{IsBetween}
use Rattle.wasm_module_validator_section_order.specs.rules_in_order.BetweenLaws.{InTurn, in_turn, between_so, bytes_between, number_between}
use Rattle.wasm_module_validator_declarations.specs.Short.{AddsExport, SpellsExport, SpellsImport, is_exported}

-- the byte at an offset
byte_between : (text : List ℕ) (i : ℕ) → i < length text → IsBetween (λ t. t ≡ get_or text i 0 ∷ []) text i (i + 1)
byte_between text i inside = record { front = get_or text i 0 ∷ []; whole = drop_more text i 0 inside; place = omega arith; inside = omega (arith, inside); such = refl }

-- ---- names

module _ (text : List ℕ) (count first limit : ℕ) (name : List ℕ) where
  names : name ≡ take count (drop first text) → length name ≡ count → IsUtf8 name → count ≤ limit → (t : List ℕ)
      → InTurn (IsUnsigned 32 count) (λ r. r ≡ take count (drop first text)) t → IsName limit name t
  names is many utf8 few t (size_text, content, counted, filled, whole) = record {
    name = record {
      count = size_text;
      counted = subst (λ (k : ℕ). IsUnsigned 32 k size_text) (sym many) counted;
      utf8 = utf8;
      whole = whole ∙ ap (λ (r : List ℕ). size_text ++ r) (filled ∙ sym is);
    };
    within = omega (arith, many, few);
  }

  pub short_name : (i : ℕ) → GivesAt u32 text i count first → count < length text - first → name ≡ take count (drop first text) → IsUtf8 name → count ≤ limit
      → IsBetween (IsName limit name) text i (first + count)
  short_name i sized room is utf8 few =
      let some = length-drop first text in
      let many : length name ≡ count = ap length is ∙ length-take-le count (drop first text) (omega (arith, some, room)) in
      between_so (InTurn (IsUnsigned 32 count) (λ r. r ≡ take count (drop first text))) (IsName limit name) text i (first + count) (names is many utf8 few)
      (in_turn _ _ text i first (first + count) (number_between text i count first sized) (bytes_between text first count (omega (arith, room))))

-- by the same limits
same_name : (l m : Limits) (name t : List ℕ) → m ≡ l → IsName l.string_bytes name t → IsName m.string_bytes name t
same_name l m name t e h = subst (λ (k : Limits). IsName k.string_bytes name t) (sym e) h

-- ---- a byte, and an index

module _ (text : List ℕ) (middle index end : ℕ) where
  abbrev Indexed : List ℕ → Type 0
  Indexed = InTurn (λ t. t ≡ get_or text middle 0 ∷ []) (IsUnsigned 32 index)

  indexed_between : middle < length text → GivesAt u32 text (middle + 1) index end → IsBetween Indexed text middle end
  indexed_between inside indexed = in_turn _ _ text middle (middle + 1) end (byte_between text middle inside) (number_between text (middle + 1) index end indexed)

-- ---- exports

not_exact : (k : ExternalKind) → IsTrue (is_exported k) → k ≡ FuncExact → ⊥
not_exact k h e = let never : IsTrue false = subst (λ (j : ExternalKind). IsTrue (is_exported j)) e h in cc

module _ (text : List ℕ) (i middle index end : ℕ) (kind : ExternalKind) (name : List ℕ) (l : Limits) where
  abbrev exported : ExportTree
  exported = record { name = name; kind = kind; index = index }

  abbrev OfExport : List ℕ → Type 0
  OfExport = InTurn (IsName l.string_bytes name) (Indexed text middle index end)

  exports : get_or text middle 0 ≡ kind_byte kind → IsTrue (is_exported kind) → (t : List ℕ) → OfExport t → SpellsExport l exported t
  exports byte other t (name_text, behind, named, (kind_text, index_text, kind_is, indexed, whole_behind), whole) z same = record {
    name_text = name_text;
    kind_text = kind_text;
    index_text = index_text;
    named = same_name l z.limits name name_text same named;
    of_kind = (kind_is ∙ ap (λ (b : ℕ). b ∷ []) byte, not_exact kind other);
    indexed = indexed;
    whole = whole ∙ ap (λ (r : List ℕ). name_text ++ r) whole_behind;
  }

  pub short_export : IsBetween (IsName l.string_bytes name) text i middle → middle < length text → get_or text middle 0 ≡ kind_byte kind
      → IsTrue (is_exported kind) → GivesAt u32 text (middle + 1) index end → IsBetween (SpellsExport l exported) text i end
  short_export named inside byte other indexed =
      between_so OfExport (SpellsExport l exported) text i end (exports byte other)
      (in_turn _ _ text i middle end named (indexed_between text middle index end inside indexed))

-- where one was added, or was not
pub other_export : (l : Limits) (groups : List Group) (old new : Items) (text : List ℕ) (i end : ℕ) (e : ExportTree) → IsBetween (SpellsExport l e) text i end → (r : Option ℕ)
    → IfSome r (λ j. (j ≡ end) × IsAdded section.exports groups old e new) → IfSome r (AddsExport l groups old new text i)
other_export l groups old new text i end e b None h = tt
other_export l groups old new text i end e b (Some j) h = record { item = e; bytes = subst (IsBetween (SpellsExport l e) text i) (sym h.0) b; added = h.1 }

-- ---- imports of functions

module _ (text : List ℕ) (i second middle index end : ℕ) (from name : List ℕ) (l : Limits) where
  abbrev imported : ImportTree
  imported = record { module_name = from; field_name = name; ty = Func index }

  abbrev OfImport : List ℕ → Type 0
  OfImport = InTurn (IsName l.string_bytes from) (InTurn (IsName l.string_bytes name) (Indexed text middle index end))

  imports : get_or text middle 0 ≡ 0 → (t : List ℕ) → OfImport t → SpellsImport l imported t
  imports byte t (module_text, behind, of_module, (field_text, type_text, named, (kind_text, index_text, kind_is, indexed, whole_type), whole_behind), whole) z same = record {
    module_text = module_text;
    field_text = field_text;
    type_text = type_text;
    from_module = same_name l z.limits from module_text same of_module;
    named = same_name l z.limits name field_text same named;
    typed = record {
      content = index_text;
      spelled = indexed;
      whole = whole_type ∙ ap (λ (r : List ℕ). r ++ index_text) (kind_is ∙ ap (λ (b : ℕ). b ∷ []) byte);
    };
    whole = whole ∙ ap (λ (r : List ℕ). module_text ++ r) whole_behind;
  }

  pub short_import : IsBetween (IsName l.string_bytes from) text i second → IsBetween (IsName l.string_bytes name) text second middle → middle < length text
      → get_or text middle 0 ≡ 0 → GivesAt u32 text (middle + 1) index end → IsBetween (SpellsImport l imported) text i end
  short_import of_module named inside byte indexed =
      between_so OfImport (SpellsImport l imported) text i end (imports byte)
      (in_turn _ _ text i second end of_module (in_turn _ _ text second middle end named (indexed_between text middle index end inside indexed)))

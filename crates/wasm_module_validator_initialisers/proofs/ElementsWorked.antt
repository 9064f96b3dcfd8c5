-- The worked segments.
use Rattle.std.proofs.Common.{◌≡◌, ◌∙◌, ℕ, ◌<◌, ◌≤◌, List, [], ◌∷◌, length, Option, Some, None, false, refl, sym, ap, subst, rules, arith, lit<}
use Rattle.std.specs.Prelude.{slice_get}
use Rattle.wasm_types.specs.decoding.Leb.{last}
use Rattle.wasm_types.specs.settings.Features.{has, BulkMemory}
use Rattle.wasm_types.specs.settings.Limits.{default_limits}
use Rattle.wasm_types.specs.settings.Settings.{Settings}
use Rattle.wasm_types.specs.trees.Gates.{Has}
use Rattle.wasm_types.specs.trees.Types.{i32, ref, abstract, func, number}
use Rattle.wasm_types.specs.trees.Trees.{TypeTree}
use Rattle.wasm_types.specs.trees.Below.{Below}
use Rattle.wasm_types.specs.trees.AbstractOrder.{same}
use Rattle.wasm_types.specs.values.Reference.{Reference}
use Rattle.wasm_types.specs.values.declared.value.ValType.TheVariants as value
use Rattle.wasm_sections_items.specs.elements.Spells.{ElementMode, ElementItems, passive, active, declared, functions, expressions}
use Rattle.wasm_operators_encoding.specs.expressions.Code.{Code}
use Rattle.wasm_operators_encoding.specs.expressions.Spelling.{SpelledExpression}
use Rattle.wasm_operator_validator_rules.specs.constants.Constants.{IsConstant}
use Rattle.wasm_operator_validator_rules.specs.Context.{Module, Table, address_type}
use Rattle.wasm_module_validator_checks.specs.rules.Spaces.{value_in, element_type}
use Rattle.wasm_module_validator_checks.specs.rules.Valid.{Each, IsValidMode, AreValidItems, item_count, table_index}
use Rattle.wasm_module_validator_checks.specs.rules.worked.Trees.{everything, without, funcref, only, function_at}
use Rattle.wasm_module_validator_initialisers.specs.segments.Judged.{IsConstantText}
use Rattle.wasm_module_validator_initialisers.specs.segments.Worked.{short, long, nothing}
use Rattle.wasm_module_validator_initialisers.proofs.Worked.{five, short_spelled, is_short, short_is_not, long_is_not}
use Rattle.wasm_module_validator_resources.specs.rules_in_order.Texts.{SpelledMode, SpelledElements}
use Rattle.wasm_module_validator_initialisers.specs.elements.Judged.{IsElement}
use Rattle.wasm_module_validator_initialisers.specs.elements.Worked.{with_table, any_functions, externals, few, seventh, segment, ElementsWorked, NamesWorked}

-- ---- what a segment that is valid has

module _ (z : Settings) (g : Module) where
  placed : (o : Option ℕ) (text : List ℕ) (xs : List ℕ) → IsElement z g 0 (segment (active o text) (functions xs))
      → (v : Table) × (slice_get g.tables (table_index o) ≡ Some v) × Below (ref false (abstract false func)) v.element × IsConstantText z g 0 (address_type v.table64) text
  placed o text xs (y, m, i, valid) = go y.mode y.items m i valid.mode
    where
      go : (k : ElementMode Code) (j : ElementItems Code) → SpelledMode z (active o text) k → SpelledElements z (functions xs) j → IsValidMode z g 0 (element_type g.types j) k
          → (v : Table) × (slice_get g.tables (table_index o) ≡ Some v) × Below (ref false (abstract false func)) v.element × IsConstantText z g 0 (address_type v.table64) text
      go passive j m i h = absurd m
      go declared j m i h = absurd m
      go (active p c) (expressions r cs) m i h = absurd i
      go (active p c) (functions ys) m i (v, found, below, typed) = (v, ap (λ (n : Option ℕ). slice_get g.tables (table_index n)) m.0 ∙ found, below, (c, m.1, typed))

  -- one that is not active
  passive_used : (items : ElementItems (List ℕ)) → IsElement z g 0 (segment passive items) → Has z.features BulkMemory
  passive_used items (y, m, i, valid) = go y.mode m valid.mode
    where
      go : (k : ElementMode Code) → SpelledMode z passive k → IsValidMode z g 0 (element_type g.types y.items) k → Has z.features BulkMemory
      go passive m h = h
      go (active p c) m h = absurd m
      go declared m h = absurd m

  declared_used : (items : ElementItems (List ℕ)) → IsElement z g 0 (segment declared items) → Has z.features BulkMemory
  declared_used items (y, m, i, valid) = go y.mode m valid.mode
    where
      go : (k : ElementMode Code) → SpelledMode z declared k → IsValidMode z g 0 (element_type g.types y.items) k → Has z.features BulkMemory
      go passive m h = absurd m
      go (active p c) m h = absurd m
      go declared m h = h

  -- its functions
  filled : (mode : ElementMode (List ℕ)) (xs : List ℕ) → IsElement z g 0 (segment mode (functions xs)) → Each (λ x. x < length g.functions) xs × (length xs ≤ z.limits.segment_items)
  filled mode xs (y, m, i, valid) = go y.items i valid.items valid.within
    where
      go : (j : ElementItems Code) → SpelledElements z (functions xs) j → AreValidItems z g 0 j → item_count j ≤ z.limits.segment_items
          → Each (λ x. x < length g.functions) xs × (length xs ≤ z.limits.segment_items)
      go (functions ys) e h few = (subst (Each (λ x. x < length g.functions)) (sym e) h, subst (λ (ns : List ℕ). length ns ≤ z.limits.segment_items) (sym e) few)
      go (expressions r cs) e h few = absurd e

  -- its first expression
  first_text : (mode : ElementMode (List ℕ)) (r : Reference) (text : List ℕ) → IsElement z g 0 (segment mode (expressions r (text ∷ []))) → IsConstantText z g 0 (value_in g.types (value.Ref r)) text
  first_text mode r text (y, m, i, valid) = go y.items i valid.items
    where
      go : (j : ElementItems Code) → SpelledElements z (expressions r (text ∷ [])) j → AreValidItems z g 0 j → IsConstantText z g 0 (value_in g.types (value.Ref r)) text
      go (functions ys) e h = absurd e
      go (expressions q []) e h = absurd e.1
      go (expressions q (c ∷ cs)) e h = (c, e.1.0, subst (λ (p : Reference). IsConstant z.features g 0 (value_in g.types (value.Ref p)) c) (sym e.0) h.1.0)

of_this : (v w : Table) → Some v ≡ Some w → v ≡ w
of_this v w e = cc

below_none : Below (ref false (abstract false func)) externals → ⊥
below_none h = search rules

pub elements_worked : (t : TypeTree) → ElementsWorked t
unfolding has default_limits
elements_worked t = record {
  active = (
    record { mode = active None five; items = functions (0 ∷ []) },
    (refl, short_spelled everything),
    refl,
    record { mode = (_, refl, (tt, (refl, same)), is_short _); items = (lit< tt, tt); within = search rules },
  );
  does_not_fit = λ h.
      let p = placed everything (with_table t externals) None short (0 ∷ []) h in
      below_none (subst (λ (v : Table). Below (ref false (abstract false func)) v.element) (sym (of_this _ _ p.1)) p.2);
  table_unknown = λ h. let p = placed everything (with_table t any_functions) (Some 1) short (0 ∷ []) h in let e : None ≡ Some p.0 = p.1 in cc;
  offset_of_another_type = λ h.
      let p = placed everything (with_table t any_functions) None long (0 ∷ []) h in
      long_is_not everything (with_table t any_functions) (number i32) (search rules)
      (subst (λ (v : Table). IsConstantText everything (with_table t any_functions) 0 (address_type v.table64) long) (sym (of_this _ _ p.1)) p.3);
  function_unknown = λ h. let p = filled everything (with_table t any_functions) declared (1 ∷ []) h in let lt : 1 < 1 = p.0.0 in omega arith;
  as_many = (record { mode = declared; items = functions (0 ∷ []) }, tt, refl, record { mode = search rules; items = (lit< tt, tt); within = search rules });
  too_many = λ h. let p = filled (few 0) (with_table t any_functions) declared (0 ∷ []) h in let le : 1 ≤ 0 = p.1 in omega arith;
  passive_needs = λ h. let p = passive_used (without BulkMemory) nothing (functions []) h in search rules;
  declared_needs = λ h. let p = declared_used (without BulkMemory) nothing (functions []) h in search rules;
  no_expressions = (
    record { mode = passive; items = expressions funcref [] },
    tt,
    (refl, tt),
    record { mode = search rules; items = ((_, record { allowed = search rules; known = tt; is = refl }), tt); within = search rules },
  );
  expressions_of_another_type = λ h. short_is_not everything nothing _ (search rules) (first_text everything nothing passive funcref short h);
}

-- ---- what segments name

abbrev seven : Code
seven = only (function_at 7)

seventh_spelled : (z : Settings) → SpelledExpression z seven seventh
seventh_spelled z = record {
  expression = (refl, refl);
  spelled = (
    0xd2 ∷ 0x07 ∷ [],
    0x0b ∷ [],
    record { canonical = refl; front = 0xd2 ∷ []; back = 0x07 ∷ []; opcode = (refl, refl); carried = (0x07 ∷ [], [], last 32 7 7 (lit< tt) (lit< tt) refl, refl, refl); whole = refl },
    (0x0b ∷ [], [], record { canonical = refl; front = 0x0b ∷ []; back = []; opcode = (refl, refl); carried = refl; whole = refl }, refl, refl),
    refl,
  );
}

pub names_worked : NamesWorked
names_worked = record {
  indices = λ after h. h (record { mode = declared; items = functions (2 ∷ 0 ∷ []) }) tt refl;
  reference = λ after h. h (record { mode = declared; items = expressions funcref (seven ∷ []) }) tt (refl, (seventh_spelled everything, tt));
  offset = λ after h. h (record { mode = active None seven; items = functions (1 ∷ []) }) (refl, seventh_spelled everything) refl;
  nothing_else = λ after h. h (record { mode = active None five; items = functions (0 ∷ []) }) (refl, short_spelled everything) refl;
}

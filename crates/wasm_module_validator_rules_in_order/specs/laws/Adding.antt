-- A section is added item by item exactly where it is valid and within the limits as a whole.
use Rattle.std.proofs.Common.{◌≡◌, ℕ, List, [], ◌∷◌, ◌++◌, length, Option, Some, None, refl, sym, ap, ◌∙◌, subst}
use Rattle.std.specs.Prelude.{◌↔◌}
use Rattle.wasm_types.specs.settings.Settings.{Settings}
use Rattle.wasm_module_validator_rules.specs.Syntax.{ModuleTree}
use Rattle.wasm_module_validator_rules.specs.Valid.{IsValidMemoryType}
use Rattle.wasm_module_validator_rules_in_order.specs.contexts.InOrder.{imports_read, functions_read, tables_read, memories_read, tags_read, globals_read, exports_read, elements_read, InTurn}
use Rattle.wasm_module_validator_rules_in_order.specs.contexts.laws.Lists.{in_turn, from_turn}
use Rattle.wasm_module_validator_rules_in_order.specs.Sections.{Section, Item, items, as_list, adding, before, up_to, IsUnread}
use Rattle.wasm_module_validator_rules_in_order.specs.Sections as section
use Rattle.wasm_module_validator_rules_in_order.specs.Adding.{IsValidNext, IsValidSection, IsWithinNext, Fits, Adds, AddsEach, IsWithItems}
use Rattle.wasm_module_validator_rules_in_order.specs.laws.Turns.{each_opened, each_closed}
use Rattle.wasm_module_validator_rules_in_order.specs.laws.Groups.{groups_from_turn, groups_in_turn}
use Rattle.wasm_module_validator_rules_in_order.specs.laws.Limits.{IsWithin, groups_read, types_go, types_come, functions_go, functions_come, tables_go, tables_come, memories_go, memories_come}
use Rattle.wasm_module_validator_rules_in_order.specs.laws.Limits.{tags_go, tags_come, globals_go, globals_come, elements_go, elements_come, segments_read, segments_go, segments_come, exports_go, exports_come}
use Rattle.wasm_module_validator_rules_in_order.specs.laws.Imports.{imports_go, imports_come}

-- ---- sections of items

-- How a section of items stands in a module: `put` is what stands before it in a module, and these items.
record IsOfItems (s : Section) (put : ModuleTree → List (Item s) → ModuleTree) : Type 0 where
  begins : (k : ModuleTree) → before s k ≡ put k []
  ends : (k : ModuleTree) → up_to s k ≡ put k (items s k)
  kept : (k : ModuleTree) (xs : List (Item s)) → before s (put k xs) ≡ before s k
  whole : (k : ModuleTree) (xs : List (Item s)) → up_to s (put k xs) ≡ put k xs
  holds : (k : ModuleTree) (xs : List (Item s)) → items s (put k xs) ≡ xs
  step : (k : ModuleTree) (xs : List (Item s)) (x : Item s) → adding s (put k xs) x ≡ put k (xs ++ x ∷ [])

-- How it is judged: it is valid exactly where each item is in turn; and within the limits exactly where it may begin, and each item is in
-- turn.
record IsInTurn (z : Settings) (s : Section) (put : ModuleTree → List (Item s) → ModuleTree) : Type 0 where
  valid_from : (k : ModuleTree) (xs : List (Item s)) → InTurn (λ b x. IsValidNext z s (put k b) x) [] xs → IsValidSection z s (put k xs)
  valid_in : (k : ModuleTree) (xs : List (Item s)) → IsValidSection z s (put k xs) → InTurn (λ b x. IsValidNext z s (put k b) x) [] xs
  goes : (k : ModuleTree) (xs : List (Item s)) → IsWithin z (put k []) → Fits z s (put k []) (length xs) → InTurn (λ b x. IsWithinNext z s (put k b) x) [] xs → IsWithin z (put k xs)
  comes : (k : ModuleTree) (xs : List (Item s)) → IsWithin z (put k xs) → Fits z s (put k []) (length xs) × InTurn (λ b x. IsWithinNext z s (put k b) x) [] xs

module _ (z : Settings) (s : Section) (put : ModuleTree → List (Item s) → ModuleTree) (o : IsOfItems s put) (w : IsInTurn z s put) where
  opened : (k : ModuleTree) (l : List (Item s)) (x : Item s) (n : ModuleTree) → Adds z s (put k l) x n
      → IsValidNext z s (put k l) x × IsWithinNext z s (put k l) x × (n ≡ put k (l ++ x ∷ []))
  opened k l x n h = (h.valid, h.within, h.added ∙ o.step k l x)

  closed : (k : ModuleTree) (l : List (Item s)) (x : Item s) → IsValidNext z s (put k l) x → IsWithinNext z s (put k l) x → Adds z s (put k l) x (put k (l ++ x ∷ []))
  closed k l x v r = record { valid = v; within = r; added = sym (o.step k l x) }

  items_go : (m n : ModuleTree) (xs : List (Item s)) → IsUnread s m → IsWithin z m → Fits z s m (length xs) → AddsEach (Adds z s) m xs n → IsWithItems z s m xs n
  items_go m n xs e wm f h =
      let start = e ∙ o.begins m in
      let there_all = subst (λ t. AddsEach (Adds z s) t xs n) start h in
      let a = each_opened (put m) (λ b x. IsValidNext z s (put m b) x) (λ b x. IsWithinNext z s (put m b) x) (Adds z s) (opened m) (closed m) [] xs n there_all in
      let there : IsWithItems z s m xs (put m xs) = record {
        added = record { kept = e ∙ sym (o.kept m xs); last = sym (o.whole m xs) };
        holds = o.holds m xs;
        valid = w.valid_from m xs a.0;
        within = w.goes m xs (subst (IsWithin z) start wm) (subst (λ t. Fits z s t (length xs)) start f) a.1;
      } in
      subst (IsWithItems z s m xs) (sym a.2) there

  items_come : (m n : ModuleTree) (xs : List (Item s)) → IsWithItems z s m xs n → Fits z s m (length xs) × AddsEach (Adds z s) m xs n
  items_come m n xs r =
      let end = r.added.last ∙ (o.ends n ∙ ap (put n) r.holds) in
      let start = r.added.kept ∙ o.begins n in
      let valid = w.valid_in n xs (subst (IsValidSection z s) end r.valid) in
      let within = w.comes n xs (subst (IsWithin z) end r.within) in
      let h = each_closed (put n) (λ b x. IsValidNext z s (put n b) x) (λ b x. IsWithinNext z s (put n b) x) (Adds z s) (opened n) (closed n) [] xs valid within.1 in
      let ended = subst (λ t. AddsEach (Adds z s) (put n []) xs t) (sym end) h in
      (subst (λ t. Fits z s t (length xs)) (sym start) within.0, subst (λ t. AddsEach (Adds z s) t xs n) (sym start) ended)

  items_both : (m n : ModuleTree) (xs : List (Item s)) → IsUnread s m → IsWithin z m → (Fits z s m (length xs) × AddsEach (Adds z s) m xs n) ↔ IsWithItems z s m xs n
  items_both m n xs e wm = (λ h. items_go m n xs e wm h.0 h.1, items_come m n xs)

-- ---- sections of one number

-- How a section of one number stands in a module.
record IsOfOne (s : Section) (get : ModuleTree → Option (Item s)) (put : ModuleTree → Option (Item s) → ModuleTree) : Type 0 where
  begins : (k : ModuleTree) → before s k ≡ put k None
  ends : (k : ModuleTree) → up_to s k ≡ put k (get k)
  kept : (k : ModuleTree) (x : Option (Item s)) → before s (put k x) ≡ before s k
  whole : (k : ModuleTree) (x : Option (Item s)) → up_to s (put k x) ≡ put k x
  holds : (k : ModuleTree) → items s k ≡ as_list (get k)
  gets : (k : ModuleTree) (x : Option (Item s)) → get (put k x) ≡ x
  step : (k : ModuleTree) (x : Item s) → adding s (put k None) x ≡ put k (Some x)

-- How it is judged.
record IsOnce (z : Settings) (s : Section) (put : ModuleTree → Option (Item s) → ModuleTree) : Type 0 where
  none : (k : ModuleTree) → IsValidSection z s (put k None)
  valid_from : (k : ModuleTree) (x : Item s) → IsValidNext z s (put k None) x → IsValidSection z s (put k (Some x))
  valid_in : (k : ModuleTree) (x : Item s) → IsValidSection z s (put k (Some x)) → IsValidNext z s (put k None) x
  taken : (k : ModuleTree) (x y : Item s) → IsWithinNext z s (put k (Some x)) y → ⊥
  goes : (k : ModuleTree) (x : Item s) → IsWithin z (put k None) → IsWithinNext z s (put k None) x → IsWithin z (put k (Some x))
  comes : (k : ModuleTree) (x : Item s) → IsWithin z (put k (Some x)) → IsWithinNext z s (put k None) x
  fits : (k : ModuleTree) (n : ℕ) → Fits z s k n

module _ (z : Settings) (s : Section) (get : ModuleTree → Option (Item s)) (put : ModuleTree → Option (Item s) → ModuleTree) (o : IsOfOne s get put) (w : IsOnce z s put) where
  one_there : (m : ModuleTree) (x : Option (Item s)) → IsUnread s m → IsValidSection z s (put m x) → IsWithin z (put m x) → IsWithItems z s m (as_list x) (put m x)
  one_there m x e v l = record {
    added = record { kept = e ∙ sym (o.kept m x); last = sym (o.whole m x) };
    holds = o.holds (put m x) ∙ ap as_list (o.gets m x);
    valid = v;
    within = l;
  }

  one_goes : (m n : ModuleTree) (xs : List (Item s)) → IsUnread s m → IsWithin z m → AddsEach (Adds z s) m xs n → IsWithItems z s m xs n
  one_goes m n [] e wm h =
      let start = e ∙ o.begins m in
      subst (IsWithItems z s m []) (sym start ∙ h) (one_there m None e (w.none m) (subst (IsWithin z) start wm))
  one_goes m n (x ∷ []) e wm h =
      let start = e ∙ o.begins m in
      let a = subst (λ t. Adds z s t x h.0) start h.1 in
      let end = sym (o.step m x) ∙ (sym a.added ∙ h.2) in
      subst (IsWithItems z s m (x ∷ [])) end (one_there m (Some x) e (w.valid_from m x a.valid) (w.goes m x (subst (IsWithin z) start wm) a.within))
  one_goes m n (x ∷ y ∷ ys) e wm h =
      let start = e ∙ o.begins m in
      let a = subst (λ t. Adds z s t x h.0) start h.1 in
      absurd (w.taken m x y (subst (λ t. IsWithinNext z s t y) (a.added ∙ o.step m x) h.2.1.within))

  one_comes_by : (m n : ModuleTree) (xs : List (Item s)) (x : Option (Item s)) → x ≡ get n → IsWithItems z s m xs n → AddsEach (Adds z s) m (as_list x) n
  one_comes_by m n xs None e r =
      let start = r.added.kept ∙ o.begins n in
      start ∙ (ap (put n) e ∙ (sym (o.ends n) ∙ sym r.added.last))
  one_comes_by m n xs (Some x) e r =
      let start = r.added.kept ∙ o.begins n in
      let end = r.added.last ∙ (o.ends n ∙ ap (put n) (sym e)) in
      let here : Adds z s (put n None) x n = record {
        valid = w.valid_in n x (subst (IsValidSection z s) end r.valid);
        within = w.comes n x (subst (IsWithin z) end r.within);
        added = end ∙ sym (o.step n x);
      } in
      (n, subst (λ t. Adds z s t x n) (sym start) here, refl)

  one_comes : (m n : ModuleTree) (xs : List (Item s)) → IsWithItems z s m xs n → Fits z s m (length xs) × AddsEach (Adds z s) m xs n
  one_comes m n xs r = (w.fits m (length xs), subst (λ l. AddsEach (Adds z s) m l n) (sym (o.holds n) ∙ r.holds) (one_comes_by m n xs (get n) refl r))

  one_both : (m n : ModuleTree) (xs : List (Item s)) → IsUnread s m → IsWithin z m → (Fits z s m (length xs) × AddsEach (Adds z s) m xs n) ↔ IsWithItems z s m xs n
  one_both m n xs e wm = (λ h. one_goes m n xs e wm h.1, one_comes m n xs)

-- ---- each section

abbrev types_put : ModuleTree → List (Item section.types) → ModuleTree
types_put k xs = groups_read xs

types_are : IsOfItems section.types types_put
types_are = record { begins = λ k. refl; ends = λ k. refl; kept = λ k xs. refl; whole = λ k xs. refl; holds = λ k xs. refl; step = λ k xs x. refl }

types_turn : (z : Settings) → IsInTurn z section.types types_put
types_turn z = record {
  valid_from = λ k. groups_from_turn z;
  valid_in = λ k. groups_in_turn z;
  goes = λ k. types_go z;
  comes = λ k. types_come z;
}

imports_are : IsOfItems section.imports imports_read
imports_are = record { begins = λ k. refl; ends = λ k. refl; kept = λ k xs. refl; whole = λ k xs. refl; holds = λ k xs. refl; step = λ k xs x. refl }

imports_turn : (z : Settings) → IsInTurn z section.imports imports_read
imports_turn z = record { valid_from = λ k xs h. h; valid_in = λ k xs h. h; goes = imports_go z; comes = imports_come z }

functions_are : IsOfItems section.functions functions_read
functions_are = record { begins = λ k. refl; ends = λ k. refl; kept = λ k xs. refl; whole = λ k xs. refl; holds = λ k xs. refl; step = λ k xs x. refl }

functions_turn : (z : Settings) → IsInTurn z section.functions functions_read
functions_turn z = record { valid_from = λ k xs h. h; valid_in = λ k xs h. h; goes = λ k xs w f h. functions_go z k xs w f; comes = functions_come z }

tables_are : IsOfItems section.tables tables_read
tables_are = record { begins = λ k. refl; ends = λ k. refl; kept = λ k xs. refl; whole = λ k xs. refl; holds = λ k xs. refl; step = λ k xs x. refl }

tables_turn : (z : Settings) → IsInTurn z section.tables tables_read
tables_turn z = record { valid_from = λ k xs h. h; valid_in = λ k xs h. h; goes = λ k xs w f h. tables_go z k xs w f; comes = tables_come z }

memories_are : IsOfItems section.memories memories_read
memories_are = record { begins = λ k. refl; ends = λ k. refl; kept = λ k xs. refl; whole = λ k xs. refl; holds = λ k xs. refl; step = λ k xs x. refl }

memories_turn : (z : Settings) → IsInTurn z section.memories memories_read
memories_turn z = record {
  valid_from = λ k xs h. from_turn xs (IsValidMemoryType z) (λ b x. IsValidMemoryType z x) (λ b rest x e v. v) [] xs refl h;
  valid_in = λ k xs h. in_turn xs (IsValidMemoryType z) (λ b x. IsValidMemoryType z x) (λ b rest x e v. v) [] xs refl h;
  goes = λ k xs w f h. memories_go z k xs w f;
  comes = memories_come z;
}

tags_are : IsOfItems section.tags tags_read
tags_are = record { begins = λ k. refl; ends = λ k. refl; kept = λ k xs. refl; whole = λ k xs. refl; holds = λ k xs. refl; step = λ k xs x. refl }

tags_turn : (z : Settings) → IsInTurn z section.tags tags_read
tags_turn z = record { valid_from = λ k xs h. h; valid_in = λ k xs h. h; goes = λ k xs w f h. tags_go z k xs w f; comes = tags_come z }

globals_are : IsOfItems section.globals globals_read
globals_are = record { begins = λ k. refl; ends = λ k. refl; kept = λ k xs. refl; whole = λ k xs. refl; holds = λ k xs. refl; step = λ k xs x. refl }

globals_turn : (z : Settings) → IsInTurn z section.globals globals_read
globals_turn z = record { valid_from = λ k xs h. h; valid_in = λ k xs h. h; goes = λ k xs w f h. globals_go z k xs w f; comes = globals_come z }

exports_are : IsOfItems section.exports exports_read
exports_are = record { begins = λ k. refl; ends = λ k. refl; kept = λ k xs. refl; whole = λ k xs. refl; holds = λ k xs. refl; step = λ k xs x. refl }

exports_turn : (z : Settings) → IsInTurn z section.exports exports_read
exports_turn z = record { valid_from = λ k xs h. h; valid_in = λ k xs h. h; goes = exports_go z; comes = exports_come z }

elements_are : IsOfItems section.element_segments elements_read
elements_are = record { begins = λ k. refl; ends = λ k. refl; kept = λ k xs. refl; whole = λ k xs. refl; holds = λ k xs. refl; step = λ k xs x. refl }

elements_turn : (z : Settings) → IsInTurn z section.element_segments elements_read
elements_turn z = record { valid_from = λ k xs h. h; valid_in = λ k xs h. h; goes = λ k xs w f h. elements_go z k xs w f; comes = elements_come z }

segments_are : IsOfItems section.data_segments segments_read
segments_are = record { begins = λ k. refl; ends = λ k. refl; kept = λ k xs. refl; whole = λ k xs. refl; holds = λ k xs. refl; step = λ k xs x. refl }

segments_turn : (z : Settings) → IsInTurn z section.data_segments segments_read
segments_turn z = record { valid_from = λ k xs h. h; valid_in = λ k xs h. h; goes = λ k xs w f h. segments_go z k xs w f; comes = segments_come z }

abbrev start_put : ModuleTree → Option ℕ → ModuleTree
start_put k x = record (exports_read k k.exports) { start = x }

start_is : IsOfOne section.start (λ k. k.start) start_put
start_is = record { begins = λ k. refl; ends = λ k. refl; kept = λ k x. refl; whole = λ k x. refl; holds = λ k. refl; gets = λ k x. refl; step = λ k x. refl }

no_some : {A : Type 0} (x : A) → Some x ≡ None → ⊥
no_some x e = cc

start_once : (z : Settings) → IsOnce z section.start start_put
start_once z = record {
  none = λ k. tt;
  valid_from = λ k x h. h;
  valid_in = λ k x h. h;
  taken = λ k x y h. no_some x h;
  goes = λ k x w h. search (w);
  comes = λ k x w. refl;
  fits = λ k n. tt;
}

abbrev count_put : ModuleTree → Option ℕ → ModuleTree
count_put k x = record (elements_read k k.element_segments) { data_count = x }

count_is : IsOfOne section.data_count (λ k. k.data_count) count_put
count_is = record { begins = λ k. refl; ends = λ k. refl; kept = λ k x. refl; whole = λ k x. refl; holds = λ k. refl; gets = λ k x. refl; step = λ k x. refl }

count_once : (z : Settings) → IsOnce z section.data_count count_put
count_once z = record {
  none = λ k. tt;
  valid_from = λ k x h. h;
  valid_in = λ k x h. h;
  taken = λ k x y h. no_some x h.0;
  goes = λ k x w h. search (h, w);
  comes = λ k x w. (refl, w.data_count);
  fits = λ k n. tt;
}

-- ---- all of them

pub section_added : (z : Settings) (s : Section) (m n : ModuleTree) (xs : List (Item s)) → IsUnread s m → IsWithin z m
    → (Fits z s m (length xs) × AddsEach (Adds z s) m xs n) ↔ IsWithItems z s m xs n
section_added z section.types m n xs e w = items_both z section.types types_put types_are (types_turn z) m n xs e w
section_added z section.imports m n xs e w = items_both z section.imports imports_read imports_are (imports_turn z) m n xs e w
section_added z section.functions m n xs e w = items_both z section.functions functions_read functions_are (functions_turn z) m n xs e w
section_added z section.tables m n xs e w = items_both z section.tables tables_read tables_are (tables_turn z) m n xs e w
section_added z section.memories m n xs e w = items_both z section.memories memories_read memories_are (memories_turn z) m n xs e w
section_added z section.tags m n xs e w = items_both z section.tags tags_read tags_are (tags_turn z) m n xs e w
section_added z section.globals m n xs e w = items_both z section.globals globals_read globals_are (globals_turn z) m n xs e w
section_added z section.exports m n xs e w = items_both z section.exports exports_read exports_are (exports_turn z) m n xs e w
section_added z section.start m n xs e w = one_both z section.start (λ k. k.start) start_put start_is (start_once z) m n xs e w
section_added z section.element_segments m n xs e w = items_both z section.element_segments elements_read elements_are (elements_turn z) m n xs e w
section_added z section.data_count m n xs e w = one_both z section.data_count (λ k. k.data_count) count_put count_is (count_once z) m n xs e w
section_added z section.data_segments m n xs e w = items_both z section.data_segments segments_read segments_are (segments_turn z) m n xs e w

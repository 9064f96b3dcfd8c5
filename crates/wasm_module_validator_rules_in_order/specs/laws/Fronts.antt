-- Fronts of a module: what stands before a section, and up to it. What a later section adds leaves them alone.
use Rattle.std.proofs.Common.{◌≡◌, ◌<◌, ◌≤◌, ◌==◌, ℕ, suc, nat_lt, Bool, true, false, if◌then◌else◌, List, [], Option, Some, None, refl, sym, ap, ◌∙◌}
use Rattle.std.proofs.Common.{subst, arith, lt-ltb, ltb-true, ltb-false}
use Rattle.std.specs.Prelude.{◌↔◌}
use Rattle.wasm_types.specs.settings.Settings.{Settings}
use Rattle.wasm_types.specs.trees.ValidGroup.{done}
use Rattle.wasm_module_validator_rules.specs.Syntax.{ModuleTree}
use Rattle.wasm_module_validator_rules.specs.Binary.{SpelledNumber}
use Rattle.wasm_module_validator_rules_in_order.specs.contexts.InOrder.{no_items}
use Rattle.wasm_module_validator_rules_in_order.specs.Sections.{Section, place, below, front, items, before, up_to, IsUnread, IsWithSection}
use Rattle.wasm_module_validator_rules_in_order.specs.Sections as section
use Rattle.wasm_module_validator_rules_in_order.specs.Adding.{IsValidSection}
use Rattle.wasm_module_validator_rules_in_order.specs.Texts.{SpelledSection}

-- ---- by places

chosen : {A : Type 0} (none x : A) (b c : Bool) → (b ≡ true → c ≡ true) → (if b then (if c then x else none) else none) ≡ (if b then x else none)
chosen none x true c f = ap (λ d. if d then x else none) (f refl)
chosen none x false c f = refl

-- a front of a front is the shorter of the two
below_twice : {A : Type 0} (none : A) (p j k : ℕ) (x : A) → j ≤ k → below none p j (below none p k x) ≡ below none p j x
below_twice none p j k x h = chosen none x (nat_lt p j) (nat_lt p k) (λ e. let l : p < j = ltb-true p j e in lt-ltb p k (omega (arith, l, h)))

chosen_so : {A : Type 0} (none x : A) (b c : Bool) → (c ≡ true → b ≡ true) → (if b then (if c then x else none) else none) ≡ (if c then x else none)
chosen_so none x true c f = refl
chosen_so none x false true f = ap (λ d. if d then x else none) (f refl)
chosen_so none x false false f = refl

below_twice_so : {A : Type 0} (none : A) (p j k : ℕ) (x : A) → j ≤ k → below none p k (below none p j x) ≡ below none p j x
below_twice_so none p j k x h = chosen_so none x (nat_lt p k) (nat_lt p j) (λ e. let l : p < j = ltb-true p j e in lt-ltb p k (omega (arith, l, h)))

pub front_twice : (j k : ℕ) (m : ModuleTree) → j ≤ k → front j (front k m) ≡ front j m
front_twice j k m h i = record {
  types = below_twice [] 1 j k m.types h i;
  imports = below_twice [] 2 j k m.imports h i;
  functions = below_twice [] 3 j k m.functions h i;
  tables = below_twice [] 4 j k m.tables h i;
  memories = below_twice [] 5 j k m.memories h i;
  tags = below_twice [] 6 j k m.tags h i;
  globals = below_twice [] 7 j k m.globals h i;
  exports = below_twice [] 8 j k m.exports h i;
  start = below_twice None 9 j k m.start h i;
  element_segments = below_twice [] 10 j k m.element_segments h i;
  data_count = below_twice None 11 j k m.data_count h i;
  code = [];
  data_segments = below_twice [] 13 j k m.data_segments h i;
}

pub front_twice_so : (j k : ℕ) (m : ModuleTree) → j ≤ k → front k (front j m) ≡ front j m
front_twice_so j k m h i = record {
  types = below_twice_so [] 1 j k m.types h i;
  imports = below_twice_so [] 2 j k m.imports h i;
  functions = below_twice_so [] 3 j k m.functions h i;
  tables = below_twice_so [] 4 j k m.tables h i;
  memories = below_twice_so [] 5 j k m.memories h i;
  tags = below_twice_so [] 6 j k m.tags h i;
  globals = below_twice_so [] 7 j k m.globals h i;
  exports = below_twice_so [] 8 j k m.exports h i;
  start = below_twice_so None 9 j k m.start h i;
  element_segments = below_twice_so [] 10 j k m.element_segments h i;
  data_count = below_twice_so None 11 j k m.data_count h i;
  code = [];
  data_segments = below_twice_so [] 13 j k m.data_segments h i;
}

below_none : {A : Type 0} (none : A) (b : Bool) → none ≡ (if b then none else none)
below_none none true = refl
below_none none false = refl

nothing_front : (k : ℕ) → no_items ≡ front k no_items
nothing_front k i = record {
  types = below_none [] (nat_lt 1 k) i;
  imports = below_none [] (nat_lt 2 k) i;
  functions = below_none [] (nat_lt 3 k) i;
  tables = below_none [] (nat_lt 4 k) i;
  memories = below_none [] (nat_lt 5 k) i;
  tags = below_none [] (nat_lt 6 k) i;
  globals = below_none [] (nat_lt 7 k) i;
  exports = below_none [] (nat_lt 8 k) i;
  start = below_none None (nat_lt 9 k) i;
  element_segments = below_none [] (nat_lt 10 k) i;
  data_count = below_none None (nat_lt 11 k) i;
  code = [];
  data_segments = below_none [] (nat_lt 13 k) i;
}

-- what stands between two places is left out, where there is nothing
skips : {A : Type 0} (none : A) (p j k : ℕ) (x : A) → (j ≤ p → p < k → x ≡ none) → j ≤ k → below none p j x ≡ below none p k x
skips none p j k x f h = by (nat_lt p j) (nat_lt p k) refl refl
  where
    by : (b c : Bool) → nat_lt p j ≡ b → nat_lt p k ≡ c → (if b then x else none) ≡ (if c then x else none)
    by true true d e = refl
    by true false d e = let l : p < j = ltb-true p j d in let g : k ≤ p = ltb-false p k e in absurd (omega (arith, l, g, h))
    by false true d e = sym (f (ltb-false p j d) (ltb-true p k e))
    by false false d e = refl

-- ---- by sections

pub no_code_up_to : (s : Section) (m : ModuleTree) → (up_to s m).code ≡ []
no_code_up_to s m = refl

-- where nothing was read, nothing of any section was
pub nothing_is_unread : (s : Section) → IsUnread s no_items
nothing_is_unread s = nothing_front (place s)

-- what stands up to a section stands before a later one
pub up_to_before : (s t : Section) (m : ModuleTree) → place s < place t → up_to s (before t m) ≡ up_to s m
up_to_before s t m l = front_twice (suc (place s)) (place t) m (omega (arith, l))

-- a section that is added changes nothing up to an earlier one
pub same_up_to : (s t : Section) (m n : ModuleTree) → place s < place t → IsWithSection t m n → up_to s m ≡ up_to s n
same_up_to s t m n l w = ap (up_to s) w.kept ∙ up_to_before s t n l

-- nothing of a later section was read
pub unread_later : (s t : Section) (m : ModuleTree) → place s < place t → IsUnread s m → IsUnread t m
unread_later s t m l e = e ∙ (sym (front_twice_so (place s) (place t) m (omega (arith, l))) ∙ ap (front (place t)) (sym e))

pub unread_behind : (s t : Section) (m n : ModuleTree) → place s < place t → IsWithSection s m n → IsUnread t n
unread_behind s t m n l w = w.last ∙ (sym (front_twice_so (suc (place s)) (place t) n (omega (arith, l))) ∙ ap (front (place t)) (sym w.last))

-- ---- places are of one section each

section_at : ℕ → Section
section_at n = if n == 1 then section.types else (if n == 2 then section.imports else (if n == 3 then section.functions else (if n == 4 then section.tables else
    (if n == 5 then section.memories else (if n == 6 then section.tags else (if n == 7 then section.globals else (if n == 8 then section.exports else
    (if n == 9 then section.start else (if n == 10 then section.element_segments else (if n == 11 then section.data_count else section.data_segments))))))))))

section_of_place : (s : Section) → section_at (place s) ≡ s
unfolding section_at
section_of_place section.types = refl
section_of_place section.imports = refl
section_of_place section.functions = refl
section_of_place section.tables = refl
section_of_place section.memories = refl
section_of_place section.tags = refl
section_of_place section.globals = refl
section_of_place section.exports = refl
section_of_place section.start = refl
section_of_place section.element_segments = refl
section_of_place section.data_count = refl
section_of_place section.data_segments = refl

pub one_place : (s t : Section) → place s ≡ place t → s ≡ t
one_place s t e = sym (section_of_place s) ∙ (ap section_at e ∙ section_of_place t)

-- ---- a section looks at what stands up to it

pub valid_up_to : (z : Settings) (s : Section) (m : ModuleTree) → IsValidSection z s m ↔ IsValidSection z s (up_to s m)
valid_up_to z section.types m = (λ h. h, λ h. h)
valid_up_to z section.imports m = (λ h. h, λ h. h)
valid_up_to z section.functions m = (λ h. h, λ h. h)
valid_up_to z section.tables m = (λ h. h, λ h. h)
valid_up_to z section.memories m = (λ h. h, λ h. h)
valid_up_to z section.tags m = (λ h. h, λ h. h)
valid_up_to z section.globals m = (λ h. h, λ h. h)
valid_up_to z section.exports m = (λ h. h, λ h. h)
valid_up_to z section.start m = (λ h. h, λ h. h)
valid_up_to z section.element_segments m = (λ h. h, λ h. h)
valid_up_to z section.data_count m = (λ h. h, λ h. h)
valid_up_to z section.data_segments m = (λ h. h, λ h. h)

pub spelled_up_to : (z : Settings) (s : Section) (m : ModuleTree) (o : Option (List ℕ)) → SpelledSection z s m o ↔ SpelledSection z s (up_to s m) o
spelled_up_to z section.types m o = (λ h. h, λ h. h)
spelled_up_to z section.imports m o = (λ h. h, λ h. h)
spelled_up_to z section.functions m o = (λ h. h, λ h. h)
spelled_up_to z section.tables m o = (λ h. h, λ h. h)
spelled_up_to z section.memories m o = (λ h. h, λ h. h)
spelled_up_to z section.tags m o = (λ h. h, λ h. h)
spelled_up_to z section.globals m o = (λ h. h, λ h. h)
spelled_up_to z section.exports m o = (λ h. h, λ h. h)
spelled_up_to z section.start m o = (λ h. h, λ h. h)
spelled_up_to z section.element_segments m o = (λ h. h, λ h. h)
spelled_up_to z section.data_count m o = (λ h. h, λ h. h)
spelled_up_to z section.data_segments m o = (λ h. h, λ h. h)

pub items_up_to : (s : Section) (m : ModuleTree) → items s m ≡ items s (up_to s m)
items_up_to section.types m = refl
items_up_to section.imports m = refl
items_up_to section.functions m = refl
items_up_to section.tables m = refl
items_up_to section.memories m = refl
items_up_to section.tags m = refl
items_up_to section.globals m = refl
items_up_to section.exports m = refl
items_up_to section.start m = refl
items_up_to section.element_segments m = refl
items_up_to section.data_count m = refl
items_up_to section.data_segments m = refl

module _ (z : Settings) (s t : Section) (m n : ModuleTree) (l : place s < place t) (w : IsWithSection t m n) where
  pub valid_stays : IsValidSection z s m ↔ IsValidSection z s n
  valid_stays = (
    λ h. (valid_up_to z s n).1 (subst (IsValidSection z s) (same_up_to s t m n l w) ((valid_up_to z s m).0 h)),
    λ h. (valid_up_to z s m).1 (subst (IsValidSection z s) (sym (same_up_to s t m n l w)) ((valid_up_to z s n).0 h)),
  )

  pub spelled_stays : (o : Option (List ℕ)) → SpelledSection z s m o ↔ SpelledSection z s n o
  spelled_stays o = (
    λ h. (spelled_up_to z s n o).1 (subst (λ k. SpelledSection z s k o) (same_up_to s t m n l w) ((spelled_up_to z s m o).0 h)),
    λ h. (spelled_up_to z s m o).1 (subst (λ k. SpelledSection z s k o) (sym (same_up_to s t m n l w)) ((spelled_up_to z s n o).0 h)),
  )

pub items_stay : (s t : Section) (m n : ModuleTree) → place s < place t → IsWithSection t m n → items s m ≡ items s n
items_stay s t m n l w = items_up_to s m ∙ (ap (items s) (same_up_to s t m n l w) ∙ sym (items_up_to s n))

-- a section of which nothing was read has no items, and is valid; absent it is spelled
empty_is_valid : (z : Settings) (s : Section) (m : ModuleTree) → IsValidSection z s (before s m)
empty_is_valid z section.types m = done
empty_is_valid z section.imports m = tt
empty_is_valid z section.functions m = tt
empty_is_valid z section.tables m = tt
empty_is_valid z section.memories m = tt
empty_is_valid z section.tags m = tt
empty_is_valid z section.globals m = tt
empty_is_valid z section.exports m = tt
empty_is_valid z section.start m = tt
empty_is_valid z section.element_segments m = tt
empty_is_valid z section.data_count m = tt
empty_is_valid z section.data_segments m = tt

pub unread_is_valid : (z : Settings) (s : Section) (m : ModuleTree) → IsUnread s m → IsValidSection z s m
unread_is_valid z s m e = subst (IsValidSection z s) (sym e) (empty_is_valid z s m)

empty_is_spelled : (z : Settings) (s : Section) (m : ModuleTree) → SpelledSection z s (before s m) None
empty_is_spelled z section.types m = refl
empty_is_spelled z section.imports m = refl
empty_is_spelled z section.functions m = refl
empty_is_spelled z section.tables m = refl
empty_is_spelled z section.memories m = refl
empty_is_spelled z section.tags m = (refl, tt)
empty_is_spelled z section.globals m = refl
empty_is_spelled z section.exports m = refl
empty_is_spelled z section.start m = tt
empty_is_spelled z section.element_segments m = refl
empty_is_spelled z section.data_count m = tt
empty_is_spelled z section.data_segments m = refl

pub unread_is_spelled : (z : Settings) (s : Section) (m : ModuleTree) → IsUnread s m → SpelledSection z s m None
unread_is_spelled z s m e = subst (λ k. SpelledSection z s k None) (sym e) (empty_is_spelled z s m)

number_absent : (o : Option ℕ) → SpelledNumber o None → o ≡ None
number_absent None h = refl
number_absent (Some n) h = absurd h

-- so a front reaches as far as the next section that is there
pub absent_between : (z : Settings) (j k : ℕ) (m : ModuleTree) → j ≤ k → ((s : Section) → j ≤ place s → place s < k → SpelledSection z s m None)
    → front j m ≡ front k m
absent_between z j k m h f i = record {
  types = skips [] 1 j k m.types (f section.types) h i;
  imports = skips [] 2 j k m.imports (f section.imports) h i;
  functions = skips [] 3 j k m.functions (f section.functions) h i;
  tables = skips [] 4 j k m.tables (f section.tables) h i;
  memories = skips [] 5 j k m.memories (f section.memories) h i;
  tags = skips [] 6 j k m.tags (λ p q. (f section.tags p q).0) h i;
  globals = skips [] 7 j k m.globals (f section.globals) h i;
  exports = skips [] 8 j k m.exports (f section.exports) h i;
  start = skips None 9 j k m.start (λ p q. number_absent m.start (f section.start p q)) h i;
  element_segments = skips [] 10 j k m.element_segments (f section.element_segments) h i;
  data_count = skips None 11 j k m.data_count (λ p q. number_absent m.data_count (f section.data_count p q)) h i;
  code = [];
  data_segments = skips [] 13 j k m.data_segments (f section.data_segments) h i;
}

-- an absent section adds nothing
pub absent_adds_nothing : (z : Settings) (s : Section) (m : ModuleTree) → SpelledSection z s m None → up_to s m ≡ before s m
absent_adds_nothing z s m h = sym (absent_between z (place s) (suc (place s)) m (omega arith)
    (λ t p q. let e : place s ≡ place t = omega (arith, p, q) in subst (λ u. SpelledSection z u m None) (one_place s t e) h))

-- What is known of frames that were judged one after the other.
use Rattle.std.proofs.Common.{◌≡◌, ◌<◌, ◌≤◌, ◌⊎◌, ℕ, List, [], ◌∷◌, ◌++◌, length, Some, refl, sym, ap, ◌∙◌, subst, inl, inr, arith}
use Rattle.std.specs.Prelude.{◌↔◌, suc}
use Rattle.std.specs.List.{AllZip}
use Rattle.std.proofs.lemmas.Bool.{cases_order}
use Rattle.std.proofs.lemmas.List.{length_push}
use Rattle.std.proofs.lemmas.Option.{slice_get_within}
use Rattle.wasm_types.specs.settings.Settings.{Settings}
use Rattle.wasm_sections_parser.specs.Steps.{Shape, version, custom, code, entry, the_end}
use Rattle.wasm_sections_parser.specs.Steps as frame
use Rattle.wasm_module_validator_rules.specs.Syntax.{Function, ModuleTree}
use Rattle.wasm_module_validator_rules.specs.Spaces.{module_of}
use Rattle.wasm_module_validator_rules.specs.Binary.{SpelledFunction, SpelledSections, SpelledSectionsWith, SpelledCode, contents, entries_of}
use Rattle.wasm_module_validator_rules.specs.Valid.{Each, HasValidBody, IsWithinLimits}
use Rattle.wasm_module_validator_rules_in_order.specs.contexts.InOrder.{no_items, IsValidInOrder, IsValidInOrderWith}
use Rattle.wasm_module_validator_rules_in_order.specs.contexts.laws.Lists.{each_joined}
use Rattle.wasm_module_validator_rules_in_order.specs.Sections.{Section, number, place, code_place, items, before, up_to, IsUnread}
use Rattle.wasm_module_validator_rules_in_order.specs.Sections as section
use Rattle.wasm_module_validator_rules_in_order.specs.Adding.{IsValidSection}
use Rattle.wasm_module_validator_rules_in_order.specs.Texts.{SpelledSection}
use Rattle.wasm_module_validator_rules_in_order.specs.Steps.{SoFar, nothing, JudgesSection, JudgesBody, JudgesShape, JudgesShapes, IsJudged}
use Rattle.wasm_module_validator_rules_in_order.specs.laws.Fronts.{front_twice, no_code_up_to, nothing_is_unread, same_up_to, unread_behind, one_place, valid_up_to, spelled_up_to}
use Rattle.wasm_module_validator_rules_in_order.specs.laws.Fronts.{valid_stays, items_stay, unread_is_valid}
use Rattle.wasm_module_validator_rules_in_order.specs.laws.Within.{nothing_is_within, within_up_to}

-- ---- one after the other

module _ (z : Settings) where
  pub judged_joined : (xs ys : List Shape) (p r q : SoFar) → JudgesShapes z p xs r → JudgesShapes z r ys q → JudgesShapes z p (xs ++ ys) q
  judged_joined [] ys p r q h k = subst (λ s. JudgesShapes z s ys q) (sym h) k
  judged_joined (x ∷ xs) ys p r q h k = (h.0, h.1, judged_joined xs ys h.0 r q h.2 k)

  pub judged_split : (xs ys : List Shape) (p q : SoFar) → JudgesShapes z p (xs ++ ys) q → (r : SoFar) × JudgesShapes z p xs r × JudgesShapes z r ys q
  judged_split [] ys p q h = (p, refl, h)
  judged_split (x ∷ xs) ys p q h =
      let rest = judged_split xs ys h.0 q h.2 in
      (rest.0, (h.0, h.1, rest.1), rest.2)

  -- ---- what is known

  pub nothing_is_judged : IsJudged z nothing
  nothing_is_judged = record {
    valid = λ s. unread_is_valid z s no_items (nothing_is_unread s);
    within = nothing_is_within z;
    unread = λ s l. nothing_is_unread s;
    no_code = refl;
    no_more = omega arith;
    bodies = tt;
    none = λ l. refl;
  }

  section_keeps : (p q : SoFar) (s : Section) (text : List ℕ) → IsJudged z p → JudgesSection z p s text q → IsJudged z q
  section_keeps p q s text h j = record {
    valid = λ t. valid t (cases_order (place t) (place s));
    within = j.within;
    unread = λ t l. unread_behind s t p.tree q.tree (omega (arith, l, j.last)) j.added;
    no_code = ap (λ (m : ModuleTree). m.code) j.added.last ∙ no_code_up_to s q.tree;
    no_more = no_more (cases_order p.last code_place);
    bodies = subst (Each (λ (t : List ℕ). length t ≤ z.limits.body_bytes)) (sym j.bodies) h.bodies;
    none = λ l. j.bodies ∙ h.none (omega (arith, l, j.last, j.ordered));
  }
    where
      valid : (t : Section) → (place t ≡ place s) ⊎ ((place t < place s) ⊎ (place s < place t)) → IsValidSection z t q.tree
      valid t (inl e) = subst (λ u. IsValidSection z u q.tree) (sym (one_place t s e)) j.valid
      valid t (inr (inl l)) = (valid_stays z t s p.tree q.tree l j.added).0 (h.valid t)
      valid t (inr (inr l)) = unread_is_valid z t q.tree (unread_behind s t p.tree q.tree l j.added)

      none_yet : p.last < code_place → length q.bodies ≤ length q.tree.functions
      none_yet l = let e : length q.bodies ≡ 0 = ap length (j.bodies ∙ h.none l) in omega (arith, e)

      same : code_place ≤ p.last → length q.bodies ≤ length q.tree.functions
      same l =
          let behind : place section.functions < place s = omega (arith, l, j.ordered) in
          let functions = items_stay section.functions s p.tree q.tree behind j.added in
          omega (arith, h.no_more, ap length j.bodies, ap length functions)

      no_more : (p.last ≡ code_place) ⊎ ((p.last < code_place) ⊎ (code_place < p.last)) → length q.bodies ≤ length q.tree.functions
      no_more (inl e) = same (omega (arith, e))
      no_more (inr (inl l)) = none_yet l
      no_more (inr (inr l)) = same (omega (arith, l))

  code_keeps : (p : SoFar) → IsJudged z p → p.last < code_place → IsJudged z (record p { last = code_place })
  code_keeps p h l = record {
    valid = h.valid;
    within = h.within;
    unread = λ s k. h.unread s (omega (arith, l, k));
    no_code = h.no_code;
    no_more = h.no_more;
    bodies = h.bodies;
    none = λ k. absurd (omega (arith, k));
  }

  body_keeps : (p q : SoFar) (text : List ℕ) → IsJudged z p → JudgesBody z p text q → IsJudged z q
  body_keeps p q text h j = subst (IsJudged z) (sym j.added) there
    where
      there : IsJudged z (record p { bodies = p.bodies ++ text ∷ [] })
      there = record {
        valid = h.valid;
        within = h.within;
        unread = h.unread;
        no_code = h.no_code;
        no_more = omega (arith, slice_get_within p.tree.functions (length p.bodies) j.type j.function, length_push p.bodies text);
        bodies = each_joined (λ (t : List ℕ). length t ≤ z.limits.body_bytes) p.bodies (text ∷ []) h.bodies (j.within, tt);
        none = λ k. absurd (omega (arith, k, j.begun));
      }

  pub shape_keeps : (x : Shape) (p q : SoFar) → IsJudged z p → JudgesShape z p x q → IsJudged z q
  shape_keeps (version v) p q h j = subst (IsJudged z) (sym j.2) h
  shape_keeps (custom name content) p q h j = subst (IsJudged z) (sym j) h
  shape_keeps (frame.section id text) p q h j = section_keeps p q j.0 text h j.2
  shape_keeps (code count size) p q h j = subst (IsJudged z) (sym j.1) (code_keeps p h j.0)
  shape_keeps (entry text) p q h j = body_keeps p q text h j
  shape_keeps the_end p q h j = subst (IsJudged z) (sym j) h

  pub shapes_keep : (xs : List Shape) (p q : SoFar) → IsJudged z p → JudgesShapes z p xs q → IsJudged z q
  shapes_keep [] p q h j = subst (IsJudged z) j h
  shapes_keep (x ∷ xs) p q h j = shapes_keep xs j.0 q (shape_keeps x p j.0 h j.1) j.2

  -- ---- what was read stays

  -- up to a section that was read, and no place is taken back
  abbrev Stays : SoFar → SoFar → Type 0
  Stays p q = (p.last ≤ q.last) × ((s : Section) → place s ≤ p.last → up_to s p.tree ≡ up_to s q.tree)

  itself_stays : (p q : SoFar) → q ≡ p → Stays p q
  itself_stays p q e = subst (Stays p) (sym e) (omega arith, λ s l. refl)

  shape_stays : (x : Shape) (p q : SoFar) → JudgesShape z p x q → Stays p q
  shape_stays (version v) p q j = itself_stays p q j.2
  shape_stays (custom name content) p q j = itself_stays p q j
  shape_stays (frame.section id text) p q j =
      let t = j.0 in let d = j.2 in
      (omega (arith, d.ordered, d.last), λ s l. same_up_to s t p.tree q.tree (omega (arith, l, d.ordered)) d.added)
  shape_stays (code count size) p q j = subst (Stays p) (sym j.1) (omega (arith, j.0), λ s l. refl)
  shape_stays (entry text) p q j = subst (Stays p) (sym j.added) (omega arith, λ s l. refl)
  shape_stays the_end p q j = itself_stays p q j

  pub shapes_stay : (xs : List Shape) (p q : SoFar) → JudgesShapes z p xs q → (p.last ≤ q.last) × ((s : Section) → place s ≤ p.last → up_to s p.tree ≡ up_to s q.tree)
  shapes_stay [] p q j = itself_stays p q (sym j)
  shapes_stay (x ∷ xs) p q j =
      let first = shape_stays x p j.0 j.1 in
      let rest = shapes_stay xs j.0 q j.2 in
      (omega (arith, first.0, rest.0), λ s l. first.1 s l ∙ rest.1 s (omega (arith, l, first.0)))

-- ---- whole modules

module _ (z : Settings) (m : ModuleTree) where
  sections_of_order : {Bodies : Type 0} → IsValidInOrderWith Bodies z m → (s : Section) → IsValidSection z s m
  sections_of_order v section.types = v.types
  sections_of_order v section.imports = v.imports
  sections_of_order v section.functions = v.functions
  sections_of_order v section.tables = v.tables
  sections_of_order v section.memories = v.memories
  sections_of_order v section.tags = v.tags
  sections_of_order v section.globals = v.globals
  sections_of_order v section.exports = v.exports
  sections_of_order v section.start = v.start
  sections_of_order v section.element_segments = v.element_segments
  sections_of_order v section.data_count = v.data_count
  sections_of_order v section.data_segments = v.data_segments

  pub order_by_sections_with : (Bodies : Type 0)
      → IsValidInOrderWith Bodies z m ↔ (((s : Section) → IsValidSection z s m) × Bodies × IsWithinLimits z (module_of m) m)
  order_by_sections_with Bodies = (
    λ v. (sections_of_order v, v.code, v.limits),
    λ h. record {
      types = h.0 section.types;
      imports = h.0 section.imports;
      functions = h.0 section.functions;
      tables = h.0 section.tables;
      memories = h.0 section.memories;
      tags = h.0 section.tags;
      globals = h.0 section.globals;
      exports = h.0 section.exports;
      start = h.0 section.start;
      element_segments = h.0 section.element_segments;
      data_count = h.0 section.data_count;
      code = h.1;
      data_segments = h.0 section.data_segments;
      limits = h.2;
    },
  )

  pub order_by_sections : IsValidInOrder z m ↔ (((s : Section) → IsValidSection z s m) × AllZip (HasValidBody z (module_of m)) m.functions m.code × IsWithinLimits z (module_of m) m)
  order_by_sections = order_by_sections_with (AllZip (HasValidBody z (module_of m)) m.functions m.code)

  module _ (ps : _) where
    sections_of_text : {Bodies : List (List ℕ) → Type 0} → SpelledSectionsWith Bodies z m ps → (s : Section) → SpelledSection z s m (contents (number s) ps)
    sections_of_text v section.types = v.types
    sections_of_text v section.imports = v.imports
    sections_of_text v section.functions = v.functions
    sections_of_text v section.tables = v.tables
    sections_of_text v section.memories = v.memories
    sections_of_text v section.tags = (v.tags, v.tags_allowed)
    sections_of_text v section.globals = v.globals
    sections_of_text v section.exports = v.exports
    sections_of_text v section.start = v.start
    sections_of_text v section.element_segments = v.element_segments
    sections_of_text v section.data_count = v.data_count
    sections_of_text v section.data_segments = v.data_segments

    pub text_by_sections_with : (Bodies : List (List ℕ) → Type 0)
        → SpelledSectionsWith Bodies z m ps ↔ (((s : Section) → SpelledSection z s m (contents (number s) ps)) × Bodies (entries_of ps))
    text_by_sections_with Bodies = (
      λ v. (sections_of_text v, v.code),
      λ h. record {
        types = h.0 section.types;
        imports = h.0 section.imports;
        functions = h.0 section.functions;
        tables = h.0 section.tables;
        memories = h.0 section.memories;
        tags = (h.0 section.tags).0;
        tags_allowed = (h.0 section.tags).1;
        globals = h.0 section.globals;
        exports = h.0 section.exports;
        start = h.0 section.start;
        element_segments = h.0 section.element_segments;
        data_count = h.0 section.data_count;
        code = h.1;
        data_segments = h.0 section.data_segments;
      },
    )

    pub text_by_sections : SpelledSections z m ps ↔ (((s : Section) → SpelledSection z s m (contents (number s) ps)) × AllZip (SpelledFunction z) m.code (entries_of ps))
    text_by_sections = text_by_sections_with (SpelledCode z m)

  -- whatever the code is
  module _ (cs : List Function) where
    pub within_with_code : IsWithinLimits z (module_of m) m ↔ IsWithinLimits z (module_of (record m { code = cs })) (record m { code = cs })
    within_with_code = (λ w. search (w), λ w. search (w))

pub code_aside : (m : ModuleTree) (cs : List Function) (s : Section) → up_to s (record m { code = cs }) ≡ up_to s m
code_aside m cs s = refl

-- ---- frames of modules

-- what was judged is valid in order, with bodies that are
pub judged_in_order_with : (Bodies : Type 0) (z : Settings) (q : SoFar) (cs : List Function) → IsJudged z q → Bodies
    → IsValidInOrderWith Bodies z (record q.tree { code = cs })
judged_in_order_with Bodies z q cs j v = (order_by_sections_with z (record q.tree { code = cs }) Bodies).1 (
  λ s. (valid_up_to z s (record q.tree { code = cs })).1 ((valid_up_to z s q.tree).0 (j.valid s)),
  v,
  (within_with_code z q.tree cs).0 j.within,
)

pub judged_in_order : (z : Settings) (q : SoFar) (cs : List Function) → IsJudged z q → AllZip (HasValidBody z (module_of q.tree)) q.tree.functions cs
    → IsValidInOrder z (record q.tree { code = cs })
judged_in_order z q cs j v = judged_in_order_with (AllZip (HasValidBody z (module_of q.tree)) q.tree.functions cs) z q cs j v

-- the next section of a module that is valid in order comes behind what stands before it
pub section_comes : {Bodies : Type 0} (z : Settings) (s : Section) (m : ModuleTree) (p : SoFar) (text : List ℕ) → IsValidInOrderWith Bodies z m
    → p.tree ≡ before s m → p.last < place s
    → SpelledSection z s m (Some text) → JudgesSection z p s text (record { last = place s; tree = up_to s m; bodies = p.bodies })
section_comes z s m p text v e l t = record {
  ordered = l;
  added = record {
    kept = e ∙ sym (front_twice (place s) (suc (place s)) m (omega arith));
    last = sym (front_twice (suc (place s)) (suc (place s)) m (omega arith));
  };
  spelled = (spelled_up_to z s m (Some text)).0 t;
  valid = (valid_up_to z s m).0 (sections_of_order z m v s);
  within = within_up_to z s m v.limits;
  last = refl;
  bodies = refl;
}

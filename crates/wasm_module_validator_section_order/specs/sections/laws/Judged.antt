-- A section is judged exactly where what is read of it leads item by item from what was read before it to what is read then.
use Rattle.std.proofs.Common.{◌≡◌, ℕ, List, [], ◌∷◌, length, Some, refl, sym, ap, ◌∙◌, subst}
use Rattle.std.specs.Prelude.{◌↔◌}
use Rattle.wasm_types.specs.settings.Settings.{Settings}
use Rattle.wasm_types.specs.decoding.Decoder.{State, Done}
use Rattle.wasm_types.specs.decoding.Leb.{u32, IsListed}
use Rattle.wasm_module_validator_section_order.specs.items.Adding.{AddsEach}
use Rattle.wasm_module_validator_rules_in_order.specs.rules.Syntax.{ModuleTree}
use Rattle.wasm_module_validator_rules_in_order.specs.Sections.{Section, Item, items, IsUnread}
use Rattle.wasm_module_validator_rules_in_order.specs.Sections as section
use Rattle.wasm_module_validator_rules_in_order.specs.Adding.{Fits, IsWithItems}
use Rattle.wasm_module_validator_rules_in_order.specs.Adding.{AddsEach as AddsEachTree}
use Rattle.wasm_module_validator_rules_in_order.specs.Texts.{ItemRead, StandsFor, AddsRead, SpelledSection}
use Rattle.wasm_module_validator_rules_in_order.specs.Steps.{SoFar, JudgesSection, IsJudged}
use Rattle.wasm_module_validator_rules_in_order.specs.laws.Adding.{section_added}
use Rattle.wasm_module_validator_rules_in_order.specs.laws.Reading.{items_read}
use Rattle.wasm_module_validator_section_order.specs.sections.Grammars.{SpelledRead, SpelledItem}
use Rattle.wasm_module_validator_section_order.specs.sections.Sections.{Reading, reading, AddsIn, IsOfItems, MayBegin, AddsSection}
use Rattle.wasm_module_validator_section_order.specs.sections.laws.Linked.{many_over, many_down, zip_length}
use Rattle.wasm_module_validator_section_order.specs.sections.laws.Items.{linked}
use Rattle.wasm_module_validator_section_order.specs.sections.laws.Counts.{many_length, items_behind, counted_before}

-- ---- under the settings that stay

module _ (s : Section) where
  each_in : (z : Settings) (m n : ModuleTree) (ts : List (ItemRead s)) → AddsEachTree (AddsRead z s) m ts n
      → AddsEach (AddsIn s) (reading z m) ts (reading z n)
  each_in z m n [] h = ap (reading z) h
  each_in z m n (t ∷ ts) h = (reading z h.0, (h.1, refl), each_in z h.0 n ts h.2)

  abbrev Led : Settings → Reading → List (ItemRead s) → Reading → Type 0
  Led z u ts v = AddsEachTree (AddsRead z s) u.tree ts v.tree × (v.settings ≡ z)

  each_of : (u v : Reading) (ts : List (ItemRead s)) → AddsEach (AddsIn s) u ts v → Led u.settings u ts v
  each_of u v [] h = (ap (λ (w : Reading). w.tree) h, sym (ap (λ (w : Reading). w.settings) h))
  each_of u v (t ∷ ts) h =
      let rest = subst (λ (y : Settings). Led y h.0 ts v) h.1.1 (each_of h.0 v ts h.2) in
      ((h.0.tree, h.1.0, rest.0), rest.1)

  pub each_stays : (u v : Reading) (ts : List (ItemRead s)) → AddsEach (AddsIn s) u ts v → v.settings ≡ u.settings
  each_stays u v ts h = (each_of u v ts h).1

-- ---- the contents of a section of items

abbrev IsSpelledSo : Settings → Section → Type 0
IsSpelledSo z s = (m : ModuleTree) (text : List ℕ)
    → SpelledSection z s m (Some text) ↔ (MayBegin z s × IsListed (SpelledItem z s) (items s m) text)

pub section_spelled : (z : Settings) (s : Section) → IsOfItems s → IsSpelledSo z s
section_spelled z section.types k m text = (λ h. (tt, h), λ h. h.1)
section_spelled z section.imports k m text = (λ h. (tt, h), λ h. h.1)
section_spelled z section.functions k m text = (λ h. (tt, h), λ h. h.1)
section_spelled z section.tables k m text = (λ h. (tt, h), λ h. h.1)
section_spelled z section.memories k m text = (λ h. (tt, h), λ h. h.1)
section_spelled z section.tags k m text = (λ h. (h.1, h.0), λ h. (h.1, h.0))
section_spelled z section.globals k m text = (λ h. (tt, h), λ h. h.1)
section_spelled z section.exports k m text = (λ h. (tt, h), λ h. h.1)
section_spelled z section.start k m text = absurd k
section_spelled z section.element_segments k m text = (λ h. (tt, h), λ h. h.1)
section_spelled z section.data_count k m text = absurd k
section_spelled z section.data_segments k m text = (λ h. (tt, h), λ h. h.1)

-- ---- a section

module _ (z : Settings) (s : Section) (of_items : IsOfItems s) (p : SoFar) (b r : State) (n : ℕ) (j : IsJudged z p)
    (c : u32 b ≡ Done n r) where
  judged_to : (q : SoFar) → JudgesSection z p s b.rest q → AddsSection z s p n r.rest q
  judged_to q h =
      let both = (section_spelled z s of_items q.tree b.rest).0 h.spelled in
      let xs = items s q.tree in
      let behind = items_behind (SpelledItem z s) xs b r n c both.1 in
      let read = many_down (StandsFor z s) (SpelledRead z s) (SpelledItem z s) (linked z s) n xs r.rest behind.1 in
      let added : IsWithItems z s p.tree xs q.tree = record { added = h.added; holds = refl; valid = h.valid; within = h.within } in
      let adds = (section_added z s p.tree q.tree xs (j.unread s h.ordered) j.within).1 added in
      let each = each_in s z p.tree q.tree read.0 ((items_read z s p.tree q.tree read.0).1 (xs, read.1, adds.1)) in
      record {
        ordered = h.ordered;
        allowed = both.0;
        fits = subst (Fits z s p.tree) (sym behind.0) adds.0;
        items = record { items = read.0; spelled = read.2; each = each };
        last = h.last;
        bodies = h.bodies;
      }

  judged_from : (q : SoFar) → AddsSection z s p n r.rest q → JudgesSection z p s b.rest q
  judged_from q h =
      let ts = h.items.items in
      let each = each_of s (reading z p.tree) (reading z q.tree) ts h.items.each in
      let read = (items_read z s p.tree q.tree ts).0 each.0 in
      let xs = read.0 in
      let many : n ≡ length xs = many_length (SpelledRead z s) n ts r.rest h.items.spelled ∙ zip_length (StandsFor z s) ts xs read.1 in
      let added = (section_added z s p.tree q.tree xs (j.unread s h.ordered) j.within).0 (subst (Fits z s p.tree) many h.fits, read.2) in
      let spelled = many_over (StandsFor z s) (SpelledRead z s) (SpelledItem z s) (linked z s) n ts xs r.rest h.items.spelled read.1 in
      let listed = counted_before (SpelledItem z s) xs b r n c spelled in
      let holds = subst (λ (ys : List (Item s)). IsListed (SpelledItem z s) ys b.rest) (sym added.holds) listed in
      record {
        ordered = h.ordered;
        added = added.added;
        spelled = (section_spelled z s of_items q.tree b.rest).1 (h.allowed, holds);
        valid = added.valid;
        within = added.within;
        last = h.last;
        bodies = h.bodies;
      }

  pub section_judged : (q : SoFar) → JudgesSection z p s b.rest q ↔ AddsSection z s p n r.rest q
  section_judged q = (judged_to q, judged_from q)

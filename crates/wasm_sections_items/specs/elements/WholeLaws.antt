-- A segment that is read has readers of exactly its elements, and walks over these give them.
use Rattle.std.proofs.Common.{◌≡◌, ℕ, List, [], ◌∷◌, ◌++◌, length, refl, sym, ap, ◌∙◌, subst, arith, true, false, Option, Some, None, Result, Ok, Err, Bool}
use Rattle.std.specs.Prelude.{IfOk, ◌==◌, if◌then◌else◌}
use Rattle.std.proofs.lemmas.Bool.{eqb-true}
use Rattle.std.proofs.lemmas.List.{append-nil}
use Rattle.wasm_types.specs.settings.Settings.{Settings}
use Rattle.wasm_types.specs.decoding.Decoder.{State, Outcome, Done, Short, Fault, Decoder, Grammar, pure, repeated, Decides, Many}
use Rattle.wasm_types.specs.decoding.ExactLaws.{decides-repeated}
use Rattle.wasm_types.specs.decoding.Leb.{u32, IsUnsigned}
use Rattle.wasm_types.specs.decoding.LebLaws.{decides-u32}
use Rattle.wasm_types.specs.decoding.ErrorValue.{ErrorValue}
use Rattle.wasm_types.specs.reader.Parts.{part_at}
use Rattle.wasm_types.specs.reader.Reading.{Fails, Gives}
use Rattle.wasm_types.specs.reader.ReadingLaws.{fails_then}
use Rattle.wasm_sections_items.specs.limited.WalkLaws.{values_complete}
use Rattle.wasm_sections_items.specs.limited.Walking.{fresh}
use Rattle.wasm_sections_items.specs.declared.elements.element.ElementOf.{ElementOf}
use Rattle.wasm_sections_items.specs.declared.elements.element.ElementItemsOf.{ElementItemsOf}
use Rattle.wasm_sections_items.specs.declared.elements.element.ElementItemsOf.TheVariants.{Functions, Expressions}
use Rattle.wasm_sections_items.specs.elements.Spells.{ElementTree}
use Rattle.wasm_sections_items.specs.elements.Decode.{element, segment}
use Rattle.wasm_sections_items.specs.elements.Passing.{values_of}
use Rattle.wasm_sections_items.specs.elements.Elements.{mode_of, items_of, HoldsItems, is_whole, has_whole, tree_of, GivesAll, GivesItems}

abbrev done : {A : Type 0} → A → State → Outcome A
done x t = Done x t

no_bytes : (text : List ℕ) → text ≡ [] → (length text == 0) ≡ true
no_bytes text e = rw e refl

whole_read : {A : Type 0} (o : Outcome A) (x : A) (t : State) → o ≡ Done x t → t.rest ≡ [] → is_whole o ≡ true
whole_read o x t e none = rw e (no_bytes t.rest none)

-- readers that hold a list of elements hold it whole
pub holds_whole : {E C : Type 0} (d : Settings → Decoder C) (t : State) (i : ElementItemsOf E) → HoldsItems d t i → has_whole d i ≡ true
holds_whole d t (Functions s) (v, h) = whole_read (repeated s.count u32 s.reader) h.items h.end h.read h.none_left
holds_whole d t (Expressions r s) (v, h) =
    let same : s.reader.settings ≡ v.settings = (decides-u32.sound (part_at v h.text) s.reader s.count h.counted).1.settings in
    whole_read (repeated s.count (d s.reader.settings) s.reader) h.items h.end (ap (λ (z : Settings). repeated s.count (d z) s.reader) same ∙ h.read) h.none_left

abbrev plain_of : {E C : Type 0} → (E → C) → (Settings → Decoder C) → ElementOf E → ElementTree C
plain_of v d x = record { mode = mode_of v x.kind; items = items_of d x.items }

abbrev picked : {A : Type 0} → Bool → A → Option A
picked b x = if b then Some x else None

is_picked : {A : Type 0} (b : Bool) (x : A) → b ≡ true → picked b x ≡ Some x
is_picked b x e = rw e refl

given_some : {C : Type 0} (e : Decoder C) (s t : State) (x : ElementTree C) → element e s ≡ Done x t → segment e s ≡ Done (Some x) t
unfolding segment
given_some e s t x h = rw h refl

refused_some : {C : Type 0} (e : Decoder C) (s : State) (f : ErrorValue) → Fails f (element e s) → Fails f (segment e s)
unfolding segment
refused_some e s f h = fails_then (element e s) (λ x. pure (Some x)) f.kind f.offset h

-- what is read of a segment, where its readers hold its elements
pub segment_answers : {E C : Type 0} (v : E → C) (d : Settings → Decoder C) (result : Result (ElementOf E) ErrorValue) (s t : State)
    → Gives (plain_of v d) result t (element (d s.settings) s) → IfOk result (λ x. HoldsItems d t x.items) → Gives (tree_of v d) result t (segment (d s.settings) s)
segment_answers {E} {C} v d (Ok x) s t e h =
    let some : picked (has_whole d x.items) (plain_of v d x) ≡ Some (plain_of v d x) = is_picked (has_whole d x.items) (plain_of v d x) (holds_whole d t x.items h) in
    given_some (d s.settings) s t (plain_of v d x) e ∙ ap (λ (o : Option (ElementTree C)). done o t) (sym some)
segment_answers v d (Err f) s t e h = refused_some (d s.settings) s f e

-- ---- walks over the readers of a segment

is_none : (text : List ℕ) → length text ≡ 0 → text ≡ []
is_none [] e = refl
is_none (b ∷ text) e = absurd (omega (arith, e))

module _ {A : Type 0} (d : Decoder A) (g : Grammar A) (exact : Decides d g) where
  walks_give : (n : ℕ) (s : State) (o : Outcome (List A)) → repeated n d s ≡ o → is_whole o ≡ true → GivesAll d n s (values_of o)
  walks_give n s (Done xs t) e whole = λ items run memory.
      let none : t.rest ≡ [] = is_none t.rest (eqb-true _ _ whole) in
      let front = (decides-repeated d g exact n).sound s t xs e in
      let text : s.rest ≡ front.0 = front.1.parts ∙ ap (λ (z : List ℕ). front.0 ++ z) none ∙ append-nil front.0 in
      values_complete d g exact (fresh n s) n xs refl refl (subst (λ (z : List ℕ). Many g n xs z) (sym text) front.2) items run memory
  walks_give n s (Short p h) e whole = absurd cc
  walks_give n s (Fault k p) e whole = absurd cc

module _ {E C : Type 0} (v : E → C) (d : Settings → Decoder C) (g : Settings → Grammar C) (exact : (z : Settings) → Decides (d z) (g z)) where
  items_give : (i : ElementItemsOf E) → has_whole d i ≡ true → GivesItems d i (items_of d i)
  items_give (Functions s) e = walks_give u32 (IsUnsigned 32) decides-u32 s.count s.reader (repeated s.count u32 s.reader) refl e
  items_give (Expressions r s) e =
      (refl, walks_give (d s.reader.settings) (g s.reader.settings) (exact s.reader.settings) s.count s.reader (repeated s.count (d s.reader.settings) s.reader) refl e)

  some_is : (y z : ElementTree C) → Some y ≡ Some z → y ≡ z
  some_is y z f = cc

  over : (x : ElementOf E) (t : ElementTree C) (b : Bool) → has_whole d x.items ≡ b → picked b (plain_of v d x) ≡ Some t → GivesItems d x.items t.items
  over x t true h f = subst (λ (y : ElementTree C). GivesItems d x.items y.items) (some_is (plain_of v d x) t f) (items_give x.items h)
  over x t false h f = absurd cc

  -- a segment that has a tree gives the elements of the tree
  pub segments_give : (x : ElementOf E) (t : ElementTree C) → tree_of v d x ≡ Some t → GivesItems d x.items t.items
  segments_give x t e = over x t (has_whole d x.items) refl e

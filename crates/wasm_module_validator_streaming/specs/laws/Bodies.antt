-- Whether a body is that of a valid function does not depend on what comes behind it: from the start of the code on, no frame changes what
-- functions look up.
use Rattle.std.proofs.Common.{◌≡◌, ◌∙◌, ◌⊎◌, ◌↔◌, ◌<◌, ◌≤◌, ℕ, zero, suc, List, [], ◌∷◌, ◌++◌, length, take, Option, Some, None, slice_get, refl, sym, ap, subst, inl, inr, arith}
use Rattle.std.specs.List.{AllZip}
use Rattle.std.proofs.Math.Seq.{take-length}
use Rattle.std.proofs.lemmas.Bool.{cases_order}
use Rattle.std.proofs.lemmas.List.{length_push}
use Rattle.wasm_types.specs.settings.Settings.{Settings}
use Rattle.wasm_sections_parser.specs.Steps.{Shape, version, custom, code, entry, the_end}
use Rattle.wasm_sections_parser.specs.Steps as frame
use Rattle.wasm_module_validator.specs.drivers.judging.Bodies.{AreBodies}
use Rattle.wasm_module_validator_section_order.specs.rules_in_order.Sections.{Section, place, number, code_place, before}
use Rattle.wasm_module_validator_section_order.specs.rules_in_order.Sections as section
use Rattle.wasm_module_validator_section_order.specs.rules_in_order.Steps.{SoFar, JudgesSection, JudgesBody, JudgesShape, JudgesShapes, IsJudged}
use Rattle.wasm_module_validator_section_order.specs.rules_in_order.laws.Judged.{shape_keeps}
use Rattle.wasm_module_validator_section_order.specs.rules.Syntax.{ModuleTree}
use Rattle.wasm_module_validator_streaming.specs.Bodies.{IsBody, AreFirst, FitsPlace}

-- ---- lists

module _ {A B : Type 0} (R : A → B → Type 0) where
  zip_push : (xs : List A) (ys : List B) (x : A) (y : B) → AllZip R xs ys → R x y → AllZip R (xs ++ x ∷ []) (ys ++ y ∷ [])
  zip_push [] [] x y h r = (r, tt)
  zip_push [] (b ∷ ys) x y h r = absurd h
  zip_push (a ∷ xs) [] x y h r = absurd h
  zip_push (a ∷ xs) (b ∷ ys) x y h r = (h.0, zip_push xs ys x y h.1 r)

  zip_pop : (xs : List A) (ys : List B) (x : A) (y : B) → length xs ≡ length ys → AllZip R (xs ++ x ∷ []) (ys ++ y ∷ []) → AllZip R xs ys × R x y
  zip_pop [] [] x y e h = (tt, h.0)
  zip_pop [] (b ∷ ys) x y e h = absurd (omega (arith, e))
  zip_pop (a ∷ xs) [] x y e h = absurd (omega (arith, e))
  zip_pop (a ∷ xs) (b ∷ ys) x y e h = let k = zip_pop xs ys x y (omega (arith, e)) h.1 in ((h.0, k.0), k.1)

one_more : {A : Type 0} (xs : List A) (n : ℕ) (x : A) → slice_get xs n ≡ Some x → take n xs ++ x ∷ [] ≡ take (suc n) xs
one_more [] n x e = absurd cc
one_more {A} (y ∷ xs) zero x e = ap got (sym e)
  where
    got : Option A → List A
    got None = []
    got (Some a) = a ∷ []
one_more (y ∷ xs) (suc n) x e = ap (λ l. y ∷ l) (one_more xs n x e)

length_taken : {A : Type 0} (xs : List A) (n : ℕ) (x : A) → slice_get xs n ≡ Some x → length (take n xs) ≡ n
length_taken [] n x e = absurd cc
length_taken (y ∷ xs) zero x e = refl
length_taken (y ∷ xs) (suc n) x e = ap suc (length_taken xs n x e)

-- ---- places

-- behind the code section there is one section alone
pub only_data : (s : Section) → code_place < place s → s ≡ section.data_segments
only_data section.types l = absurd (omega (arith, l))
only_data section.imports l = absurd (omega (arith, l))
only_data section.functions l = absurd (omega (arith, l))
only_data section.tables l = absurd (omega (arith, l))
only_data section.memories l = absurd (omega (arith, l))
only_data section.tags l = absurd (omega (arith, l))
only_data section.globals l = absurd (omega (arith, l))
only_data section.exports l = absurd (omega (arith, l))
only_data section.start l = absurd (omega (arith, l))
only_data section.element_segments l = absurd (omega (arith, l))
only_data section.data_count l = absurd (omega (arith, l))
only_data section.data_segments l = refl

-- each other stands before it
pub stands_before : (s : Section) → (number s ≡ 11 → ⊥) → place s < code_place
stands_before section.types n = omega arith
stands_before section.imports n = omega arith
stands_before section.functions n = omega arith
stands_before section.tables n = omega arith
stands_before section.memories n = omega arith
stands_before section.tags n = omega arith
stands_before section.globals n = omega arith
stands_before section.exports n = omega arith
stands_before section.start n = omega arith
stands_before section.element_segments n = omega arith
stands_before section.data_count n = omega arith
stands_before section.data_segments n = absurd (n refl)

not_code : (s : Section) → place s ≡ code_place → ⊥
not_code section.types e = omega (arith, e)
not_code section.imports e = omega (arith, e)
not_code section.functions e = omega (arith, e)
not_code section.tables e = omega (arith, e)
not_code section.memories e = omega (arith, e)
not_code section.tags e = omega (arith, e)
not_code section.globals e = omega (arith, e)
not_code section.exports e = omega (arith, e)
not_code section.start e = omega (arith, e)
not_code section.element_segments e = omega (arith, e)
not_code section.data_count e = omega (arith, e)
not_code section.data_segments e = omega (arith, e)

module _ (z : Settings) (p q : SoFar) (s : Section) (text : List ℕ) (j : JudgesSection z p s text q) where
  pub place_stays : (o : Option ℕ) → FitsPlace o p.last → FitsPlace o q.last
  place_stays None h = λ e. not_code s (sym j.last ∙ e)
  place_stays (Some n) h = omega (arith, h, j.ordered, j.last)

-- ---- a frame more

module _ (z : Settings) where
  -- no body came before the code section
  none_first : (m : ModuleTree) (bodies : List (List ℕ)) → bodies ≡ [] → AreFirst z m bodies
  none_first m bodies e = subst (AreFirst z m) (sym e) tt

  -- data segments are nothing that functions look up
  with_data : (m n : ModuleTree) (bodies : List (List ℕ)) → m ≡ before section.data_segments n → AreFirst z m bodies ↔ AreFirst z n bodies
  with_data m n bodies e = (
    λ h. subst (λ (t : ModuleTree). AreFirst z t bodies) e h,
    λ h. subst (λ (t : ModuleTree). AreFirst z t bodies) (sym e) h,
  )

  pub section_alike : (p q : SoFar) (s : Section) (text : List ℕ) → IsJudged z p → JudgesSection z p s text q → AreFirst z p.tree p.bodies ↔ AreFirst z q.tree q.bodies
  section_alike p q s text h j = go (cases_order p.last code_place)
    where
      early : p.last < code_place → AreFirst z p.tree p.bodies ↔ AreFirst z q.tree q.bodies
      early l = let none = h.none l in (λ k. none_first q.tree q.bodies (j.bodies ∙ none), λ k. none_first p.tree p.bodies none)

      late : code_place ≤ p.last → AreFirst z p.tree p.bodies ↔ AreFirst z q.tree q.bodies
      late l =
          let is = only_data s (omega (arith, l, j.ordered)) in
          let kept : p.tree ≡ before section.data_segments q.tree = subst (λ (t : Section). p.tree ≡ before t q.tree) is j.added.kept in
          let same = with_data p.tree q.tree p.bodies kept in
          (λ k. subst (AreFirst z q.tree) (sym j.bodies) (same.0 k), λ k. same.1 (subst (AreFirst z q.tree) j.bodies k))

      go : (p.last ≡ code_place) ⊎ ((p.last < code_place) ⊎ (code_place < p.last)) → AreFirst z p.tree p.bodies ↔ AreFirst z q.tree q.bodies
      go (inl e) = late (omega (arith, e))
      go (inr (inl l)) = early l
      go (inr (inr l)) = late (omega (arith, l))

  -- of this body too
  pub body_more : (p q : SoFar) (text : List ℕ) (j : JudgesBody z p text q) → AreFirst z p.tree p.bodies → IsBody z p.tree j.type text → AreFirst z q.tree q.bodies
  body_more p q text j h b =
      let all = zip_push (IsBody z p.tree) (take (length p.bodies) p.tree.functions) p.bodies j.type text h b in
      let count : suc (length p.bodies) ≡ length (p.bodies ++ text ∷ []) = omega (arith, length_push p.bodies text) in
      let first = one_more p.tree.functions (length p.bodies) j.type j.function ∙ ap (λ (n : ℕ). take n p.tree.functions) count in
      subst (λ (s : SoFar). AreFirst z s.tree s.bodies) (sym j.added)
      (subst (λ (xs : List ℕ). AllZip (IsBody z p.tree) xs (p.bodies ++ text ∷ [])) first all)

  pub body_less : (p q : SoFar) (text : List ℕ) (j : JudgesBody z p text q) → AreFirst z q.tree q.bodies → AreFirst z p.tree p.bodies × IsBody z p.tree j.type text
  body_less p q text j h =
      let here : AreFirst z p.tree (p.bodies ++ text ∷ []) = subst (λ (s : SoFar). AreFirst z s.tree s.bodies) j.added h in
      let count : length (p.bodies ++ text ∷ []) ≡ suc (length p.bodies) = omega (arith, length_push p.bodies text) in
      let first = ap (λ (n : ℕ). take n p.tree.functions) count ∙ sym (one_more p.tree.functions (length p.bodies) j.type j.function) in
      zip_pop (IsBody z p.tree) (take (length p.bodies) p.tree.functions) p.bodies j.type text (length_taken p.tree.functions (length p.bodies) j.type j.function)
      (subst (λ (xs : List ℕ). AllZip (IsBody z p.tree) xs (p.bodies ++ text ∷ [])) first here)

  same_first : (p q : SoFar) → q ≡ p → AreFirst z q.tree q.bodies → AreFirst z p.tree p.bodies
  same_first p q e h = subst (λ (s : SoFar). AreFirst z s.tree s.bodies) e h

  -- before a frame the bodies were those of valid functions, if they are behind it
  shape_less : (x : Shape) (p q : SoFar) → IsJudged z p → JudgesShape z p x q → AreFirst z q.tree q.bodies → AreFirst z p.tree p.bodies
  shape_less (version v) p q h j k = same_first p q j.2 k
  shape_less (custom name content) p q h j k = same_first p q j k
  shape_less (frame.section id text) p q h j k = (section_alike p q j.0 text h j.2).1 k
  shape_less (code count size) p q h j k = same_first (record p { last = code_place }) q j.1 k
  shape_less (entry text) p q h j k = (body_less p q text j k).0
  shape_less the_end p q h j k = same_first p q j k

  pub shapes_less : (xs : List Shape) (p q : SoFar) → IsJudged z p → JudgesShapes z p xs q → AreFirst z q.tree q.bodies → AreFirst z p.tree p.bodies
  shapes_less [] p q h j k = same_first p q (sym j) k
  shapes_less (x ∷ xs) p q h j k = shape_less x p j.0 h j.1 (shapes_less xs j.0 q (shape_keeps z x p j.0 h j.1) j.2 k)

  -- ---- all of them

  module _ (q : SoFar) (as_many : length q.bodies ≡ length q.tree.functions) where
    all_taken : take (length q.bodies) q.tree.functions ≡ q.tree.functions
    all_taken = ap (λ (n : ℕ). take n q.tree.functions) as_many ∙ take-length q.tree.functions

    pub all_bodies : AreFirst z q.tree q.bodies → AreBodies z q
    all_bodies h = subst (λ (xs : List ℕ). AllZip (IsBody z q.tree) xs q.bodies) all_taken h

    pub first_bodies : AreBodies z q → AreFirst z q.tree q.bodies
    first_bodies h = subst (λ (xs : List ℕ). AllZip (IsBody z q.tree) xs q.bodies) (sym all_taken) h

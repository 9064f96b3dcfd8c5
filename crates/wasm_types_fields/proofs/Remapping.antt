-- A list whose items are replaced one after the other.
use Rattle.std.proofs.Common.{◌≡◌, ℕ, zero, suc, ◌+◌, ◌<◌, ◌≤◌, List, [], ◌∷◌, refl, sym, ap, subst, ◌∙◌, length, get_or, set, take, drop, map, arith, add-one}
use Rattle.std.specs.Prelude.{Result, Ok, Err, Vec}
use Rattle.std.specs.List.{flat_map}
use Rattle.std.specs.Vec.{with_items}
use Rattle.std.proofs.lemmas.Grind.{flat_map-append}
use Rattle.std.proofs.lemmas.List.{with_items_is, length-map, take-map, drop-map, take-append-drop}
use Rattle.wasm_types_values.specs.types_trees.declared.index.UnpackedIndex.{UnpackedIndex}
use Rattle.wasm_types_values.specs.declared.value.ValType.{ValType}
use Rattle.wasm_types_values.specs.Values.{value_of}
use Rattle.wasm_types_values.specs.types_trees.Types as tree
use Rattle.wasm_types_values.specs.types_trees.Types.{ValueOf, InnerOf}
use Rattle.wasm_types_values.specs.Remap.{Remapped, value_shape, value_indices}
use Rattle.wasm_types_values.specs.RemapLaws.{walked_next, cut_before}
use Rattle.wasm_types_fields.specs.Fields.{signature_tree}
use Rattle.wasm_types_fields.specs.Remap.{inner_shape, inner_indices}

module _ {A T S R E : Type 0} (view : A → T) (shape : T → S) (indices : T → List R) (answers : R → Result R E → Type 0) where
  abbrev Item : Result (Unit {0}) E → A → A → Type 0
  Item r x y = Remapped shape indices answers r (view x) (view y)

  abbrev Items : Result (Unit {0}) E → List A → List A → Type 0
  Items r xs ys = Remapped (map shape) (flat_map indices) answers r (map view xs) (map view ys)

  -- the items before place i are replaced, and the others stay
  abbrev pub SoFar : ℕ → List A → List A → Type 0
  SoFar zero old now = now ≡ old
  SoFar (suc i) [] now = now ≡ []
  SoFar (suc i) (x ∷ xs) [] = ⊥
  SoFar (suc i) (x ∷ xs) (y ∷ ys) = Item (Ok (tt {0})) x y × SoFar i xs ys

  nothing : Items (Ok (tt {0})) [] []
  nothing = record { same = refl; walked = tt }

  next : (r : Result (Unit {0}) E) (x y : A) (xs ys : List A) → Item (Ok (tt {0})) x y → Items r xs ys → Items r (x ∷ xs) (y ∷ ys)
  next r x y xs ys h t = record {
    same = (let first = h.same in let rest = t.same in cc);
    walked = walked_next answers r (indices (view x)) (indices (view y)) (flat_map indices (map view xs)) (flat_map indices (map view ys)) h.walked t.walked;
  }

  last : (e : E) (x y : A) (xs : List A) → Item (Err e) x y → Items (Err e) (x ∷ xs) (y ∷ xs)
  last e x y xs h = record {
    same = (let first = h.same in cc);
    walked = cut_before answers e (indices (view x)) (indices (view y)) (flat_map indices (map view xs)) h.walked;
  }

  one_more : (old now : List A) (i : ℕ) (y d : A) → i < length old → SoFar i old now → Item (Ok (tt {0})) (get_or now i d) y → SoFar (suc i) old (set now i y)
  one_more [] now i y d lt h e = absurd (omega arith)
  one_more (x ∷ xs) [] zero y d lt h e = absurd cc
  one_more (x ∷ xs) [] (suc i) y d lt h e = absurd h
  one_more (x ∷ xs) (z ∷ zs) zero y d lt h e = let first : z ≡ x = cc in let rest : zs ≡ xs = cc in (subst (λ (w : A). Item (Ok (tt {0})) w y) first e, rest)
  one_more (x ∷ xs) (z ∷ zs) (suc i) y d lt h e = (h.0, one_more xs zs i y d (omega arith) h.1 e)

  pub step : (old now : List A) (i : ℕ) (y d : A) → i < length old → SoFar i old now → Item (Ok (tt {0})) (get_or now i d) y → SoFar (i + 1) old (set now i y)
  step old now i y d lt h e = rw add-one (one_more old now i y d lt h e)

  pub whole : (old now : List A) (i : ℕ) → length old ≤ i → SoFar i old now → Items (Ok (tt {0})) old now
  whole [] [] i le h = nothing
  whole [] (z ∷ zs) zero le h = absurd cc
  whole [] (z ∷ zs) (suc i) le h = absurd cc
  whole (x ∷ xs) now zero le h = absurd (omega arith)
  whole (x ∷ xs) [] (suc i) le h = absurd h
  whole (x ∷ xs) (z ∷ zs) (suc i) le h = next (Ok tt) x z xs zs h.0 (whole xs zs i (omega arith) h.1)

  pub cut : (e : E) (old now : List A) (i : ℕ) (y d : A) → i < length old → SoFar i old now → Item (Err e) (get_or now i d) y → Items (Err e) old (set now i y)
  cut e [] now i y d lt h t = absurd (omega arith)
  cut e (x ∷ xs) [] zero y d lt h t = absurd cc
  cut e (x ∷ xs) [] (suc i) y d lt h t = absurd h
  cut e (x ∷ xs) (z ∷ zs) zero y d lt h t =
      let first : z ≡ x = cc in
      let rest : zs ≡ xs = cc in
      subst (λ (ws : List A). Items (Err e) (x ∷ xs) (y ∷ ws)) (sym rest) (last e x y xs (subst (λ (w : A). Item (Err e) w y) first t))
  cut e (x ∷ xs) (z ∷ zs) (suc i) y d lt h t = next (Err e) x z xs (set zs i y) h.0 (cut e xs zs i y d (omega arith) h.1 t)

-- ---- functions, whose parameters and results lie in one list

-- the first n of these values are the parameters, and the others the results
abbrev split_at : ℕ → List ValType → InnerOf UnpackedIndex
split_at n vs = signature_tree (take n vs) (drop n vs)

split_values : (n : ℕ) (vs : List ValType) → split_at n vs ≡ tree.function (take n (map value_of vs)) (drop n (map value_of vs))
split_values n vs = λ i. tree.function (sym (take-map value_of n vs) i) (sym (drop-map value_of n vs) i)

module _ {R : Type 0} (n : ℕ) (vs : List (ValueOf R)) where
  split_indices : inner_indices (tree.function (take n vs) (drop n vs)) ≡ flat_map value_indices vs
  split_indices = sym (flat_map-append value_indices (take n vs) (drop n vs)) ∙ ap (flat_map value_indices) (take-append-drop n vs)

  split_shape : inner_shape (tree.function (take n vs) (drop n vs)) ≡ tree.function (take n (map value_shape vs)) (drop n (map value_shape vs))
  split_shape = λ i. tree.function (sym (take-map value_shape n vs) i) (sym (drop-map value_shape n vs) i)

module _ {E U : Type 0} (answers : UnpackedIndex → Result UnpackedIndex E → Type 0) (r : Result U E) where
  abbrev Values : List ValType → List ValType → Type 0
  Values old now = Remapped (map value_shape) (flat_map value_indices) answers r (map value_of old) (map value_of now)

  abbrev Function : ℕ → List ValType → List ValType → Type 0
  Function n old now = Remapped inner_shape inner_indices answers r (split_at n old) (split_at n now)

  -- the values of the list replaced are those of the function
  remapped_values : (n : ℕ) (old now : List ValType) → Values old now → Function n old now
  remapped_values n old now h =
      rw (split_values n old, split_values n now) (record {
        same = split_shape n (map value_of now)
            ∙ ap (λ (shapes : List (ValueOf (Unit {0}))). tree.function (take n shapes) (drop n shapes)) h.same
            ∙ sym (split_shape n (map value_of old));
        walked = rw (split_indices n (map value_of old), split_indices n (map value_of now)) h.walked;
      })

  -- and none is left out
  as_many : (old now : List ValType) → Values old now → length now ≡ length old
  as_many old now h =
      sym (length-map now value_of) ∙ sym (length-map (map value_of now) value_shape) ∙ ap length h.same
      ∙ length-map (map value_of old) value_shape ∙ length-map old value_of

  -- written through the slice of the list
  pub remapped_function : {Z : Type 0} (n : ℕ) (v : Vec ValType Z) (old now : List ValType) → old ≡ v.items → Values old now
      → Function n v.items (with_items v now).items
  remapped_function n v old now value h =
      let len : length now ≡ v.len = as_many old now h ∙ ap length value ∙ sym v.ok.0 in
      subst (λ (xs : List ValType). Function n v.items xs) (sym (with_items_is v now len)) (subst (λ (xs : List ValType). Function n xs now) value
      (remapped_values n old now h))

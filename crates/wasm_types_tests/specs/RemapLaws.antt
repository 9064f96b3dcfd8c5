-- Types whose indices are replaced: what computes by computing it, and what is refused by the first index that tells it.
use Rattle.std.proofs.Common.{◌≡◌, ℕ, List, [], ◌∷◌, ◌++◌, refl, ◌+◌, arith, Err}
use Rattle.wasm_types.specs.trees.declared.index.UnpackedIndex.{UnpackedIndex}
use Rattle.wasm_types.specs.trees.declared.index.UnpackedIndex.TheVariants.{Module, RecGroup, Id}
use Rattle.wasm_types.specs.values.Remap.{AreAnswered, IsCutShort}
use Rattle.wasm_types_tests.specs.Remaps.{IndexRows, ShapeRows, RemapRows, goes_up}

pub index_rows : IndexRows
index_rows = record {
  of_a_number = refl;
  of_an_abstract_type = refl;
  of_a_reference = refl;
  of_an_exact_reference = refl;
  of_packed_integers = refl;
  of_what_is_stored = refl;
  of_a_field = refl;
  of_a_function = refl;
  of_an_array = refl;
  of_a_struct = refl;
  of_a_continuation = refl;
  of_an_entry = refl;
  of_a_subtype = refl;
  of_two_supertypes = refl;
}

pub shape_rows : ShapeRows
shape_rows = record {
  of_a_number = refl;
  of_an_abstract_type = refl;
  of_a_reference = refl;
  of_an_exact_reference = refl;
  of_packed_integers = refl;
  of_what_is_stored = refl;
  of_a_field = refl;
  of_a_function = refl;
  of_an_array = refl;
  of_a_struct = refl;
  of_a_continuation = refl;
  of_an_entry = refl;
  of_a_subtype = refl;
}

-- where the first index is one of the module, it is replaced before anything is refused
first_is_replaced : (e n : ℕ) (xs ys : List UnpackedIndex) → IsCutShort goes_up e (Module n ∷ xs) (Module n ∷ ys) → ⊥
first_is_replaced e n xs ys h = by_front h.done h.replaced h.refused h.rest h.answered h.refusal h.old h.new where
  by_front : (done replaced : List UnpackedIndex) (refused : UnpackedIndex) (rest : List UnpackedIndex) → AreAnswered goes_up done replaced
      → goes_up refused (Err e) → Module n ∷ xs ≡ done ++ refused ∷ rest → Module n ∷ ys ≡ replaced ++ refused ∷ rest → ⊥
  by_front [] replaced (Module m) rest a r old new = r
  by_front [] replaced (RecGroup m) rest a r old new = cc
  by_front [] replaced (Id m) rest a r old new = cc
  by_front (d ∷ done) [] refused rest a r old new = a
  by_front (Module m ∷ done) (j ∷ replaced) refused rest a r old new = let same : n ≡ m = cc in let next : n ≡ m + 1 = cc (a.0) in omega (arith, same, next)
  by_front (RecGroup m ∷ done) (j ∷ replaced) refused rest a r old new = cc
  by_front (Id m ∷ done) (j ∷ replaced) refused rest a r old new = cc

-- where the first index is one of a group, it is refused with 7, and those behind it stay
first_is_refused : (e n : ℕ) (j : UnpackedIndex) (xs ys : List UnpackedIndex) → IsCutShort goes_up e (RecGroup n ∷ xs) (j ∷ ys) → (e ≡ 7) × (ys ≡ xs)
first_is_refused e n j xs ys h = by_front h.done h.replaced h.refused h.rest h.answered h.refusal h.old h.new where
  by_front : (done replaced : List UnpackedIndex) (refused : UnpackedIndex) (rest : List UnpackedIndex) → AreAnswered goes_up done replaced
      → goes_up refused (Err e) → RecGroup n ∷ xs ≡ done ++ refused ∷ rest → j ∷ ys ≡ replaced ++ refused ∷ rest → (e ≡ 7) × (ys ≡ xs)
  by_front [] [] (Module m) rest a r old new = absurd r
  by_front [] [] (RecGroup m) rest a r old new = (r, cc)
  by_front [] [] (Id m) rest a r old new = absurd r
  by_front [] (k ∷ replaced) refused rest a r old new = absurd a
  by_front (d ∷ done) [] refused rest a r old new = absurd a
  by_front (Module m ∷ done) (k ∷ replaced) refused rest a r old new = absurd cc
  by_front (RecGroup m ∷ done) (k ∷ replaced) refused rest a r old new = absurd a.0
  by_front (Id m ∷ done) (k ∷ replaced) refused rest a r old new = absurd a.0

-- where there is none, none is refused
none_is_refused : (e : ℕ) (ys : List UnpackedIndex) → IsCutShort goes_up e [] ys → ⊥
none_is_refused e ys h = by_front h.done h.refused h.rest h.old where
  by_front : (done : List UnpackedIndex) (refused : UnpackedIndex) (rest : List UnpackedIndex) → [] ≡ done ++ refused ∷ rest → ⊥
  by_front [] refused rest old = cc
  by_front (d ∷ done) refused rest old = cc

pub remap_rows : RemapRows
remap_rows = record {
  replaced = record { same = refl; walked = (refl, tt) };
  not_replaced = λ h. let e = h.walked.0 in let same : ◌≡◌ {A = ℕ} 3 4 = cc in omega (arith, same);
  lost_null = λ h. let e = h.same in cc;
  not_exactly = λ h. let e = h.same in cc;
  without_index = record { same = refl; walked = tt };
  for_another = λ h. let e = h.same in cc;
  refused = record { same = refl; walked = record { done = []; replaced = []; refused = RecGroup 2; rest = []; answered = tt; refusal = refl; old = refl; new = refl } };
  refused_otherwise = λ h. let e = (first_is_refused _ _ _ _ _ h.walked).0 in omega (arith, e);
  refused_for_nothing = λ h. none_is_refused _ _ h.walked;
  not_refused = λ h. h.walked.0;
  all = record { same = refl; walked = (refl, (refl, tt)) };
  one_of_two = λ h. let e = h.walked.1.0 in let same : ◌≡◌ {A = ℕ} 5 6 = cc in omega (arith, same);
  up_to_the_refused = record {
    same = refl;
    walked = record { done = Module 3 ∷ []; replaced = Module 4 ∷ []; refused = RecGroup 2; rest = Module 5 ∷ []; answered = (refl, tt); refusal = refl; old = refl; new = refl };
  };
  nothing_before_it = λ h. first_is_replaced _ _ _ _ h.walked;
  one_behind_it = λ h. let e = (first_is_refused _ _ _ _ _ h.walked).1 in let same : ◌≡◌ {A = ℕ} 6 5 = cc in omega (arith, same);
}

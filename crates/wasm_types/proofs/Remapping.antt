-- Parts of a subtype, replaced one after the other.
use Rattle.std.proofs.Common.{◌≡◌, ℕ, ◌<◌, length, get_or, List, [], ◌∷◌, ◌++◌, refl, sym, ap, subst, ◌∙◌, map, Bool, true, Option, Some, None}
use Rattle.std.specs.Prelude.{Result, Ok, Err}
use Rattle.std.specs.List.{flat_map}
use Rattle.std.proofs.lemmas.List.{set-get_or}
use Rattle.std.specs.Option.{option_map}
use Rattle.wasm_types_trees.specs.Types.{InnerOf, EntryOf}
use Rattle.wasm_types_values.specs.Remap.{AreAnswered, IsCutShort, IsWalked, Remapped}
use Rattle.wasm_types_values.specs.RemapLaws.{refused_alone, walked_next, cut_before}
use Rattle.wasm_types_fields.specs.Remap.{inner_indices, inner_shape}
use Rattle.wasm_types_fields.proofs.Remapping.{SoFar, cut}
use Rattle.wasm_types.specs.Entries.{first_of, declared_with}
use Rattle.wasm_types.specs.Remap.{list_shape, option_indices, entry_indices, entry_shape, declared_shape, IsOptionAnswered}

-- ---- indices alone

flat_single : {R : Type 0} (is : List R) → flat_map (λ i. i ∷ []) (map (λ i. i) is) ≡ is
flat_single [] = refl
flat_single (i ∷ is) = ap (λ (js : List _). i ∷ js) (flat_single is)

map_same : {R S : Type 0} (f : R → S) (is : List R) → map f (map (λ i. i) is) ≡ map f is
map_same f [] = refl
map_same f (i ∷ is) = ap (λ (ys : List _). f i ∷ ys) (map_same f is)

module _ {R E : Type 0} (answers : R → Result R E → Type 0) where
  abbrev Indices : Result (Unit {0}) E → List R → List R → Type 0
  Indices r is js = Remapped list_shape (λ is. is) answers r is js

  pub as_indices : (r : Result (Unit {0}) E) (is js : List R) → Remapped (map (λ i. tt {0})) (flat_map (λ i. i ∷ [])) answers r (map (λ i. i) is)
      (map (λ i. i) js) → Indices r is js
  as_indices r is js h = record {
    same = sym (map_same (λ i. tt) js) ∙ h.same ∙ map_same (λ i. tt) is;
    walked = subst (λ (xs : List R). IsWalked answers r xs js) (flat_single is)
        (subst (λ (ys : List R). IsWalked answers r (flat_map (λ i. i ∷ []) (map (λ i. i) is)) ys) (flat_single js) h.walked);
  }

  -- the index at k is refused
  pub cut_alone : (e : E) (old now : List R) (k : ℕ) (d : R) → k < length old → SoFar (λ i. i) (λ i. tt {0}) (λ i. i ∷ []) answers k old now → answers (get_or now k d) (Err e)
      → Remapped {U = Unit {0}} (map (λ i. tt {0})) (flat_map (λ i. i ∷ [])) answers (Err e) (map (λ i. i) old) (map (λ i. i) now)
  cut_alone e old now k d lt so_far h =
      subst (λ (is : List R). Remapped {U = Unit {0}} (map (λ i. tt {0})) (flat_map (λ i. i ∷ [])) answers (Err e) (map (λ i. i) old) (map (λ i. i) is)) (set-get_or now k d)
      (cut (λ i. i) (λ i. tt {0}) (λ i. i ∷ []) answers e old now k (get_or now k d) d lt so_far (record { same = refl; walked = refused_alone answers e (get_or now k d) h }))

  -- ---- indices that may be absent

  refused_option : (o : Option R) (i : R) (e : E) → o ≡ Some i → answers i (Err e) → IsCutShort answers e (option_indices o) (option_indices o)
  refused_option None i e p h = absurd cc
  refused_option (Some j) i e p h = let same : j ≡ i = cc in refused_alone answers e j (subst (λ (k : R). answers k (Err e)) (sym same) h)

  option_answered : (o p : Option R) → IsOptionAnswered answers o p → AreAnswered answers (option_indices o) (option_indices p)
  option_answered None None h = tt
  option_answered None (Some j) h = absurd h
  option_answered (Some i) None h = absurd h
  option_answered (Some i) (Some j) h = (h, tt)

  option_same : (o p : Option R) → IsOptionAnswered answers o p → option_map (λ i. tt {0}) p ≡ option_map (λ i. tt {0}) o
  option_same None None h = refl
  option_same None (Some j) h = absurd h
  option_same (Some i) None h = absurd h
  option_same (Some i) (Some j) h = refl

  -- ---- composite types

  abbrev entry : Bool → InnerOf R → Option R → Option R → EntryOf R
  entry s x d e = record { is_final = true; supertype = None; shared = s; descriptor = d; describes = e; inner = x }

  abbrev Inner : Result (Unit {0}) E → InnerOf R → InnerOf R → Type 0
  Inner r = Remapped inner_shape inner_indices answers r

  abbrev Entry : Result (Unit {0}) E → EntryOf R → EntryOf R → Type 0
  Entry r = Remapped entry_shape entry_indices answers r

  module _ (s : Bool) (x y : InnerOf R) (d e : Option R) where
    same_entry : (p q : Option R) → inner_shape y ≡ inner_shape x → option_map (λ i. tt {0}) p ≡ option_map (λ i. tt {0}) d → option_map (λ i. tt {0})
        q ≡ option_map (λ i. tt {0}) e
        → entry_shape (entry s y p q) ≡ entry_shape (entry s x d e)
    same_entry p q a b c = λ i. record { is_final = true; supertype = None; shared = s; descriptor = b i; describes = c i; inner = a i }

    pub cut_inner : (err : E) → Inner (Err err) x y → Entry (Err err) (entry s x d e) (entry s y d e)
    cut_inner err h = record {
      same = same_entry d e h.same refl refl;
      walked = cut_before answers err (inner_indices x) (inner_indices y)
          (option_indices d ++ option_indices e) h.walked;
    }

    pub cut_descriptor : (err : E) (i : R) → Inner (Ok (tt {0})) x y → d ≡ Some i → answers i (Err err) → Entry (Err err) (entry s x d e) (entry s y d e)
    cut_descriptor err i h p t = record {
      same = same_entry d e h.same refl refl;
      walked = walked_next answers {U = Unit {0}} (Err err) (inner_indices x) (inner_indices y) _ _ h.walked
          (cut_before answers err (option_indices d) (option_indices d) (option_indices e) (refused_option d i err p t));
    }

    pub cut_describes : (err : E) (i : R) (p : Option R) → Inner (Ok (tt {0})) x y → IsOptionAnswered answers d p → e ≡ Some i → answers i (Err err) →
        Entry (Err err) (entry s x d e) (entry s y p e)
    cut_describes err i p h a q t = record {
      same = same_entry p e h.same (option_same d p a) refl;
      walked = walked_next answers {U = Unit {0}} (Err err) (inner_indices x) (inner_indices y) _ _ h.walked
          (walked_next answers {U = Unit {0}} (Err err) (option_indices d) (option_indices p) (option_indices e) (option_indices e)
          (option_answered d p a) (refused_option e i err q t));
    }

    pub whole_entry : (p q : Option R) → Inner (Ok (tt {0})) x y → IsOptionAnswered answers d p → IsOptionAnswered answers e q → Entry (Ok (tt {0})) (entry s x d e) (entry s y p q)
    whole_entry p q h a b = record {
      same = same_entry p q h.same (option_same d p a) (option_same e q b);
      walked = walked_next answers (Ok (tt {0})) (inner_indices x) (inner_indices y) _ _ h.walked
          (walked_next answers (Ok (tt {0})) (option_indices d) (option_indices p) (option_indices e) (option_indices q) (option_answered d p a) (option_answered e q b));
    }

-- ---- subtypes

first_map : {R : Type 0} (is : List R) → option_map (λ i. tt {0}) (first_of is) ≡ first_of (map (λ i. tt {0}) is)
first_map [] = refl
first_map (i ∷ is) = refl

pub same_declared : {R : Type 0} (f : Bool) (is js : List R) (c d : EntryOf R) → list_shape js ≡ list_shape is → entry_shape d ≡ entry_shape c →
    declared_shape (declared_with f js d) ≡ declared_shape (declared_with f is c)
same_declared f is js c d a e =
    let first : option_map (λ i. tt {0}) (first_of js) ≡ option_map (λ i. tt {0}) (first_of is) = first_map js ∙ ap first_of a ∙ sym (first_map is) in
    λ i. record {
      supertypes = a i;
      entry = record {
        is_final = f;
        supertype = first i;
        shared = (e i).shared;
        descriptor = (e i).descriptor;
        describes = (e i).describes;
        inner = (e i).inner;
      };
    }

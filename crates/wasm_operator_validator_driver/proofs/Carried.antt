-- What operators on objects and references carry, at an offset in a slice.
use Rattle.std.proofs.Common.{◌≡◌, ℕ, ◌+◌, ◌-◌, ◌<◌, ◌≤◌, List, length, drop, get_or, true, false, Some, ℤ, pos, negsuc, nat_abs}
use Rattle.std.proofs.Common.{◌∙◌, lt-ltb, refl, arith}
use Rattle.std.specs.Prelude.{◌==◌}
use Rattle.std.specs.Int.Signed.{lt_z, le_z}
use Rattle.std.proofs.lemmas.Bool.{leb-false, ne_eqb}
use Rattle.std.proofs.lemmas.List.{drop_more}
use Rattle.wasm_types.specs.decoding.Decoder.{State, Done}
use Rattle.wasm_types.specs.decoding.Leb.{u32, s33}
use Rattle.wasm_types.specs.settings.Settings.{Settings}
use Rattle.wasm_types.specs.trees.declared.index.UnpackedIndex.TheVariants.{Module}
use Rattle.wasm_types.specs.values.declared.heap.AbstractHeapType.{AbstractHeapType}
use Rattle.wasm_types.specs.values.declared.heap.HeapType.{HeapType}
use Rattle.wasm_types.specs.values.declared.heap.HeapType.TheVariants.{Abstract, Concrete}
use Rattle.wasm_types.specs.values.Decode.{begins_index, type_of_byte, concrete_from, concrete_heap_type, heap_type_after, heap_type}
use Rattle.wasm_types.specs.decoding.Numbers.{behind, GivesAt}
use Rattle.wasm_operators_immediates.specs.Kinds as kind
use Rattle.wasm_operators_immediates.specs.Immediates.{Count, Heap}
use Rattle.wasm_operators_encoding.specs.immediates.Immediates.{immediate}
use Rattle.wasm_operators_frequent.proofs.ShortReading.{gives_as}

module _ (settings : Settings) (text : List ℕ) (i e : ℕ) where
  pub count_of : (n : ℕ) → GivesAt u32 text i n e → GivesAt (immediate settings kind.Count) text i (Count n) e
  unfolding immediate
  count_of n g = gives_as u32 text i n Count e g

  pub heap_of : (ty : HeapType) → GivesAt heap_type text i ty e → GivesAt (immediate settings kind.Heap) text i (Heap ty) e
  unfolding immediate
  heap_of ty g = gives_as heap_type text i ty Heap e g

-- ---- heap types by their index

-- a number that is not negative, below the limit
concrete_by : (place : ℕ) (n : ℤ) (s : State) → lt_z n (pos 0) ≡ false → le_z (pos 0x10_0000) n ≡ false → concrete_from place n s ≡ Done (Concrete (Module (nat_abs n))) s
concrete_by place (pos n) s some small = rw (lt-ltb n 0x10_0000 (leb-false 0x10_0000 n small)) refl
concrete_by place (negsuc n) s some small = absurd cc

read_concrete : (n : ℤ) (s t : State) → s33 s ≡ Done n t → lt_z n (pos 0) ≡ false → le_z (pos 0x10_0000) n ≡ false → concrete_heap_type s ≡ Done (Concrete (Module (nat_abs n))) t
unfolding concrete_heap_type
read_concrete n s t read some small = rw read (concrete_by s.place n t some small)

module _ (text : List ℕ) (i : ℕ) (lt : i < length text) (is : begins_index (get_or text i 0) ≡ true) where
  heap_by_index : (s : State) → s.rest ≡ drop i text → heap_type s ≡ concrete_heap_type s
  unfolding heap_type
  heap_by_index s same = rw (same ∙ drop_more text i 0 lt, is) refl

  pub concrete_there : (n : ℤ) (e : ℕ) → lt_z n (pos 0) ≡ false → le_z (pos 0x10_0000) n ≡ false → GivesAt s33 text i n e → GivesAt heap_type text i (Concrete (Module (nat_abs n))) e
  concrete_there n e some small g = record {
    forward = g.forward;
    inside = g.inside;
    gives = λ s same. heap_by_index s same ∙ read_concrete n s (behind (e - i) s) (g.gives s same) some small;
  }

-- ---- abstract heap types

after_abstract : (b : ℕ) (ty : AbstractHeapType) (s : State) → (b == 0x65) ≡ false → (b == 0x62) ≡ false → type_of_byte b ≡ Some ty
    → heap_type_after b s ≡ Done (Abstract false ty) s
unfolding heap_type_after
after_abstract b ty s not_shared not_exact is = rw (not_shared, not_exact, is) refl

module _ (text : List ℕ) (i : ℕ) (lt : i < length text) (none : begins_index (get_or text i 0) ≡ false) where
  heap_by_byte : (s : State) → s.rest ≡ drop i text → heap_type s ≡ heap_type_after (get_or text i 0) (behind 1 s)
  unfolding heap_type
  heap_by_byte s same = rw (same ∙ drop_more text i 0 lt, none) refl

  pub abstract_there : (ty : AbstractHeapType) → 0x66 ≤ get_or text i 0 → type_of_byte (get_or text i 0) ≡ Some ty → GivesAt heap_type text i (Abstract false ty) (i + 1)
  abstract_there ty le is = record {
    forward = omega arith;
    inside = omega arith;
    gives = λ s same.
        let one : i + 1 - i ≡ 1 = omega arith in
        let not_shared = ne_eqb (get_or text i 0) 0x65 (λ e. omega (arith, e, le)) in
        let not_exact = ne_eqb (get_or text i 0) 0x62 (λ e. omega (arith, e, le)) in
        rw one (heap_by_byte s same ∙ after_abstract (get_or text i 0) ty (behind 1 s) not_shared not_exact is);
  }

-- What is kept of items, each row by computing it.
use Rattle.std.proofs.Common.{◌≡◌, ℕ, List, [], ◌∷◌, refl, ap}
use Rattle.wasm_types.specs.decoding.Decoder.{State, Outcome, Done, byte, repeated}
use Rattle.wasm_types.specs.decoding.Leb.{unsigned, u32}
use Rattle.wasm_types.specs.settings.Settings.{no_features}
use Rattle.wasm_sections_tests.specs.Items.{ElementRows, HeldRows, ModeRows, there}

pub element_rows : ElementRows
unfolding repeated unsigned
element_rows = record {
  whole = λ s r h. rw (h.counted, h.reader) refl;
  byte_left = λ s r h. rw (h.counted, h.reader) refl;
  byte_missing = λ s r h. rw (h.counted, h.reader) refl;
  of_expressions = λ s r h. rw (h.counted, h.reader) refl;
  expression_left = λ s r h. rw (h.counted, h.reader) refl;
  given_as_functions = λ s h. h;
  given_as_expressions = λ s h. h;
  given_of_another_type = λ s q h. h.0;
}

-- before the list of two elements, its count too
abbrev before : List ℕ → State
before items = record { rest = 0x02 ∷ items; place = 17; settings = no_features; start = 0 }

-- the state behind no item, with a byte left
no_item : (reader end : State) (items : List ℕ) → reader ≡ there (0x06 ∷ []) → repeated 0 u32 reader ≡ Done items end → end.rest ≡ [] → ⊥
unfolding repeated
no_item reader end items e r none = let rest : reader.rest ≡ end.rest = ap rest_of r in let here : reader.rest ≡ 0x06 ∷ [] = ap (λ (s : State). s.rest) e in cc
  where
    rest_of : Outcome (List ℕ) → List ℕ
    rest_of (Done xs s) = s.rest
    rest_of o = []

one_item : (reader end : State) (items : List ℕ) → reader ≡ there [] → repeated 1 byte reader ≡ Done items end → ⊥
unfolding repeated
one_item reader end items e r = let r' = rw e at r in cc

pub held_rows : HeldRows
unfolding repeated unsigned
held_rows = record {
  held = λ s n r. (
    before (0x06 ∷ 0x07 ∷ 0x0b ∷ []),
    rw (n, r) (record {
      text = 0x02 ∷ 0x06 ∷ 0x07 ∷ [];
      items = 6 ∷ 7 ∷ [];
      end = record { rest = []; place = 20; settings = no_features; start = 17 };
      taken = record { parts = refl; place = refl; settings = refl; start = refl };
      counted = refl;
      read = refl;
      none_left = refl;
    }),
  );
  held_expressions = λ s n r. (
    before (0x86 ∷ 0x07 ∷ 0x0b ∷ []),
    rw (n, r) (record {
      text = 0x02 ∷ 0x86 ∷ 0x07 ∷ [];
      items = 0x86 ∷ 7 ∷ [];
      end = record { rest = []; place = 20; settings = no_features; start = 17 };
      taken = record { parts = refl; place = refl; settings = refl; start = refl };
      counted = refl;
      read = refl;
      none_left = refl;
    }),
  );
  byte_left = λ s h x. let read = rw h.counted at x.1.read in no_item _ _ _ h.reader read x.1.none_left;
  byte_missing = λ s h x. let read = rw h.counted at x.1.read in one_item _ _ _ h.reader read;
}

pub mode_rows : ModeRows
mode_rows = record { unused = refl; placed = refl; placed_in_a_table = refl; declaring = refl; unused_data = refl; placed_data = refl; nulls = refl; initialised = refl }

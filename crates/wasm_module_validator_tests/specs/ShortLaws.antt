-- Worked rows of items that their bytes alone tell.
use Rattle.std.proofs.Common.{◌≡◌, ◌∙◌, ◌+◌, ◌<◌, ℕ, List, [], ◌∷◌, ◌++◌, length, drop, refl, sym, ap, subst, arith, inl}
use Rattle.std.proofs.lemmas.List.{length-append}
use Rattle.wasm_types.specs.decoding.Decoder.{State, Done, byte}
use Rattle.wasm_types.specs.decoding.ExactLaws.{value_is}
use Rattle.wasm_types.specs.decoding.Leb.{IsUnsigned, last, more}
use Rattle.wasm_types.specs.settings.declared.Limits.{Limits}
use Rattle.wasm_types.specs.settings.Settings.{no_features}
use Rattle.wasm_types.specs.trees.Trees.{TypeTree}
use Rattle.wasm_types.specs.trees.Types.{SubtypeOf}
use Rattle.wasm_types.specs.trees.ValidGroup.{Written, types_from}
use Rattle.wasm_operators_bodies.specs.declared.short.ShortConstant.TheVariants as short
use Rattle.wasm_operators_bodies.specs.Short.{SpellsShort}
use Rattle.wasm_operators_bodies.specs.ShortLaws.{short_is_constant}
use Rattle.wasm_module_validator_section_order.specs.rules_in_order.Between.{IsBetween}
use Rattle.wasm_module_validator_section_order.specs.rules.Spaces.{types_behind}
use Rattle.wasm_module_validator_initialisers.specs.segments.Short.{IsShortData}
use Rattle.wasm_module_validator_section_order.specs.items.Adding.{IsRead}
use Rattle.wasm_module_validator_tests.specs.Short.{BetweenRows, AddsByte, AddsRows, ShortDataRows, RoomRows, IsByteOf, IsTwo, alone, three}

-- ---- bytes between two offsets

first_two : (front : List ℕ) → front ≡ 2 ∷ [] → three ≡ front ++ (2 ∷ 3 ∷ []) → ⊥
first_two front is whole = let both : three ≡ 2 ∷ 2 ∷ 3 ∷ [] = whole ∙ ap (λ (f : List ℕ). f ++ (2 ∷ 3 ∷ [])) is in cc

pub between_rows : BetweenRows
between_rows = record {
  second = record { front = 2 ∷ []; whole = refl; place = refl; inside = omega arith; such = refl };
  another_byte = λ b. first_two b.front b.such b.whole;
  too_long = λ b. let long = ap length b.such in let place = b.place in omega (arith, long, place);
  beyond = λ b. let inside = b.inside in omega (arith, inside);
}

-- ---- items that their bytes alone tell

-- such bytes are the item alone
spelled_so : (l : Limits) (before after i j : ℕ) (a : AddsByte l before after i j) → a.front ≡ a.item ∷ []
spelled_so l before after i j a = a.spelled (record no_features { limits = l }) refl

-- the item is the byte there
item_is_two : (front : List ℕ) (x : ℕ) → front ≡ x ∷ [] → 2 ∷ 3 ∷ [] ≡ front ++ (3 ∷ []) → x ≡ 2
item_is_two front x is whole = let both : 2 ∷ 3 ∷ [] ≡ x ∷ 3 ∷ [] = whole ∙ ap (λ (f : List ℕ). f ++ (3 ∷ [])) is in cc

pub adds_rows : (l : Limits) → AddsRows l
adds_rows l = record {
  second = record {
    item = 2;
    front = 2 ∷ [];
    whole = refl;
    place = refl;
    inside = omega arith;
    spelled = λ z same. refl;
    may = λ m here. (m + 2, refl);
    added = λ m n here is. omega (arith, here, is);
  };
  another_sum = λ a.
      let two = item_is_two a.front a.item (spelled_so l 7 8 1 2 a) a.whole in
      let sum : 8 ≡ 7 + a.item = a.added 7 (7 + a.item) refl refl in
      omega (arith, two, sum);
  no_bytes = λ a. let long = ap length (spelled_so l 7 7 1 1 a) in let place = a.place in omega (arith, long, place);
}

no_number : (n : ℕ) (text : List ℕ) → text ≡ [] → IsUnsigned 32 n text → ⊥
no_number n text e (last N v k a b c) = absurd cc
no_number n text e (more N v k m rest a b c d) = absurd cc

zero_is : IsUnsigned 32 0 (0 ∷ [])
zero_is = last 32 0 0 (omega arith) (omega arith) refl

one_is : IsUnsigned 32 1 (1 ∷ [])
one_is = last 32 1 1 (omega arith) (omega arith) refl

pub short_data_rows : ShortDataRows
short_data_rows = record {
  at_zero = λ number. record {
    constant = 0x41 ∷ 0x00 ∷ 0x0b ∷ [];
    content = 0x61 ∷ [];
    number = number;
    bytes = record {
      front = 0x00 ∷ 0x41 ∷ 0x00 ∷ 0x0b ∷ 0x01 ∷ 0x61 ∷ [];
      whole = refl;
      place = refl;
      inside = omega arith;
      such = λ z. record {
        flag = 0;
        flag_text = 0 ∷ [];
        behind = 0x41 ∷ 0x00 ∷ 0x0b ∷ 0x01 ∷ 0x61 ∷ [];
        flagged = zero_is;
        spelled = inl (
          refl,
          record {
            offset = 0x41 ∷ 0x00 ∷ 0x0b ∷ [];
            offset_text = 0x41 ∷ 0x00 ∷ 0x0b ∷ [];
            content_text = 0x01 ∷ 0x61 ∷ [];
            mode = refl;
            placed = (refl, short_is_constant short.I32 (0x41 ∷ 0x00 ∷ 0x0b ∷ []) number z);
            filled = record { size = 0x01 ∷ []; content = 0x61 ∷ []; counted = one_is; spelled = refl; whole = refl };
            whole = refl;
          },
        );
        whole = refl;
      };
    };
  };
  nothing = λ s.
      let b = s.bytes in
      let spelled = b.such no_features in
      let place = b.place in
      let long = ap length spelled.whole in
      no_number spelled.flag spelled.flag_text (none_there spelled.flag_text (omega (arith, place, long, length-append spelled.flag_text spelled.behind))) spelled.flagged;
}
  where
    none_there : (text : List ℕ) → length text ≡ 0 → text ≡ []
    none_there [] e = refl
    none_there (x ∷ text) e = absurd (omega (arith, e))

-- ---- an item that has no room

-- where these bytes are read
abbrev at : List ℕ → ℕ → State
at text place = record { rest = text; place = place; settings = no_features; start = 5 }

abbrev Reads : State → ℕ → State → Type 0
Reads = IsRead {T = ℕ} {V = ℕ} {A = ℕ} (λ y. y) (λ y. y) byte

-- the first of three is no two
not_two : (here there : State) → at three 9 ≡ here → Reads here 2 there → ⊥
not_two here there is (x, same, read) =
    let one : Done 1 (at (2 ∷ 3 ∷ []) 10) ≡ Done x there = subst (λ (s : State). byte s ≡ Done x there) (sym is) read in
    let both = value_is 1 x (at (2 ∷ 3 ∷ []) 10) there one in
    omega (arith, both, same)

-- a group of one type comes after one type
one_before : (t : SubtypeOf ℕ) (types : List TypeTree) (front : List Written) → front ≡ alone t ∷ [] → types ≡ types_behind [] front → length types ≡ 1
unfolding types_from
one_before t types front is same = ap (λ (ts : List TypeTree). length ts) same ∙ ap (λ (gs : List Written). length (types_behind [] gs)) is

one_own : (t : SubtypeOf ℕ) (n : ℕ) (x : Written) → x ≡ alone t → n ≡ length x.types → n ≡ 1
one_own t n x is size = size ∙ ap (λ (g : Written). length g.types) is

pub room_rows : (t : SubtypeOf ℕ) → RoomRows t
unfolding types_from
room_rows t = record {
  first = record { here = at three 9; there = at (2 ∷ 3 ∷ []) 10; read = refl; fewer = omega arith; is = (1, refl, refl) };
  second = record {
    here = at (2 ∷ 3 ∷ []) 10;
    there = at (3 ∷ []) 11;
    read = (at (2 ∷ 3 ∷ []) 10, (1, refl, refl), refl);
    fewer = omega arith;
    is = (2, refl, refl);
  };
  not_first = λ h. not_two h.here h.there h.read h.is;
  not_of_one = λ h. let fewer = h.fewer in omega (arith, fewer);
  one_and_one = (alone t ∷ [], alone t, (refl, refl), refl, refl);
  none_before = λ h. let one = one_before t [] h.0 h.2.0 h.3 in omega (arith, one);
  two_types = λ h. let one = one_own t 2 h.1 h.2.1 h.4 in omega (arith, one);
  function = λ h. h;
}

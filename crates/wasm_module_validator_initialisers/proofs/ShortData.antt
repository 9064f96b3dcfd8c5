-- The bytes of a data segment at a number.
use Rattle.std.proofs.Common.{◌≡◌, ◌≤◌, ℕ, ◌+◌, ◌-◌, List, ◌++◌, refl, sym, ap, ◌∙◌, subst, arith, length, take, drop, inl}
use Rattle.std.proofs.lemmas.List.{length-take-le, length-drop}
use Rattle.wasm_types.specs.decoding.Leb.{u32, IsUnsigned}
use Rattle.wasm_types.specs.decoding.Numbers.{GivesAt}
use Rattle.wasm_operators_bodies.specs.declared.short.ShortConstant.TheVariants as short
use Rattle.wasm_operators_bodies.specs.Short.{SpellsShort}
use Rattle.wasm_operators_bodies.specs.ShortLaws.{short_is_constant}
use Rattle.wasm_module_validator_resources.specs.rules_in_order.BetweenLaws.{InTurn, in_turn, between_so, bytes_between, number_between}
use Rattle.wasm_module_validator_initialisers.specs.segments.Short.{IsShortData, SpellsInFirst}

module _ (text : List ℕ) (i first long count start : ℕ) where
  abbrev constant : List ℕ
  constant = take long (drop first text)

  abbrev content : List ℕ
  content = take count (drop start text)

  abbrev Parts : List ℕ → Type 0
  Parts = InTurn (IsUnsigned 32 0) (InTurn (λ t. t ≡ constant) (InTurn (IsUnsigned 32 count) (λ t. t ≡ content)))

  -- the parts are those of a segment
  spells : SpellsShort short.I32 constant → length content ≡ count → (t : List ℕ) → Parts t → SpellsInFirst constant content t
  spells number many t (flag_text, behind, flagged, (c, sized, is, (size_text, b, counted, filled, whole_sized), whole_behind), whole) z = record {
    flag = 0;
    flag_text = flag_text;
    behind = behind;
    flagged = flagged;
    spelled = inl (
      refl,
      record {
        offset = constant;
        offset_text = constant;
        content_text = sized;
        mode = refl;
        placed = (refl, short_is_constant short.I32 constant number z);
        filled = record {
          size = size_text;
          content = content;
          counted = subst (λ (k : ℕ). IsUnsigned 32 k size_text) (sym many) counted;
          spelled = refl;
          whole = whole_sized ∙ ap (λ (r : List ℕ). size_text ++ r) filled;
        };
        whole = whole_behind ∙ ap (λ (r : List ℕ). r ++ sized) is;
      },
    );
    whole = whole;
  }

  pub short_data : GivesAt u32 text i 0 first → long ≤ length (drop first text) → SpellsShort short.I32 (take long (drop first text))
      → GivesAt u32 text (first + long) count start → count ≤ length text - start → IsShortData text i (start + count)
  short_data flag inside number sized room =
      let some = length-drop start text in
      let here = length-drop first text in
      let many : length content ≡ count = length-take-le count (drop start text) (omega (arith, some, room)) in
      record {
        constant = constant;
        content = content;
        number = number;
        bytes = between_so Parts (SpellsInFirst constant content) text i (start + count) (spells number many)
            (in_turn _ _ text i first (start + count) (number_between text i 0 first flag)
            (in_turn _ _ text first (first + long) (start + count) (bytes_between text first long (omega (arith, here, inside, flag.inside)))
            (in_turn _ _ text (first + long) start (start + count) (number_between text (first + long) count start sized)
            (bytes_between text start count (omega (arith, room, sized.inside))))));
      }

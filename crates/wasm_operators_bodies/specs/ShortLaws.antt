-- An operator and the `end` behind it are a constant expression.
use Rattle.std.proofs.Common.{◌≡◌, ◌∙◌, ℕ, ◌+◌, ◌-◌, ◌<◌, ◌≤◌, List, [], ◌∷◌, ◌++◌, length, take, drop, get_or, false, true, IsTrue, Some, refl, sym, ap, subst, arith, append-nil}
use Rattle.std.proofs.lemmas.List.{drop_more, append_assoc, length-append, take-append-le, take_all}
use Rattle.wasm_types.specs.settings.Settings.{Settings}
use Rattle.wasm_types.specs.values.declared.heap.AbstractHeapType.{AbstractHeapType}
use Rattle.wasm_types.specs.values.declared.heap.HeapType.TheVariants.{Abstract}
use Rattle.wasm_types.specs.values.Spells.{abstract_byte}
use Rattle.wasm_types.specs.values.Trees.{abstract_of}
use Rattle.wasm_types.specs.decoding.Decoder.{State, Takes}
use Rattle.wasm_types.specs.decoding.Numbers.{behind, GivesAt}
use Rattle.wasm_operators_immediates.specs.declared.frames.FrameKind.TheVariants.{Block}
use Rattle.wasm_operators_enums.specs.declared.bulk.BulkOperator.TheVariants as bulk
use Rattle.wasm_operators_enums.specs.declared.control.ControlOperator.TheVariants as control
use Rattle.wasm_operators_enums.specs.Op as op
use Rattle.wasm_operators_enums.specs.Op.{Op}
use Rattle.wasm_operators_enums.specs.Immediates.{is_canonical}
use Rattle.wasm_operators_enums.specs.Roles.{role_of}
use Rattle.wasm_operators_enums.specs.declared.role.Role.TheVariants.{Plain}
use Rattle.wasm_operators_encoding.specs.Coded.{operator}
use Rattle.wasm_operators_encoding.specs.Operators.{coded_of, SpelledOperator}
use Rattle.wasm_operators_encoding.specs.expressions.Code.{IsExpression}
use Rattle.wasm_operators_encoding.specs.expressions.Spelling.{SpelledExpression}
use Rattle.wasm_operators_encoding.specs.expressions.SpellingLaws.{read_spelled}
use Rattle.wasm_operators_frequent.specs.Short.{IsTold}
use Rattle.wasm_operators_bodies.specs.declared.short.ShortConstant.{ShortConstant}
use Rattle.wasm_operators_bodies.specs.declared.short.ShortConstant.TheVariants as short
use Rattle.wasm_operators_encoding.specs.Ends.{is_end, IsConstantText}
use Rattle.wasm_operators_bodies.specs.Short.{IsOf, alone, SpellsShort}

-- such an operator opens and closes no frame
pub plain_of : (c : ShortConstant) (o : Op) → IsOf c o → role_of o ≡ Plain
plain_of short.I32 o (n, e) = rw e refl
plain_of short.I64 o (n, e) = rw e refl
plain_of (short.Global x) o e = rw e refl
plain_of (short.Function x) o e = rw e refl
plain_of (short.Null t) o e = rw e refl

-- the bytes from one offset to another
module _ (z : Settings) (text : List ℕ) where
  at_offset : ℕ → State
  at_offset i = record { rest = drop i text; place = i; settings = z; start = 0 }

  part_of : (i j : ℕ) (o : Op) → IsTrue (is_canonical o) → GivesAt (operator z) text i (coded_of o) j
      → (front : List ℕ) × SpelledOperator z o front × (drop i text ≡ front ++ drop (j - i) (drop i text)) × (length front ≡ j - i)
  unfolding at_offset
  part_of i j o canonical g =
      let (front, takes, spelled) = read_spelled z (at_offset i) (behind (j - i) (at_offset i)) o (g.gives _ refl) canonical in
      (front, spelled, takes.parts, omega (arith, takes.place))

-- a front is as long as it is
front_is : (n : ℕ) (xs rest text : List ℕ) → text ≡ xs ++ rest → length xs ≡ n → take n text ≡ xs
front_is n xs rest text e l = ap (take n) e ∙ take-append-le n xs rest (omega (arith, l)) ∙ take_all n xs (omega (arith, l))

module _ (c : ShortConstant) (text : List ℕ) (i : ℕ) where
  -- an operator and the `end` behind it
  pub short_spelled : ((features : ℕ) → IsTold features text 0 i (IsOf c)) → ((features : ℕ) → IsTold features text i (i + 1) (λ o. o ≡ op.Control control.End))
      → SpellsShort c (take (i + 1) text)
  short_spelled first last z =
      let a = first z.features in
      let b = last z.features in
      let (xs, spelled_a, parts_a, long_a) = part_of z text 0 i a.op a.canonical (a.reads z.limits) in
      let (ys, spelled_b, parts_b, long_b) = part_of z text i (i + 1) b.op b.canonical (b.reads z.limits) in
      let off : i - 0 ≡ i = omega arith in
      let parts : text ≡ (xs ++ ys) ++ drop (i + 1 - i) (drop i text) = parts_a ∙ ap (λ (k : ℕ). xs ++ drop k text) off ∙ ap (λ (r : List ℕ). xs ++ r) parts_b ∙ sym (append_assoc xs ys (drop (i + 1 - i) (drop i text))) in
      let long : length (xs ++ ys) ≡ i + 1 = length-append xs ys ∙ omega (arith, long_a, long_b) in
      let ended : SpelledOperator z (op.Control control.End) ys = subst (λ (o : Op). SpelledOperator z o ys) b.told spelled_b in
      let expression : IsExpression (alone a.op) = (rw (plain_of c a.op a.told) refl, refl) in
      let whole : SpelledExpression z (alone a.op) (xs ++ ys) = record { expression = expression; spelled = (xs, ys, spelled_a, (ys, [], ended, refl, sym (append-nil ys)), refl) } in
      (a.op, a.told, subst (λ (t : List ℕ). SpelledExpression z (alone a.op) t) (sym (front_is (i + 1) (xs ++ ys) (drop (i + 1 - i) (drop i text)) text parts long)) whole)

-- it is a constant expression among other bytes
pub short_is_constant : (c : ShortConstant) (text : List ℕ) → SpellsShort c text → (z : Settings) → IsConstantText z text
short_is_constant c text h z =
    let (o, is, spelled) = h z in
    record {
      code = alone o;
      spelled = spelled;
      once = record { front = o ∷ []; last = op.Control control.End; whole = refl; none = (rw (plain_of c o is) refl, tt); ended = refl };
    }

-- a null of three bytes
module _ (t : AbstractHeapType) where
  null_text : (z : Settings) → SpelledExpression z (alone (op.Bulk (bulk.RefNull (Abstract false t)))) (0xd0 ∷ abstract_byte (abstract_of t) ∷ 0x0b ∷ [])
  null_text z = record {
    expression = (refl, refl);
    spelled = (
      0xd0 ∷ abstract_byte (abstract_of t) ∷ [],
      0x0b ∷ [],
      record {
        canonical = refl;
        front = 0xd0 ∷ [];
        back = abstract_byte (abstract_of t) ∷ [];
        opcode = (refl, refl);
        carried = (abstract_byte (abstract_of t) ∷ [], [], refl, refl, refl);
        whole = refl;
      },
      (0x0b ∷ [], [], record { canonical = refl; front = 0x0b ∷ []; back = []; opcode = (refl, refl); carried = refl; whole = refl }, refl, refl),
      refl,
    );
  }

  pub null_spelled : (text : List ℕ) → 3 ≤ length text → get_or text 0 0 ≡ 0xd0 → get_or text 1 0 ≡ abstract_byte (abstract_of t) → get_or text 2 0 ≡ 0x0b
      → SpellsShort (short.Null t) (take 3 text)
  null_spelled text inside first type last z =
      let p : text ≡ get_or text 0 0 ∷ drop 1 text = drop_more text 0 0 (omega (arith, inside)) in
      let q : drop 1 text ≡ get_or text 1 0 ∷ drop 2 text = drop_more text 1 0 (omega (arith, inside)) in
      let r : drop 2 text ≡ get_or text 2 0 ∷ drop 3 text = drop_more text 2 0 (omega (arith, inside)) in
      let whole : text ≡ get_or text 0 0 ∷ get_or text 1 0 ∷ get_or text 2 0 ∷ drop 3 text
      = p ∙ ap (λ (xs : List ℕ). get_or text 0 0 ∷ xs) (q ∙ ap (λ (xs : List ℕ). get_or text 1 0 ∷ xs) r) in
      let part : take 3 text ≡ get_or text 0 0 ∷ get_or text 1 0 ∷ get_or text 2 0 ∷ [] = ap (take 3) whole in
      let bytes : take 3 text ≡ 0xd0 ∷ abstract_byte (abstract_of t) ∷ 0x0b ∷ [] = part ∙ rw (first, type, last) refl in
      (op.Bulk (bulk.RefNull (Abstract false t)), refl, subst (λ (xs : List ℕ). SpelledExpression z (alone (op.Bulk (bulk.RefNull (Abstract false t)))) xs) (sym bytes) (null_text z))

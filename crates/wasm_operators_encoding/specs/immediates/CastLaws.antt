-- A branch on a cast is read lawfully, and exactly where bytes spell it.
use Rattle.std.proofs.Common.{◌≡◌, ℕ, ◌+◌, ◌/◌, ◌%◌, ◌<◌, ◌≤◌, List, [], ◌∷◌, ◌++◌, refl, sym, ap, ◌∙◌, subst, arith, ltb, eqb, Bool, true, false}
use Rattle.std.specs.Prelude.{nat_lt, ◌==◌}
use Rattle.std.proofs.lemmas.Bool.{eqb-true, eqb-false, ltb-true, ltb-false}
use Rattle.wasm_types.specs.decoding.declared.Refusal.TheVariants.{Other}
use Rattle.wasm_types.specs.decoding.Decoder.{Grammar, ◌>>=◌, pure, byte, IsLawful, Decides, Then}
use Rattle.wasm_types.specs.decoding.Laws.{lawful-byte, lawful->>=, lawful-pure, lawful-refuse, lawful-if}
use Rattle.wasm_types.specs.decoding.ExactLaws.{Mapped, decides->>=, decides-same, decides-refuse, decides-if, decides-map, decides-byte}
use Rattle.wasm_types.specs.decoding.Leb.{u32, IsUnsigned}
use Rattle.wasm_types.specs.decoding.LebLaws.{lawful-unsigned, decides-u32}
use Rattle.wasm_types.specs.values.Reference.{Reference}
use Rattle.wasm_types.specs.values.Decode.{heap_type, reference, long_reference}
use Rattle.wasm_types.specs.values.DecodeLaws.{lawful-heap_type}
use Rattle.wasm_types.specs.values.Spelled.{Spelled}
use Rattle.wasm_types.specs.values.HeapLaws.{decides-heap_type, heads, tails}
use Rattle.wasm_operators_encoding.specs.declared.immediates.cast.CastBranch.{CastBranch}
use Rattle.wasm_operators_encoding.specs.immediates.MemoryArguments.{weight}
use Rattle.wasm_operators_encoding.specs.immediates.Casts.{branch, cast_after, cast_branch, SpelledCast}

lawful-long : (nullable : Bool) → IsLawful (long_reference nullable)
lawful-long nullable = lawful->>= heap_type _ lawful-heap_type (λ h. lawful-pure (reference nullable h))

lawful-cast_after : (b : ℕ) → IsLawful (cast_after b)
unfolding cast_after
lawful-cast_after b = lawful-if (nat_lt b 4) _ _
    (lawful->>= u32 _ (lawful-unsigned 4 4) (λ depth. lawful->>= (long_reference (b % 2 == 1)) _ (lawful-long (b % 2 == 1))
    (λ from. lawful->>= (long_reference (b / 2 == 1)) _ (lawful-long (b / 2 == 1)) (λ to. lawful-pure (branch depth from to)))))
    (lawful-refuse Other 1)

pub lawful-cast_branch : IsLawful cast_branch
unfolding cast_branch
lawful-cast_branch = lawful->>= byte cast_after lawful-byte lawful-cast_after

-- ---- flags

eqb-is : (a b : ℕ) → a ≡ b → eqb b b ≡ true → (a == b) ≡ true
eqb-is a b e t = rw e t

eqb-is_not : (a : ℕ) → a ≡ 0 → (a == 1) ≡ false
eqb-is_not a e = rw e refl

pub record Says (b : ℕ) (m n : Bool) : Type 0 where
  pub small : b < 4
  pub first : (b % 2 == 1) ≡ m
  pub second : (b / 2 == 1) ≡ n

says : (b : ℕ) (m n : Bool) → b ≡ weight m 1 + weight n 2 → Says b m n
says b true true e = record { small = omega arith; first = eqb-is (b % 2) 1 (omega arith) refl; second = eqb-is (b / 2) 1 (omega arith) refl }
says b true false e = record { small = omega arith; first = eqb-is (b % 2) 1 (omega arith) refl; second = eqb-is_not (b / 2) (omega arith) }
says b false true e = record { small = omega arith; first = eqb-is_not (b % 2) (omega arith); second = eqb-is (b / 2) 1 (omega arith) refl }
says b false false e = record { small = omega arith; first = eqb-is_not (b % 2) (omega arith); second = eqb-is_not (b / 2) (omega arith) }

back : (b : ℕ) → b < 4 → b ≡ weight (b % 2 == 1) 1 + weight (b / 2 == 1) 2
back b lt = go (b % 2 == 1) (b / 2 == 1) refl refl
  where
    go : (m n : Bool) → (b % 2 == 1) ≡ m → (b / 2 == 1) ≡ n → b ≡ weight m 1 + weight n 2
    go true true e f = let x = eqb-true _ _ e in let y = eqb-true _ _ f in omega (arith, x, y)
    go true false e f = let x = eqb-true _ _ e in let y = eqb-false _ _ f in omega (arith, x, y)
    go false true e f = let x = eqb-false _ _ e in let y = eqb-true _ _ f in omega (arith, x, y)
    go false false e f = let x = eqb-false _ _ e in let y = eqb-false _ _ f in omega (arith, x, y)

-- ---- exact

module _ (m n : Bool) where
  decides-long : (nullable : Bool) → Decides (long_reference nullable) (Mapped (reference nullable) Spelled)
  decides-long nullable = decides-map heap_type (reference nullable) Spelled decides-heap_type

  abbrev last : ℕ → Reference → Grammar CastBranch
  last depth from = Mapped (branch depth from) (Mapped (reference n) Spelled)

  abbrev types : ℕ → Grammar CastBranch
  types depth = Then (Mapped (reference m) Spelled) (last depth)

  abbrev Branch : Grammar CastBranch
  Branch = Then (IsUnsigned 32) types

  decides-branch : Decides (u32 >>= λ depth. long_reference m >>= λ from. long_reference n >>= λ to. pure (branch depth from to)) Branch
  decides-branch =
      decides->>= u32 _ (IsUnsigned 32) types decides-u32 (λ depth.
      decides->>= (long_reference m) _ (Mapped (reference m) Spelled) (last depth) (decides-long m) (λ from.
      decides-map (long_reference n) (branch depth from) (Mapped (reference n) Spelled) (decides-long n)))

  cast_to : (b : ℕ) → b ≡ weight m 1 + weight n 2 → (c : CastBranch) (text : List ℕ) → Branch c text → SpelledCast c (b ∷ text)
  cast_to b is c text h =
      let a = h.second in
      let z = a.second in
      let whole : b ∷ text ≡ (weight m 1 + weight n 2) ∷ (h.front ++ (a.front ++ a.back)) = λ i. is i ∷ (h.whole ∙ ap (λ (r : List ℕ). h.front ++ r) a.whole) i in
      let from : a.value ≡ reference m a.first.0 = a.first.2 in
      let to : z.0 ≡ reference n z.1.0 = z.1.2 in
      let same : c ≡ branch h.value (reference m a.first.0) (reference n z.1.0) = z.2 ∙ (λ i. branch h.value (from i) (to i)) in
      subst (λ (k : CastBranch). SpelledCast k (b ∷ text)) (sym same)
      (record { label_text = h.front; from_text = a.front; to_text = a.back; label = h.first; before = a.first.1; after = z.1.1; whole = whole })

  cast_from : (c : CastBranch) (text : List ℕ) (b : ℕ) → (h : SpelledCast c (b ∷ text)) → m ≡ c.from_ref_type.nullable → n ≡ c.to_ref_type.nullable → Branch c text
  cast_from c text b h e f =
      let from : c.from_ref_type ≡ reference m c.from_ref_type.heap = λ i. reference (sym e i) c.from_ref_type.heap in
      let to : c.to_ref_type ≡ reference n c.to_ref_type.heap = λ i. reference (sym f i) c.to_ref_type.heap in
      record {
        value = c.relative_depth;
        front = h.label_text;
        back = h.from_text ++ h.to_text;
        first = h.label;
        second = record {
          value = c.from_ref_type;
          front = h.from_text;
          back = h.to_text;
          first = (c.from_ref_type.heap, h.before, from);
          second = (c.to_ref_type, (c.to_ref_type.heap, h.after, to), refl);
          whole = refl;
        };
        whole = tails b _ text (h.label_text ++ (h.from_text ++ h.to_text)) h.whole;
      }

said : (c : CastBranch) (b : ℕ) (text : List ℕ) → SpelledCast c (b ∷ text) → Says b c.from_ref_type.nullable c.to_ref_type.nullable
said c b text h = says b c.from_ref_type.nullable c.to_ref_type.nullable (heads b _ text (h.label_text ++ (h.from_text ++ h.to_text)) h.whole)

decides-cast_after : (b : ℕ) → Decides (cast_after b) (λ c text. SpelledCast c (b ∷ text))
unfolding cast_after
decides-cast_after b = decides-if (ltb b 4) _ _ _
    (λ t. let lt : b < 4 = ltb-true _ _ t in
    decides-same _ (Branch (b % 2 == 1) (b / 2 == 1)) (λ c text. SpelledCast c (b ∷ text)) (decides-branch (b % 2 == 1) (b / 2 == 1))
    (cast_to (b % 2 == 1) (b / 2 == 1) b (back b lt))
    (λ c text h. cast_from (b % 2 == 1) (b / 2 == 1) c text b h (said c b text h).first (said c b text h).second))
    (λ f. let le : 4 ≤ b = ltb-false _ _ f in decides-refuse Other 1 _ (λ c text h. omega (arith, (said c b text h).small, le)))

pub decides-cast_branch : Decides cast_branch SpelledCast
unfolding cast_branch
decides-cast_branch = decides-byte cast_after SpelledCast (λ c h. let no : [] ≡ (weight c.from_ref_type.nullable 1 + weight c.to_ref_type.nullable 2)
    ∷ (h.label_text ++ (h.from_text ++ h.to_text)) = h.whole in cc) decides-cast_after

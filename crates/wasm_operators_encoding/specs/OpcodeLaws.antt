-- Opcodes are read lawfully and exactly.
use Rattle.std.proofs.Common.{◌≡◌, ℕ, true, false, List, [], ◌∷◌, Option, Some, None, refl, sym, ap, subst, ◌∙◌}
use Rattle.wasm_types.specs.decoding.Decoder.{Grammar, ◌>>=◌, pure, byte, IsLawful, Decides}
use Rattle.wasm_types.specs.decoding.Laws.{lawful->>=, lawful-pure, lawful-byte, lawful-if}
use Rattle.wasm_types.specs.decoding.ExactLaws.{decides-byte, decides-if, decides-map, decides-same, decides-pure, Mapped}
use Rattle.wasm_types.specs.decoding.Leb.{u32, IsUnsigned}
use Rattle.wasm_types.specs.decoding.LebLaws.{lawful-unsigned, decides-u32}
use Rattle.wasm_operators_encoding.specs.Opcodes.{Opcode, is_prefix, plain, prefixed, opcode_after, opcode, Spells, SpelledOpcode}

pub lawful-opcode : IsLawful opcode
unfolding opcode
lawful-opcode = lawful->>= byte opcode_after lawful-byte (λ b. lawful-if (is_prefix b) _ _
    (lawful->>= u32 _ (lawful-unsigned 4 4) (λ code. lawful-pure (prefixed b code))) (lawful-pure (plain b)))

some_byte : (p : Option ℕ) (code : ℕ) → Spells p code [] → ⊥
some_byte None code h = let e : [] ≡ code ∷ [] = h.1 in absurd cc
some_byte (Some b) code h = let e : [] ≡ b ∷ h.0 = h.3 in absurd cc

-- what follows this byte
abbrev After : ℕ → Grammar Opcode
After b o text = SpelledOpcode o (b ∷ text)

module _ (b : ℕ) where
  with_code_to : is_prefix b ≡ true → (o : Opcode) (text : List ℕ) → Mapped (prefixed b) (IsUnsigned 32) o text → After b o text
  with_code_to is o text h = subst (λ (q : Opcode). After b q text) (sym h.2) (text, is, h.1, refl)

  split : is_prefix b ≡ true → (p : Option ℕ) (code : ℕ) (text : List ℕ) → Spells p code (b ∷ text) → Mapped (prefixed b) (IsUnsigned 32) (record { prefix = p; code = code }) text
  split is None code text h =
      let e : b ∷ text ≡ code ∷ [] = h.1 in
      let same : b ≡ code = cc in
      let no : true ≡ false = sym is ∙ ap is_prefix same ∙ h.0 in absurd cc
  split is (Some c) code text h =
      let e : b ∷ text ≡ c ∷ h.0 = h.3 in
      let same : c ≡ b = cc in
      let rest : h.0 ≡ text = cc in
      (code, subst (λ (t : List ℕ). IsUnsigned 32 code t) rest h.2, ap (λ (d : ℕ). prefixed d code) same)

  with_code_from : is_prefix b ≡ true → (o : Opcode) (text : List ℕ) → After b o text → Mapped (prefixed b) (IsUnsigned 32) o text
  with_code_from is o text h = split is o.prefix o.code text h

  alone : is_prefix b ≡ false → (p : Option ℕ) (code : ℕ) (text : List ℕ) → Spells p code (b ∷ text) → (record { prefix = p; code = code } ≡ plain b) × (text ≡ [])
  alone is None code text h =
      let e : b ∷ text ≡ code ∷ [] = h.1 in
      let same : code ≡ b = cc in
      (ap plain same, cc)
  alone is (Some c) code text h =
      let e : b ∷ text ≡ c ∷ h.0 = h.3 in
      let same : c ≡ b = cc in
      let no : true ≡ false = sym h.1 ∙ ap is_prefix same ∙ is in absurd cc

pub decides-opcode : Decides opcode SpelledOpcode
unfolding opcode
decides-opcode = decides-byte opcode_after SpelledOpcode (λ o h. some_byte o.prefix o.code h) (λ b.
    decides-if (is_prefix b) _ _ (After b)
    (λ is. decides-same (u32 >>= λ code. pure (prefixed b code)) (Mapped (prefixed b) (IsUnsigned 32)) (After b)
    (decides-map u32 (prefixed b) (IsUnsigned 32) decides-u32) (with_code_to b is) (with_code_from b is))
    (λ is. decides-pure (plain b) (After b) (is, refl) (λ o text h. alone b is o.prefix o.code text h)))

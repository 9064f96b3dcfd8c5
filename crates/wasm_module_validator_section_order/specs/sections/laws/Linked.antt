-- Values that are read of bytes, and the trees that the same bytes spell: g says which bytes give a value, h which spell a tree, and R
-- which value stands for which tree.
use Rattle.std.proofs.Common.{◌≡◌, ℕ, zero, suc, List, [], ◌∷◌, length, refl, sym, ap, subst}
use Rattle.std.specs.List.{AllZip}
use Rattle.wasm_types.specs.decoding.Decoder.{Grammar, Many}
use Rattle.wasm_types.specs.decoding.Leb.{IsUnsigned, IsListed}

-- bytes that give a value spell each tree that it stands for; and bytes that spell a tree give a value for it
pub record Linked {A B : Type 0} (R : A → B → Type 0) (g : Grammar A) (h : Grammar B) : Type 0 where
  pub over : (a : A) (b : B) (text : List ℕ) → g a text → R a b → h b text
  pub down : (b : B) (text : List ℕ) → h b text → (a : A) × R a b × g a text

-- a value stands for itself
pub itself : {A : Type 0} (g : Grammar A) → Linked (λ t x. x ≡ t) g g
itself g = record { over = λ a b text h e. subst (λ x. g x text) (sym e) h; down = λ b text h. (b, refl, h) }

pub zip_length : {A B : Type 0} (R : A → B → Type 0) (xs : List A) (ys : List B) → AllZip R xs ys → length xs ≡ length ys
zip_length R [] [] z = refl
zip_length R [] (y ∷ ys) z = absurd z
zip_length R (x ∷ xs) [] z = absurd z
zip_length R (x ∷ xs) (y ∷ ys) z = ap suc (zip_length R xs ys z.1)

module _ {A B : Type 0} (R : A → B → Type 0) (g : Grammar A) (h : Grammar B) (l : Linked R g h) where
  -- so many of them
  pub many_over : (n : ℕ) (xs : List A) (ys : List B) (text : List ℕ) → Many g n xs text → AllZip R xs ys → Many h n ys text
  many_over zero [] [] text k r = k
  many_over zero [] (y ∷ ys) text k r = absurd r
  many_over zero (x ∷ xs) ys text k r = absurd k
  many_over (suc n) [] ys text k r = absurd k
  many_over (suc n) (x ∷ xs) [] text k r = absurd r
  many_over (suc n) (x ∷ xs) (y ∷ ys) text k r = (k.0, k.1, l.over x y k.0 k.2 r.0, many_over n xs ys k.1 k.3 r.1, k.4)

  pub many_down : (n : ℕ) (ys : List B) (text : List ℕ) → Many h n ys text → (xs : List A) × AllZip R xs ys × Many g n xs text
  many_down zero [] text k = ([], tt, k)
  many_down zero (y ∷ ys) text k = absurd k
  many_down (suc n) [] text k = absurd k
  many_down (suc n) (y ∷ ys) text k =
      let first = l.down y k.0 k.2 in
      let others = many_down n ys k.1 k.3 in
      (first.0 ∷ others.0, (first.1, others.1), (k.0, k.1, first.2, others.2, k.4))

  -- lists of them
  pub listed_over : (xs : List A) (ys : List B) (text : List ℕ) → IsListed g xs text → AllZip R xs ys → IsListed h ys text
  listed_over xs ys text k r =
      let e = zip_length R xs ys r in
      record {
        count = k.count;
        values = k.values;
        counted = subst (λ (n : ℕ). IsUnsigned 32 n k.count) e k.counted;
        each = subst (λ (n : ℕ). Many h n ys k.values) e (many_over (length xs) xs ys k.values k.each r);
        whole = k.whole;
      }

  pub listed_down : (ys : List B) (text : List ℕ) → IsListed h ys text → (xs : List A) × AllZip R xs ys × IsListed g xs text
  listed_down ys text k =
      let d = many_down (length ys) ys k.values k.each in
      let e = sym (zip_length R d.0 ys d.1) in (
        d.0,
        d.1,
        record {
          count = k.count;
          values = k.values;
          counted = subst (λ (n : ℕ). IsUnsigned 32 n k.count) e k.counted;
          each = subst (λ (n : ℕ). Many g n d.0 k.values) e d.2;
          whole = k.whole;
        },
      )

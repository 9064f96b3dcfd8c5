-- A count that was read, and the items behind it.
use Rattle.std.proofs.Common.{◌≡◌, ℕ, zero, suc, ◌+◌, List, [], ◌∷◌, ◌++◌, length, refl, sym, ap, ◌∙◌, subst}
use Rattle.wasm_types.specs.decoding.Decoder.{State, Outcome, Done, Grammar, Many, Takes}
use Rattle.wasm_types.specs.decoding.ExactLaws.{value_is, state_is}
use Rattle.wasm_types.specs.decoding.Leb.{u32, IsUnsigned, IsListed}
use Rattle.wasm_types.specs.decoding.LebLaws.{decides-u32}

-- where a reader stands behind some of its bytes
abbrev pub past : State → List ℕ → List ℕ → State
past s front back = record { rest = back; place = s.place + length front; settings = s.settings; start = s.start }

pub takes_past : (s : State) (front back : List ℕ) → s.rest ≡ front ++ back → Takes s front (past s front back)
takes_past s front back e = record { parts = e; place = refl; settings = refl; start = refl }

abbrev done : {A : Type 0} → A → State → Outcome A
done x s = Done x s

module _ {A : Type 0} (g : Grammar A) where
  pub many_length : (n : ℕ) (xs : List A) (text : List ℕ) → Many g n xs text → n ≡ length xs
  many_length zero [] text m = refl
  many_length zero (x ∷ xs) text m = absurd m
  many_length (suc n) [] text m = absurd m
  many_length (suc n) (x ∷ xs) text m = ap suc (many_length n xs m.1 m.3)

  -- behind the count of a list stand its items
  pub items_behind : (xs : List A) (b r : State) (n : ℕ) → u32 b ≡ Done n r → IsListed g xs b.rest → (n ≡ length xs) × Many g n xs r.rest
  items_behind xs b r n c l =
      let t = past b l.count l.values in
      let taken = takes_past b l.count l.values l.whole in
      let again : u32 b ≡ Done (length xs) t = decides-u32.complete b t (length xs) l.count taken l.counted in
      let both : done n r ≡ done (length xs) t = sym c ∙ again in
      let many : n ≡ length xs = value_is n (length xs) r t both in
      let here : r ≡ t = state_is n (length xs) r t both in
      (many, subst (λ (k : ℕ). Many g k xs r.rest) (sym many) (subst (λ (s : State). Many g (length xs) xs s.rest) (sym here) l.each))

  -- and items behind their count are a list
  pub counted_before : (xs : List A) (b r : State) (n : ℕ) → u32 b ≡ Done n r → Many g n xs r.rest → IsListed g xs b.rest
  counted_before xs b r n c m =
      let s = decides-u32.sound b r n c in
      let e = many_length n xs r.rest m in
      record {
        count = s.0;
        values = r.rest;
        counted = subst (λ (k : ℕ). IsUnsigned 32 k s.0) e s.2;
        each = subst (λ (k : ℕ). Many g k xs r.rest) e m;
        whole = s.1.parts;
      }

  -- a list begins with its count
  pub count_read : (xs : List A) (b : State) → IsListed g xs b.rest → (n : ℕ) × (r : State) × (u32 b ≡ Done n r)
  count_read xs b l =
      let t = past b l.count l.values in
      (length xs, t, decides-u32.complete b t (length xs) l.count (takes_past b l.count l.values l.whole) l.counted)

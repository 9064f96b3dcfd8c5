-- Chains of declared supertypes: depths, and what stands between.
use Rattle.std.proofs.Common.{◌≡◌, ◌∙◌, ℕ, zero, suc, ◌+◌, ◌<◌, ◌≤◌, List, ◌++◌, length, refl, ap, sym, subst, Option, Some, None, arith}
use Rattle.std.specs.Prelude.{slice_get}
use Rattle.std.proofs.lemmas.Option.{none-some, same_Some}
use Rattle.wasm_module_validator_type_storage.proofs.Places.{get_left, slice_get_within}
use Rattle.wasm_types.specs.trees.declared.index.CoreTypeId.{CoreTypeId}
use Rattle.wasm_module_validator_type_storage.specs.displays.Chains.{IsUnder, itself, declared, HasDepth, top, below}

module _ (ups : List (Option CoreTypeId)) where
  not_both : (i : ℕ) (b : CoreTypeId) → slice_get ups i ≡ Some None → slice_get ups i ≡ Some (Some b) → ⊥
  not_both i b e f = none-some b (same_Some None (Some b) (sym e ∙ f))

  one_above : (i : ℕ) (b c : CoreTypeId) → slice_get ups i ≡ Some (Some b) → slice_get ups i ≡ Some (Some c) → b ≡ c
  one_above i b c e f = same_Some b c (same_Some (Some b) (Some c) (sym e ∙ f))

  -- the depth of what is declared above
  depth_above : (a b : CoreTypeId) (m : ℕ) → slice_get ups a.0 ≡ Some (Some b) → HasDepth ups a (suc m) → HasDepth ups b m
  depth_above a b m e (below {b = c} f h) = subst (λ (x : CoreTypeId). HasDepth ups x m) (one_above a.0 c b f e) h

  pub not_top : (a b : CoreTypeId) → slice_get ups a.0 ≡ Some (Some b) → HasDepth ups a zero → ⊥
  not_top a b e (top f) = not_both a.0 b f e

  -- of a type that declares a supertype the depth is one more than that of the other
  pub record IsOneMore (b : CoreTypeId) (n : ℕ) : Type 0 where
    pub above : ℕ
    pub more : n ≡ suc above
    pub is_depth : HasDepth ups b above

  pub one_more : (a b : CoreTypeId) (n : ℕ) → slice_get ups a.0 ≡ Some (Some b) → HasDepth ups a n → IsOneMore b n
  one_more a b zero e h = absurd (not_top a b e h)
  one_more a b (suc n) e h = record { above = n; more = refl; is_depth = depth_above a b n e h }

  -- a type with a depth is in the list
  pub known_by_depth : (a : CoreTypeId) (n : ℕ) → HasDepth ups a n → a.0 < length ups
  known_by_depth a zero (top e) = slice_get_within ups a.0 None e
  known_by_depth a (suc n) (below {b = b} e h) = slice_get_within ups a.0 (Some b) e

  -- a type has one depth
  pub one_depth : (a : CoreTypeId) (m n : ℕ) → HasDepth ups a m → HasDepth ups a n → m ≡ n
  one_depth a zero zero h k = refl
  one_depth a zero (suc n) h (below {b = b} e k) = absurd (not_top a b e h)
  one_depth a (suc m) zero (below {b = b} e h) k = absurd (not_top a b e k)
  one_depth a (suc m) (suc n) (below {b = b} e h) k = ap suc (one_depth b m n h (depth_above a b n e k))

  -- no type is declared below a deeper one
  pub no_deeper : (a b : CoreTypeId) (m n : ℕ) → IsUnder ups a b → HasDepth ups a m → HasDepth ups b n → n ≤ m
  no_deeper a b m n itself h k = omega (arith, one_depth a m n h k)
  no_deeper a b zero n (declared {b = c} e r) h k = absurd (not_top a c e h)
  no_deeper a b (suc m) n (declared {b = c} e r) h k = let le = no_deeper c b m n r (depth_above a c m e h) k in omega arith

  -- of two that a type is under, the deeper is under the other
  pub between : (a c b : CoreTypeId) (d m n : ℕ) → IsUnder ups a c → IsUnder ups a b → HasDepth ups a d → HasDepth ups c m → HasDepth ups b n → n ≤ m → IsUnder ups c b
  between a c b d m n itself s h k l le = s
  between a c b zero m n (declared {b = p} e r) s h k l le = absurd (not_top a p e h)
  between a c b (suc d) m n (declared {b = p} e r) itself h k l le =
      let low = no_deeper p c d m r (depth_above a p d e h) k in
      let same = one_depth a (suc d) n h l in
      absurd (omega arith)
  between a c b (suc d) m n (declared {b = p} e r) (declared {b = q} f s) h k l le =
      let s2 = subst (λ (x : CoreTypeId). IsUnder ups x b) (one_above a.0 q p f e) s in
      between p c b d m n r s2 (depth_above a p d e h) k l le

  -- and of the same depth they are one
  pub same_depth : (c b : CoreTypeId) (m : ℕ) → IsUnder ups c b → HasDepth ups c m → HasDepth ups b m → c ≡ b
  same_depth c b m itself h k = refl
  same_depth c b zero (declared {b = p} e r) h k = absurd (not_top c p e h)
  same_depth c b (suc m) (declared {b = p} e r) h k = let le = no_deeper p b m (suc m) r (depth_above c p m e h) k in absurd (omega arith)

  pub over : (a c b : CoreTypeId) → IsUnder ups a c → IsUnder ups c b → IsUnder ups a b
  over a c b itself s = s
  over a c b (declared {b = p} e r) s = declared e (over p c b r s)

-- types that are added change neither
module _ (old new : List (Option CoreTypeId)) (keeps : (i : ℕ) (x : Option CoreTypeId) → slice_get old i ≡ Some x → slice_get new i ≡ Some x) where
  pub under_more : (a b : CoreTypeId) → IsUnder old a b → IsUnder new a b
  under_more a b itself = itself
  under_more a b (declared {b = p} e r) = declared (keeps a.0 (Some p) e) (under_more p b r)

  pub depth_more : (a : CoreTypeId) (n : ℕ) → HasDepth old a n → HasDepth new a n
  depth_more a zero (top e) = top (keeps a.0 None e)
  depth_more a (suc n) (below {b = p} e h) = below (keeps a.0 (Some p) e) (depth_more p n h)

-- nor do types that are added after it change the depth of a type that is declared below earlier ones
module _ (old more : List (Option CoreTypeId)) (earlier : (i : ℕ) (b : CoreTypeId) → slice_get (old ++ more) i ≡ Some (Some b) → b.0 < i) where
  pub depth_before : (a : CoreTypeId) (n : ℕ) → a.0 < length old → HasDepth (old ++ more) a n → HasDepth old a n
  depth_before a zero lt (top e) = top (sym (get_left old more a.0 lt) ∙ e)
  depth_before a (suc n) lt (below {b = b} e h) =
      let less = earlier a.0 b e in
      below {b = b} (sym (get_left old more a.0 lt) ∙ e) (depth_before b n (omega arith) h)

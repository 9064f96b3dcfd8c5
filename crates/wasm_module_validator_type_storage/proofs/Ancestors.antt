-- Ancestors that are found by their depth.
use Rattle.std.proofs.Common.{◌≡◌, ◌∙◌, ℕ, zero, suc, ◌+◌, ◌*◌, ◌<◌, ◌≤◌, Bool, List, ◌++◌, length, refl, ap, sym, subst, Option, Some, None, arith, cond, true, false, [], ◌∷◌, ◌-◌, ◌↔◌, is_ok, Result, Ok, Err, ⊎_elim}
use Rattle.std.specs.Prelude.{slice_get, IsTrue, IfSome}
use Rattle.std.proofs.lemmas.Option.{none-some, same_Some}
use Rattle.std.proofs.lemmas.Bool.{cases_lt}
use Rattle.std.proofs.lemmas.List.{length-append}
use Rattle.wasm_module_validator_type_storage.proofs.Places.{get_left, get_right, slice_get_within}
use Rattle.wasm_types.specs.trees.declared.index.CoreTypeId.{CoreTypeId}
use Rattle.wasm_module_validator_type_storage.specs.declared.displays.Display.{Display}
use Rattle.wasm_module_validator_type_storage.specs.displays.Chains.{IsUnder, itself, declared, HasDepth, top, below}
use Rattle.wasm_module_validator_type_storage.specs.displays.Entries.{HoldsAncestor, HasDisplay, AreDisplays, Keeps, IsExtended}
use Rattle.wasm_module_validator_type_storage.proofs.Chains.{one_depth, no_deeper, between, same_depth, over, under_more, depth_more}

-- ---- where entries are

module _ (ups : List (Option CoreTypeId)) (es : List CoreTypeId) (a : CoreTypeId) (d : Display) (has : HasDisplay ups es a d) where
  pub near_there : (j : ℕ) → j ≤ d.place → d.near + j < length es
  near_there j le = let it = has.near j le in slice_get_within es (d.near + j) it.ancestor it.there

  pub far_there : (k : ℕ) → k < d.blocks → d.far + k < length es
  far_there k lt = let it = has.far k lt in slice_get_within es (d.far + k) it.ancestor it.there

  pub all_far_there : 0 < d.blocks → d.far + d.blocks ≤ length es
  all_far_there some = let last = far_there (d.blocks - 1) (omega arith) in omega arith

  pub end_found : (k : ℕ) (x : CoreTypeId) → k < d.blocks → slice_get es (d.far + k) ≡ Some x → IsUnder ups a x × HasDepth ups x (16 * k + 15)
  end_found k x lt at =
      let it = has.far k lt in
      let same : it.ancestor ≡ x = same_Some it.ancestor x (sym it.there ∙ at) in
      (subst (λ (y : CoreTypeId). IsUnder ups a y) same it.above, subst (λ (y : CoreTypeId). HasDepth ups y (16 * k + 15)) same it.depth_is)

-- ---- what is found

module _ (ups : List (Option CoreTypeId)) (es : List CoreTypeId) (a b : CoreTypeId) (d : Display) (has : HasDisplay ups es a d) (place : ℕ) (depth : HasDepth ups b (16 * d.blocks + place)) where
  -- the entry of the depth that is sought is what is sought, or this is not above
  pub near_found : place ≤ d.place → (x : CoreTypeId) → slice_get es (d.near + place) ≡ Some x → (x ≡ b → IsUnder ups a b) × (IsUnder ups a b → x ≡ b)
  near_found within x at =
      let it = has.near place within in
      let same : it.ancestor ≡ x = same_Some it.ancestor x (sym it.there ∙ at) in
      let above : IsUnder ups a x = subst (λ (y : CoreTypeId). IsUnder ups a y) same it.above in
      let deep : HasDepth ups x (16 * d.blocks + place) = subst (λ (y : CoreTypeId). HasDepth ups y (16 * d.blocks + place)) same it.depth_is in
      let all : ℕ = 16 * d.blocks + place in (
        λ e. subst (λ (y : CoreTypeId). IsUnder ups a y) e above,
        λ under. same_depth ups x b all (between ups a x b (16 * d.blocks + d.place) all all above under has.depth deep depth (omega arith)) deep depth,
      )

  -- nothing deeper is above
  pub too_deep : d.place < place → IsUnder ups a b → ⊥
  too_deep lt under = let le = no_deeper ups a b (16 * d.blocks + d.place) (16 * d.blocks + place) under has.depth depth in omega arith

module _ (ups : List (Option CoreTypeId)) (es : List CoreTypeId) (a b : CoreTypeId) (lower upper : Display) (has : HasDisplay ups es a lower) (above : HasDisplay ups es b upper) where
  pub deeper_block : lower.blocks < upper.blocks → IsUnder ups a b → ⊥
  deeper_block lt under =
      let le = no_deeper ups a b (16 * lower.blocks + lower.place) (16 * upper.blocks + upper.place) under has.depth above.depth in
      let p = has.within in
      omega arith

  pub own_block : upper.blocks ≡ lower.blocks → HasDepth ups b (16 * lower.blocks + upper.place)
  own_block e = subst (λ (n : ℕ). HasDepth ups b (16 * n + upper.place)) e above.depth

  -- by the ancestor that ends the other's block
  module _ (end : CoreTypeId) (whole : Display) (lt : upper.blocks < lower.blocks) (end_above : IsUnder ups a end) (end_depth : HasDepth ups end (16 * upper.blocks + 15))
      (ends : HasDisplay ups es end whole) where
    whole_block : whole.blocks ≡ upper.blocks
    whole_block =
        let e = one_depth ups end (16 * whole.blocks + whole.place) (16 * upper.blocks + 15) ends.depth end_depth in
        let p = ends.within in
        omega arith

    pub end_block : HasDepth ups b (16 * whole.blocks + upper.place)
    end_block = subst (λ (n : ℕ). HasDepth ups b (16 * n + upper.place)) (sym whole_block) above.depth

    pub under_end : IsUnder ups a b → IsUnder ups end b
    under_end under =
        let p = above.within in
        between ups a end b (16 * lower.blocks + lower.place) (16 * upper.blocks + 15) (16 * upper.blocks + upper.place) end_above under has.depth end_depth above.depth (omega arith)

    pub over_end : IsUnder ups end b → IsUnder ups a b
    over_end under = over ups a end b end_above under

    pub by_end : (is : Bool) → (IsTrue is ↔ IsUnder ups end b) → (IsTrue is ↔ IsUnder ups a b)
    by_end is h = (λ e. over_end (h.0 e), λ u. h.1 (under_end u))

-- ---- what stays

pub get_more : {A : Type 0} (xs ys : List A) (i : ℕ) (x : A) → slice_get xs i ≡ Some x → slice_get (xs ++ ys) i ≡ Some x
get_more [] ys i x e = absurd (none-some x e)
get_more (y ∷ xs) ys zero x e = e
get_more (y ∷ xs) ys (suc i) x e = get_more xs ys i x e

pub get_last : {A : Type 0} (xs : List A) (x : A) (i : ℕ) → i ≡ length xs → slice_get (xs ++ x ∷ []) i ≡ Some x
get_last [] x zero e = refl
get_last [] x (suc i) e = absurd (omega (arith, e))
get_last (y ∷ xs) x zero e = absurd (omega (arith, e))
get_last (y ∷ xs) x (suc i) e = get_last xs x i (omega (arith, e))

pub kept : {A : Type 0} (old new more : List A) → new ≡ old ++ more → (i : ℕ) (x : A) → slice_get old i ≡ Some x → slice_get new i ≡ Some x
kept old new more e i x at = ap (λ l. slice_get l i) e ∙ get_more old more i x at

pub keeps_some : {A : Type 0} (b : Bool) (old new more : List A) → new ≡ cond b (old ++ more) old → (i : ℕ) (x : A) → slice_get old i ≡ Some x → slice_get new i ≡ Some x
keeps_some true old new more e i x at = kept old new more e i x at
keeps_some false old new more e i x at = ap (λ l. slice_get l i) e ∙ at

-- ---- entries that are copied

pub record IsCopied (old mid : List CoreTypeId) (start at j : ℕ) : Type 0 where
  pub keeps : Keeps old mid
  pub same : (i : ℕ) (y : CoreTypeId) → i < j → slice_get old (start + i) ≡ Some y → slice_get mid (at + i) ≡ Some y
  pub long : length mid ≡ at + j

pub copied_none : (old : List CoreTypeId) (start at : ℕ) → length old ≡ at → IsCopied old old start at 0
copied_none old start at e = record { keeps = λ i x h. h; same = λ i y lt. absurd (omega arith); long = omega (arith, e) }

module _ (old mid new : List CoreTypeId) (start at j : ℕ) (c : IsCopied old mid start at j) (x : CoreTypeId) (e : new ≡ mid ++ x ∷ []) where
  there : (k : ℕ) → k ≡ at + j → slice_get new k ≡ Some x
  there k f = ap (λ (l : List CoreTypeId). slice_get l k) e ∙ get_last mid x k (omega (arith, c.long, f))

  keeps_both : Keeps old new
  keeps_both i y h = kept mid new (x ∷ []) e i y (c.keeps i y h)

  pub copied_one : slice_get mid (start + j) ≡ Some x → IsCopied old new start at (j + 1)
  copied_one is = record {
    keeps = keeps_both;
    same = λ i y lt h. ⊎_elim
        (λ (early : i < j). kept mid new (x ∷ []) e (at + i) y (c.same i y early h))
        (λ (late : j ≤ i).
        let k : start + i ≡ start + j = omega arith in
        let f : x ≡ y = same_Some x y (sym is ∙ ap (slice_get mid) (sym k) ∙ c.keeps (start + i) y h) in
        there (at + i) (omega arith) ∙ ap (λ (z : CoreTypeId). Some z) f)
        (cases_lt i j);
    long = ap length e ∙ length-append mid (x ∷ []) ∙ omega (arith, c.long);
  }

  pub copied_all : IsExtended old new start j x at
  copied_all = record {
    same = λ i y lt h. kept mid new (x ∷ []) e (at + i) y (c.same i y lt h);
    last = there (at + j) refl;
  }

pub added_there : (old new : List CoreTypeId) (start count : ℕ) (x : CoreTypeId) → start + count ≡ length old → new ≡ old ++ x ∷ [] → IsExtended old new start count x start
added_there old new start count x long e = record {
  same = λ j y lt h. kept old new (x ∷ []) e (start + j) y h;
  last = ap (λ (l : List CoreTypeId). slice_get l (start + count)) e ∙ get_last old x (start + count) long;
}

module _ (ups new : List (Option CoreTypeId)) (es more : List CoreTypeId) (ups_keep : (i : ℕ) (x : Option CoreTypeId) → slice_get ups i ≡ Some x → slice_get new i ≡ Some x)
    (keeps : Keeps es more) where
  pub holds_more : (a : CoreTypeId) (at n : ℕ) → HoldsAncestor ups es a at n → HoldsAncestor new more a at n
  holds_more a at n h = record {
    ancestor = h.ancestor;
    there = keeps at h.ancestor h.there;
    above = under_more ups new ups_keep a h.ancestor h.above;
    depth_is = depth_more ups new ups_keep h.ancestor n h.depth_is;
  }

  pub has_more : (a : CoreTypeId) (d : Display) → HasDisplay ups es a d → HasDisplay new more a d
  has_more a d h = record {
    within = h.within;
    depth = depth_more ups new ups_keep a (16 * d.blocks + d.place) h.depth;
    near = λ j le. holds_more a (d.near + j) (16 * d.blocks + j) (h.near j le);
    far = λ k lt. holds_more a (d.far + k) (16 * k + 15) (h.far k lt);
  }

  pub all_more : (ds : List (Option Display)) → AreDisplays ups es ds → AreDisplays new more ds
  all_more ds all a d e = has_more a d (all a d e)

-- ---- what is added

module _ (ups : List (Option CoreTypeId)) (es more : List CoreTypeId) (keeps : Keeps es more) (own : CoreTypeId) (d : Display) where
  holds_own : (at n : ℕ) → slice_get more at ≡ Some own → HasDepth ups own n → HoldsAncestor ups more own at n
  holds_own at n e h = record { ancestor = own; there = e; above = itself; depth_is = h }

  pub alone : slice_get ups own.0 ≡ Some None → d.place ≡ 0 → d.blocks ≡ 0 → slice_get more d.near ≡ Some own → HasDisplay ups more own d
  alone none p b at =
      let z : 0 ≡ 16 * d.blocks + d.place = omega arith in
      let deep : HasDepth ups own (16 * d.blocks + d.place) = subst (λ (n : ℕ). HasDepth ups own n) z (top none) in
      record {
        within = omega arith;
        depth = deep;
        near = λ j le. holds_own (d.near + j) (16 * d.blocks + j) (ap (slice_get more) (let f : d.near + j ≡ d.near = omega arith in f) ∙ at)
            (subst (λ (n : ℕ). HasDepth ups own n) (let f : 0 ≡ 16 * d.blocks + j = omega arith in f) (top none));
        far = λ k lt. absurd (omega arith);
      }

  module _ (above : CoreTypeId) (upper : Display) (is : slice_get ups own.0 ≡ Some (Some above)) (has : HasDisplay ups es above upper) where
    -- an ancestor of the supertype is one of the type
    inherited : (at n : ℕ) (h : HoldsAncestor ups es above at n) (to : ℕ) → slice_get more to ≡ Some h.ancestor → HoldsAncestor ups more own to n
    inherited at n h to e = record { ancestor = h.ancestor; there = e; above = declared is h.above; depth_is = h.depth_is }

    own_depth : (n : ℕ) → n ≡ suc (16 * upper.blocks + upper.place) → HasDepth ups own n
    own_depth n e = subst (λ (m : ℕ). HasDepth ups own m) (sym e) (below is has.depth)

    pub within_block : upper.place < 15 → d.place ≡ upper.place + 1 → d.blocks ≡ upper.blocks → d.far ≡ upper.far
        → IsExtended es more upper.near (upper.place + 1) own d.near → HasDisplay ups more own d
    within_block lt p b f ext = record {
      within = omega arith;
      depth = own_depth (16 * d.blocks + d.place) (omega (arith, ap (λ (n : ℕ). 16 * n) b));
      near = λ j le. ⊎_elim
          (λ (early : j < upper.place + 1).
          let h = has.near j (omega arith) in
          subst (λ (n : ℕ). HoldsAncestor ups more own (d.near + j) n) (let e : 16 * upper.blocks + j ≡ 16 * d.blocks + j = omega arith in e)
          (inherited (upper.near + j) (16 * upper.blocks + j) h (d.near + j) (ext.same j h.ancestor early h.there)))
          (λ (late : upper.place + 1 ≤ j).
          holds_own (d.near + j) (16 * d.blocks + j) (ap (slice_get more) (let e : d.near + j ≡ d.near + (upper.place + 1) = omega arith in e) ∙ ext.last)
          (own_depth (16 * d.blocks + j) (omega arith)))
          (cases_lt j (upper.place + 1));
      far = λ k lt.
          let h = has.far k (omega arith) in
          inherited (upper.far + k) (16 * k + 15) h (d.far + k) (ap (slice_get more) (let e : d.far + k ≡ upper.far + k = omega arith in e) ∙ keeps (upper.far + k) h.ancestor h.there);
    }

    pub behind_block : 15 ≤ upper.place → d.place ≡ 0 → d.blocks ≡ upper.blocks + 1 → slice_get more d.near ≡ Some own
        → IsExtended es more upper.far upper.blocks above d.far → HasDisplay ups more own d
    behind_block le p b at ext =
        let last : upper.place ≤ 15 = has.within in
        record {
          within = omega arith;
          depth = own_depth (16 * d.blocks + d.place) (omega arith);
          near = λ j small. holds_own (d.near + j) (16 * d.blocks + j) (ap (slice_get more) (let e : d.near + j ≡ d.near = omega arith in e) ∙ at) (own_depth (16 * d.blocks + j) (omega arith));
          far = λ k lt. ⊎_elim
              (λ (early : k < upper.blocks). let h = has.far k early in inherited (upper.far + k) (16 * k + 15) h (d.far + k) (ext.same k h.ancestor early h.there))
              (λ (late : upper.blocks ≤ k).
              record {
                ancestor = above;
                there = ap (slice_get more) (let e : d.far + k ≡ d.far + upper.blocks = omega arith in e) ∙ ext.last;
                above = declared is itself;
                depth_is = subst (λ (n : ℕ). HasDepth ups above n) (let e : 16 * upper.blocks + upper.place ≡ 16 * k + 15 = omega arith in e) has.depth;
              })
              (cases_lt k upper.blocks);
        }

-- Operands in memory: those of the innermost frame, and those under them.
use Rattle.std.proofs.Common.{◌≡◌, ◌≤◌, ◌<◌, ◌-◌, ◌∙◌, ℕ, suc, List, [], ◌∷◌, Some, refl, sym, ap, subst, arith, ◌++◌, length, take, drop, reverse, get_or, slice_get, drop-cons}
use Rattle.std.proofs.lemmas.Grind.{common_steps}
use Rattle.std.proofs.lemmas.List.{length-drop, drop_all, take-append-drop, length-append}
use Rattle.wasm_operator_validator_fast_tables.specs.declared.order.Step.{Step}
use Rattle.wasm_operator_validator_fast_tables.specs.Stacks.{Values, lying, with_all}
use Rattle.wasm_operator_validator_fast_tables.specs.Values.{AreBelow, IsLowered}
use Rattle.wasm_operator_validator_fast_tables.proofs.Lowering.{lower_same, lower_trans, lower_under, lower_top}

pub one_more : (b : ℕ) (x : ℕ) (xs : List ℕ) → b ≤ length xs → lying b (x ∷ xs) ≡ (x ∷ (lying b xs).0, (lying b xs).1)
one_more b x xs l = let e : suc (length xs) - b ≡ suc (length xs - b) = omega arith in rw e refl

-- one is put on
pub put_on : (b t : ℕ) (xs ys : List ℕ) (now : Values) → b ≤ length xs → lying b xs ≡ now → ys ≡ t ∷ xs → lying b ys ≡ (t ∷ now.0, now.1)
put_on b t xs ys now l h e = ap (lying b) e ∙ one_more b t xs l ∙ ap (λ n. (t ∷ n.0, n.1)) h

-- one is taken off
pub take_off : (b t : ℕ) (xs ys : List ℕ) (now : Values) → b < length xs → lying b xs ≡ now → slice_get xs 0 ≡ Some t → ys ≡ drop 1 xs → now ≡ (t ∷ (lying b ys).0, (lying b ys).1)
take_off b t [] ys now l h e k = absurd (omega (arith, l))
take_off b t (x ∷ xs) ys now l h e k =
    let i : x ≡ t = cc in
    let m : b ≤ length xs = omega (arith, l) in
    sym h ∙ one_more b x xs m ∙ ap (λ y. (y ∷ (lying b xs).0, (lying b xs).1)) i ∙ ap (λ zs. (t ∷ (lying b zs).0, (lying b zs).1)) (sym k)

-- one lies on top
pub on_top : (b t : ℕ) (xs : List ℕ) (now : Values) → b < length xs → lying b xs ≡ now → slice_get xs 0 ≡ Some t → (rest : List ℕ) × (now ≡ (t ∷ rest, now.1))
on_top b t xs now l h e =
    let off = take_off b t xs (drop 1 xs) now l h e refl in
    let under : now.1 ≡ (lying b (drop 1 xs)).1 = ap (λ (v : Values). v.1) off in
    ((lying b (drop 1 xs)).0, off ∙ ap (λ u. (t ∷ (lying b (drop 1 xs)).0, u)) (sym under))

-- one takes the place of another
pub put_instead : (b t u : ℕ) (xs ys : List ℕ) (now : Values) → b < length xs → lying b xs ≡ now → slice_get xs 0 ≡ Some t → ys ≡ u ∷ drop 1 xs
    → (rest : List ℕ) × (now ≡ (t ∷ rest, now.1)) × (lying b ys ≡ (u ∷ rest, now.1))
put_instead b t u xs ys now l h e k =
    let zs = drop 1 xs in
    let off = take_off b t xs zs now l h e refl in
    let under : now.1 ≡ (lying b zs).1 = ap (λ (v : Values). v.1) off in
    let few = length-drop 1 xs in
    let m : b ≤ length zs = omega (arith, l, few) in (
      (lying b zs).0,
      off ∙ ap (λ r. (t ∷ (lying b zs).0, r)) (sym under),
      put_on b u zs ys (lying b zs) m refl k ∙ ap (λ r. (u ∷ (lying b zs).0, r)) (sym under),
    )

-- all are taken off
pub none_left : (b : ℕ) (xs ys : List ℕ) (now : Values) → b ≤ length xs → lying b xs ≡ now → ys ≡ drop (length xs - b) xs → lying b ys ≡ ([], now.1)
none_left b xs ys now l h e =
    let few = length-drop (length xs - b) xs in
    let same = ap (λ (zs : List ℕ). length zs) e in
    let n : length ys - b ≡ 0 = omega (arith, l, few, same) in
    ap (λ k. (take k ys, drop k ys)) n ∙ ap (λ zs. ([], zs)) (e ∙ ap (λ (v : Values). v.1) h)

-- ---- several

-- the first of some lies under the others
pub first_of_all : (t : ℕ) (ts : List ℕ) (v : Values) → with_all (t ∷ ts) v ≡ with_all ts (t ∷ v.0, v.1)
first_of_all t ts v = let e : reverse (t ∷ ts) ++ v.0 ≡ reverse ts ++ t ∷ v.0 = grind (arith, common_steps) in ap (λ xs. (xs, v.1)) e

-- several lie on others
pub several_more : (b : ℕ) (xs ys : List ℕ) → b ≤ length ys → lying b (xs ++ ys) ≡ (xs ++ (lying b ys).0, (lying b ys).1)
several_more b [] ys l = refl
several_more b (x ∷ xs) ys l =
    let long = length-append xs ys in
    one_more b x (xs ++ ys) (omega (arith, l, long)) ∙ ap (λ (v : Values). (x ∷ v.0, v.1)) (several_more b xs ys l)

-- these are put on
pub all_put : (b : ℕ) (ts xs ys : List ℕ) (now : Values) → b ≤ length xs → lying b xs ≡ now → ys ≡ reverse ts ++ xs → lying b ys ≡ with_all ts now
all_put b ts xs ys now l h e = ap (lying b) e ∙ several_more b (reverse ts) xs l ∙ ap (with_all ts) h

-- these are taken off
pub all_off : (b n : ℕ) (ts ls xs ys : List ℕ) (now : Values) → b ≤ length xs → lying b xs ≡ now → n ≤ length xs - b → take n xs ≡ reverse ls → ls ≡ ts
    → ys ≡ drop (length xs - (length xs - n)) xs → now ≡ with_all ts (lying b ys)
all_off b n ts ls xs ys now l h few top same left =
    let off : length xs - (length xs - n) ≡ n = omega (arith, l, few) in
    let rest : ys ≡ drop n xs = left ∙ ap (λ (k : ℕ). drop k xs) off in
    let long = length-drop n xs in
    let there : b ≤ length (drop n xs) = omega (arith, l, few, long) in
    let parts : xs ≡ reverse ts ++ drop n xs = sym (take-append-drop n xs) ∙ ap (λ (k : List ℕ). k ++ drop n xs) (top ∙ ap reverse same) in
    sym h ∙ ap (lying b) parts ∙ several_more b (reverse ts) (drop n xs) there ∙ ap (λ (k : List ℕ). with_all ts (lying b k)) (sym rest)

-- ---- operands that may be taken for others

module _ (steps : List Step) where
  -- one that may be taken for another is taken off
  pub taken_for : (v w : Values) (k n : ℕ) → v ≡ (k ∷ w.0, w.1) → AreBelow steps (k ∷ []) (n ∷ []) → IsLowered steps v (n ∷ w.0, w.1)
  taken_for v w k n e below = lower_trans steps v (k ∷ w.0, w.1) (n ∷ w.0, w.1) (lower_same steps v (k ∷ w.0, w.1) e) (lower_top steps k n w.0 w.1 below)

  -- the other is put in its place
  pub put_for : (v w : Values) (k n : ℕ) → (rest : List ℕ) × (v ≡ (k ∷ rest, v.1)) × (w ≡ (n ∷ rest, v.1)) → AreBelow steps (k ∷ []) (n ∷ [])
      → (rest : List ℕ) × (w ≡ (n ∷ rest, w.1)) × IsLowered steps v w
  put_for v w k n (rest, e, f) below =
      let under : w.1 ≡ v.1 = ap (λ (x : Values). x.1) f in (
        rest,
        f ∙ ap (λ (u : List ℕ). (n ∷ rest, u)) (sym under),
        lower_trans steps v (n ∷ rest, v.1) w (taken_for v (rest, v.1) k n e below) (lower_same steps (n ∷ rest, v.1) w (sym f)),
      )

  lower_on : (xs : List ℕ) (v m : Values) → IsLowered steps v m → IsLowered steps (xs ++ v.0, v.1) (xs ++ m.0, m.1)
  lower_on [] v m h = h
  lower_on (x ∷ xs) v m h = lower_under steps x (xs ++ v.0, v.1) (xs ++ m.0, m.1) (lower_on xs v m h)

  -- one more is taken off, under those that were
  pub one_taken : (v x w : Values) (ts : List ℕ) (left : ℕ) → 0 < left → left ≤ length ts → IsLowered steps v (with_all (drop left ts) x)
      → IsLowered steps x (get_or ts (left - 1) 0 ∷ w.0, w.1) → IsLowered steps v (with_all (drop (left - 1) ts) w)
  one_taken v x w ts left some within all one =
      let t = get_or ts (left - 1) 0 in
      let next : suc (left - 1) ≡ left = omega (arith, some) in
      let whole : drop (left - 1) ts ≡ t ∷ drop left ts =
      drop-cons ts (left - 1) 0 (omega (arith, some, within)) ∙ ap (λ (k : ℕ). t ∷ drop k ts) next in
      lower_trans steps v (with_all (drop left ts) x) (with_all (drop (left - 1) ts) w) all
      (lower_trans steps (with_all (drop left ts) x) (with_all (drop left ts) (t ∷ w.0, w.1)) (with_all (drop (left - 1) ts) w)
      (lower_on (reverse (drop left ts)) x (t ∷ w.0, w.1) one)
      (lower_same steps (with_all (drop left ts) (t ∷ w.0, w.1)) (with_all (drop (left - 1) ts) w)
      (sym (first_of_all t (drop left ts) w) ∙ ap (λ (l : List ℕ). with_all l w) (sym whole))))

  pub none_taken : (v : Values) (ts : List ℕ) → IsLowered steps v (with_all (drop (length ts) ts) v)
  none_taken v ts = lower_same steps v (with_all (drop (length ts) ts) v) (sym (ap (λ (l : List ℕ). with_all l v) (drop_all (length ts) ts (omega arith))))

  pub all_taken : (v w : Values) (ts : List ℕ) (left : ℕ) → left ≤ 0 → IsLowered steps v (with_all (drop left ts) w) → IsLowered steps v (with_all ts w)
  all_taken v w ts left none h = let e : left ≡ 0 = omega (arith, none) in subst (λ (k : ℕ). IsLowered steps v (with_all (drop k ts) w)) e h

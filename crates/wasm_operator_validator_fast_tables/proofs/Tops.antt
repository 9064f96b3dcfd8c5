-- The top of a list whose last item is on top.
use Rattle.std.proofs.Common.{◌≡◌, ℕ, zero, suc, List, [], ◌∷◌, ◌++◌, ◌<◌, ◌≤◌, ◌+◌, ◌-◌, length, take, drop, reverse, refl, ap, ◌∙◌, sym, arith}
use Rattle.std.proofs.lemmas.Slice.{take-put_mid, between_is}
use Rattle.std.specs.Vec.{with_items}
use Rattle.std.specs.Prelude.{Vec}
use borrow.Rule.Slice.PartMut.{put_mid}
use Rattle.std.proofs.lemmas.List.{with_items_is, length-append, reverse-append, take-append-drop, take-take, length-reverse, length-drop, length-take-le}

-- the first so many and one more
one_more : {T : Type 0} → (xs : List T) (n : ℕ) → n < length xs → (y : T) × (take (suc n) xs ≡ take n xs ++ y ∷ [])
one_more [] n h = let no : ⊥ = omega (arith, h) in absurd no
one_more (x ∷ xs) zero h = (x, refl)
one_more (x ∷ xs) (suc n) h = let (y, e) = one_more xs n (omega (arith, h)) in (y, ap (λ l. x ∷ l) e)

pub without_top : {T : Type 0} → (xs : List T) (n : ℕ) → 0 < n → n - 1 < length xs → reverse (take (n - 1) xs) ≡ drop 1 (reverse (take n xs))
without_top xs zero h lt = let no : ⊥ = omega (arith, h) in absurd no
without_top xs (suc n) h lt =
    let is : suc n - 1 ≡ n = omega arith in
    let (y, e) = one_more xs n (omega (arith, lt)) in
    ap (λ k. reverse (take k xs)) is ∙ sym (ap (λ l. drop 1 (reverse l)) e ∙ ap (λ l. drop 1 l) (reverse-append (take n xs) (y ∷ [])))

-- what lies behind as many as there are
pub drop_past : {T : Type 0} → (n : ℕ) (xs ys : List T) → n ≡ length xs → drop n (xs ++ ys) ≡ ys
drop_past n [] ys e = rw e refl
drop_past n (x ∷ xs) ys e = rw e (drop_past (length xs) xs ys refl)

-- of those that there are some are taken off
fewer : {T : Type 0} → (ys : List T) (m : ℕ) → m ≤ length ys → reverse (take m ys) ≡ drop (length (reverse ys) - m) (reverse ys)
fewer ys m le =
    let all = length-reverse ys in
    let rest = length-reverse (drop m ys) in
    let more = length-drop m ys in
    let n : length (reverse ys) - m ≡ length (reverse (drop m ys)) = omega (arith, all, rest, more) in
    let parts : reverse ys ≡ reverse (drop m ys) ++ reverse (take m ys) = ap reverse (sym (take-append-drop m ys)) ∙ reverse-append (take m ys) (drop m ys) in
    sym (ap (drop (length (reverse ys) - m)) parts ∙ drop_past (length (reverse ys) - m) (reverse (drop m ys)) (reverse (take m ys)) n)

pub kept : {T : Type 0} → (xs : List T) (n m : ℕ) (now : List T) → reverse (take n xs) ≡ now → n ≤ length xs → m ≤ length now → reverse (take m xs) ≡ drop (length now - m) now
kept {T} xs n m now view there le =
    let many = length-reverse (take n xs) in
    let same = ap (λ (l : List T). length l) view in
    let has = length-take-le n xs there in
    let few : m ≤ length (take n xs) = omega (arith, le, many, same) in
    let under : m ≤ n = omega (arith, few, has) in
    ap reverse (sym (take-take m n xs under)) ∙ fewer (take n xs) m few ∙ ap (λ (l : List T). drop (length l - m) l) view

-- several are put on, where there are places for them
pub several_on : {T Z : Type 0} → (v : Vec T Z) (n k : ℕ) (xs ys zs now : List T) → xs ≡ v.items → reverse (take n v.items) ≡ now → n ≤ length v.items → k ≡ length zs → k ≤ length v.items - n
    → ys ≡ zs → reverse (take (n + length zs) (with_items v (put_mid n k xs ys)).items) ≡ reverse zs ++ now
several_on {T} v n k xs ys zs now is view there count room same =
    let long = ap (λ (l : List T). length l) is in
    let front = length-take-le n xs (omega (arith, long, there)) in
    let behind = length-drop k (drop n xs) in
    let last = length-drop n xs in
    let inner = length-append ys (drop k (drop n xs)) in
    let outer = length-append (take n xs) (ys ++ drop k (drop n xs)) in
    let ends = ap (λ (l : List T). length l) same in
    let whole : length (put_mid n k xs ys) ≡ v.len = omega (arith, long, front, behind, last, inner, outer, ends, count, room, there, v.ok.0) in
    ap (λ (l : List T). reverse (take (n + length zs) l)) (with_items_is v (put_mid n k xs ys) whole)
    ∙ ap reverse (take-put_mid n k xs ys (n + length zs) (ap (λ (l : List T). n + length l) (sym same)) (omega (arith, long, there))) ∙ reverse-append (take n xs) ys
    ∙ ap (λ (l : List T). reverse l ++ reverse (take n xs)) same ∙ ap (λ (l : List T). reverse zs ++ reverse (take n l)) is ∙ ap (λ (l : List T). reverse zs ++ l) view

-- the first of some that were put before others
take_first : {T : Type 0} → (n : ℕ) (xs ys : List T) → n ≡ length xs → take n (xs ++ ys) ≡ xs
take_first n [] ys e = rw e refl
take_first n (x ∷ xs) ys e = rw e (ap (λ l. x ∷ l) (take_first (length xs) xs ys refl))

-- the last so many, in memory
pub last_are : {T : Type 0} → (xs : List T) (n k : ℕ) (now : List T) → reverse (take n xs) ≡ now → n ≤ length xs → k ≤ length now → take k now ≡ reverse (take (n - (n - k)) (drop (n - k) xs))
last_are {T} xs n k now view there le =
    let many = length-reverse (take n xs) in
    let same = ap (λ (l : List T). length l) view in
    let has = length-take-le n xs there in
    let rest = length-reverse (drop (n - k) (take n xs)) in
    let more = length-drop (n - k) (take n xs) in
    let count : k ≡ length (reverse (drop (n - k) (take n xs))) = omega (arith, le, many, same, has, rest, more) in
    let parts : reverse (take n xs) ≡ reverse (drop (n - k) (take n xs)) ++ reverse (take (n - k) (take n xs)) =
    ap reverse (sym (take-append-drop (n - k) (take n xs))) ∙ reverse-append (take (n - k) (take n xs)) (drop (n - k) (take n xs)) in
    ap (take k) (sym view ∙ parts) ∙ take_first k (reverse (drop (n - k) (take n xs))) (reverse (take (n - k) (take n xs))) count
    ∙ ap reverse (sym (between_is xs (n - k) n))

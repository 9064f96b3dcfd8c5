-- Chunks joined end to end: where one of them stands, and what a change of it does to all numbers.
use Rattle.std.specs.Prelude.{◌≡◌, ◌≢◌, ◌⊎◌, ℕ, zero, suc, ◌+◌, ◌-◌, ◌<◌, ◌≤◌, List, [], ◌∷◌, ◌++◌, length}
use Rattle.std.specs.Prelude.{All, take, drop, map, slice_set, Option, None, Some, MatchOption, Result, Ok, Err, OnOk, OnErr}
use Rattle.std.specs.List.{concat}
use Rattle.std.specs.declared.cmp.Ordering.{Ordering}
use Rattle.std.specs.declared.cmp.Ordering.TheVariants.{Less, Equal, Greater}
use Rattle.std.proofs.Common.{refl, sym, ap, subst, ◌∙◌, inl, inr, ⊎_elim, get_or, set, arith}
use Rattle.std.proofs.lemmas.Bool.{cases_lt}
use Rattle.std.proofs.lemmas.List.{append_assoc, append-nil, length-append, get_or_append_left, get_or-append-add, get_or_default, take_more, drop_more, take_all}
use Rattle.std.proofs.Math.Seq.{take-append-add, drop-append-add}
use Rattle.std.proofs.lemmas.List.{take-append-le, drop-append-le, take-append-drop, drop_all, set_split, take_at, get_or-map, length-map, map-set, set-get_or}
use Rattle.std.proofs.lemmas.List.Elements.{All-append, All-nil, All-same, All-weaker, All-set, All-push, Contains-append_left, Contains-append_right}
use Rattle.wasm_module_validator_type_storage.specs.ordered.Order.{Ascends, Misses, Finds, IsPlace, IsPut}
use Rattle.wasm_module_validator_type_storage.specs.ordered.OrderLaws.{all_left, all_right, put_length}
use Rattle.wasm_module_validator_type_storage.specs.ordered.Chunks.{IsChunk, AreChunks, Belongs, IsInside, Takes, chunk_at, last_of, most}
use Rattle.wasm_module_validator_type_storage.proofs.Splits.{less_to, greater_from}

pub concat-append : (xs ys : List (List ℕ)) → concat (xs ++ ys) ≡ concat xs ++ concat ys
concat-append [] ys = refl
concat-append (x ∷ xs) ys = ap (λ l. x ++ l) (concat-append xs ys) ∙ sym (append_assoc x (concat xs) (concat ys))

pub chunk_of : (cs : List (List ℕ)) (at : ℕ) → at < length cs → AreChunks cs → IsChunk (chunk_at cs at)
unfolding AreChunks
chunk_of cs at within sized = sized at [] within

pub split : (cs : List (List ℕ)) (at : ℕ) → at < length cs → concat cs ≡ concat (take at cs) ++ (chunk_at cs at ++ concat (drop (at + 1) cs))
split cs at within =
    ap concat (sym (take-append-drop at cs) ∙ ap (λ l. take at cs ++ l) (drop_more cs at [] within))
    ∙ concat-append (take at cs) (chunk_at cs at ∷ drop (at + 1) cs)

pub front_with : (cs : List (List ℕ)) (at : ℕ) → at < length cs → concat (take (at + 1) cs) ≡ concat (take at cs) ++ chunk_at cs at
front_with cs at within =
    ap concat (take_more cs at [] within) ∙ concat-append (take at cs) (chunk_at cs at ∷ []) ∙ ap (λ l. concat (take at cs) ++ l) (append-nil (chunk_at cs at))

-- a chunk changed
pub concat-set : (cs : List (List ℕ)) (at : ℕ) (c : List ℕ) → at < length cs → concat (slice_set cs at c) ≡ concat (take at cs) ++ (c ++ concat (drop (at + 1) cs))
concat-set cs at c within =
    let next : suc at ≡ at + 1 = omega arith in
    ap concat (set_split cs at c within ∙ ap (λ n. take at cs ++ c ∷ drop n cs) next) ∙ concat-append (take at cs) (c ∷ drop (at + 1) cs)

-- numbers in three parts: those before a chunk, the chunk, and those behind it
module _ (order : ℕ → Ordering) (front c back : List ℕ) where
  pub ascends_within : Ascends order (front ++ (c ++ back)) → Ascends order c
  unfolding Ascends
  ascends_within h i j d lt within =
      let long = length-append c back in
      let all = length-append front (c ++ back) in
      let at : (k : ℕ) → k < length c → get_or (front ++ (c ++ back)) (length front + k) d ≡ get_or c k d =
      λ k inside. get_or-append-add front (c ++ back) k d ∙ get_or_append_left c back d k inside in
      let pair = h (length front + i) (length front + j) d (omega arith) (omega arith) in
      subst (λ a. (order a ≡ Less) ⊎ (order (get_or c j d) ≡ Greater)) (at i (omega arith))
      (subst (λ b. (order (get_or (front ++ (c ++ back)) (length front + i) d) ≡ Less) ⊎ (order b ≡ Greater)) (at j within) pair)

  last_stands : 0 < length c → get_or (front ++ (c ++ back)) (length front + length c - 1) 0 ≡ last_of c
  last_stands some =
      let back_to : length front + length c - 1 ≡ length front + (length c - 1) = omega arith in
      ap (λ i. get_or (front ++ (c ++ back)) i 0) back_to ∙ get_or-append-add front (c ++ back) (length c - 1) 0
      ∙ get_or_append_left c back 0 (length c - 1) (omega arith)

  pub less_with : Ascends order (front ++ (c ++ back)) → 0 < length c → order (last_of c) ≡ Less → All (λ n. order n ≡ Less) (front ++ c)
  less_with h some last =
      let all = length-append front (c ++ back) in
      let long = length-append c back in
      let P : ℕ → Type 0 = λ n. order n ≡ Less in
      let fits : length front + length c ≤ length (front ++ (c ++ back)) = omega arith in
      let first = less_to order (front ++ (c ++ back)) (length front + length c) fits h (λ lt. ap order (last_stands some) ∙ last) in
      All-same P (front ++ c) (take (length front + length c) (front ++ (c ++ back)))
      (sym (ap (take (length front + length c)) (sym (append_assoc front c back)) ∙ take_at (front ++ c) back (length front + length c) (length-append front c))) first

  pub greater_behind : Ascends order (front ++ (c ++ back)) → 0 < length c → order (last_of c) ≢ Less → All (λ n. order n ≡ Greater) back
  unfolding Ascends
  greater_behind h some last k d lt =
      let all = length-append front (c ++ back) in
      let long = length-append c back in
      let there : get_or (front ++ (c ++ back)) (length front + (length c + k)) d ≡ get_or back k d =
      get_or-append-add front (c ++ back) (length c + k) d ∙ get_or-append-add c back k d in
      let here : get_or (front ++ (c ++ back)) (length front + length c - 1) d ≡ last_of c =
      get_or_default (front ++ (c ++ back)) (length front + length c - 1) d 0 (omega arith) ∙ last_stands some in
      let pair = h (length front + length c - 1) (length front + (length c + k)) d (omega arith) (omega arith) in
      ⊎_elim (λ less. absurd (last (sym (ap order here) ∙ less))) (λ greater. sym (ap order there) ∙ greater) pair

  pub misses_parts : All (λ n. order n ≡ Less) front → Misses order c → All (λ n. order n ≡ Greater) back → Misses order (front ++ (c ++ back))
  unfolding Misses
  misses_parts less none greater =
      let P : ℕ → Type 0 = λ n. order n ≡ Equal → ⊥ in
      All-append P front (c ++ back) (All-weaker (λ n. order n ≡ Less) P (λ n h e. cc) front less)
      (All-append P c back none (All-weaker (λ n. order n ≡ Greater) P (λ n h e. cc) back greater))

  pub misses_within : Misses order (front ++ (c ++ back)) → Misses order c
  unfolding Misses
  misses_within none = let P : ℕ → Type 0 = λ n. order n ≡ Equal → ⊥ in all_left P c back (all_right P front (c ++ back) none)

  pub finds_within : (n : ℕ) → Finds order c n → Finds order (front ++ (c ++ back)) n
  finds_within n found = record {
    among = Contains-append_right front (c ++ back) n (Contains-append_left c back n found.among);
    equal = found.equal;
  }

  pub put_within : (n : ℕ) (now : List ℕ) → All (λ n. order n ≡ Less) front → All (λ n. order n ≡ Greater) back → IsPut order n c now
      → IsPut order n (front ++ (c ++ back)) (front ++ (now ++ back))
  put_within n now less greater put = record {
    before = front ++ put.before;
    after = put.after ++ back;
    was = ap (λ l. front ++ (l ++ back)) put.was ∙ regroup put.after;
    is = ap (λ l. front ++ (l ++ back)) put.is ∙ regroup (n ∷ put.after);
    less = All-append (λ n. order n ≡ Less) front put.before less put.less;
    greater = All-append (λ n. order n ≡ Greater) put.after back put.greater greater;
  }
    where
      regroup : (after : List ℕ) → front ++ (put.before ++ after ++ back) ≡ front ++ put.before ++ (after ++ back)
      regroup after = ap (λ l. front ++ l) (append_assoc put.before after back) ∙ sym (append_assoc front put.before (after ++ back))

-- a place inside a part: all before it are less, and all from it on are greater
module _ (order : ℕ → Ordering) (front c back : List ℕ) (p : ℕ) (h : Ascends order (front ++ (c ++ back))) (inside : IsInside order c p) where
  less_before : All (λ n. order n ≡ Less) (front ++ take p c)
  less_before =
      let within = inside.within in
      let some = inside.some in
      let all = length-append front (c ++ back) in
      let long = length-append c back in
      let back_to : length front + p - 1 ≡ length front + (p - 1) = omega arith in
      let last : get_or (front ++ (c ++ back)) (length front + p - 1) 0 ≡ get_or c (p - 1) 0 =
      ap (λ i. get_or (front ++ (c ++ back)) i 0) back_to ∙ get_or-append-add front (c ++ back) (p - 1) 0 ∙ get_or_append_left c back 0 (p - 1) (omega arith) in
      All-same (λ n. order n ≡ Less) (front ++ take p c) (take (length front + p) (front ++ (c ++ back)))
      (sym (take-append-add front (c ++ back) p ∙ ap (λ l. front ++ l) (take-append-le p c back (omega arith))))
      (less_to order (front ++ (c ++ back)) (length front + p) (omega arith) h (λ lt. ap order last ∙ inside.less))

  greater_after : All (λ n. order n ≡ Greater) (drop p c ++ back)
  greater_after =
      let within = inside.within in
      let here : get_or (front ++ (c ++ back)) (length front + p) 0 ≡ get_or c p 0 =
      get_or-append-add front (c ++ back) p 0 ∙ get_or_append_left c back 0 p (omega arith) in
      All-same (λ n. order n ≡ Greater) (drop p c ++ back) (drop (length front + p) (front ++ (c ++ back)))
      (sym (drop-append-add front (c ++ back) p ∙ drop-append-le p c back (omega arith)))
      (greater_from order (front ++ (c ++ back)) (length front + p) h (ap order here ∙ inside.greater))

  pub is_place : IsPlace order c p
  is_place = record {
    within = let within = inside.within in omega arith;
    less = all_right (λ n. order n ≡ Less) front (take p c) less_before;
    greater = all_left (λ n. order n ≡ Greater) (drop p c) back greater_after;
  }

  pub front_less : All (λ n. order n ≡ Less) front
  front_less = all_left (λ n. order n ≡ Less) front (take p c) less_before

  pub back_greater : All (λ n. order n ≡ Greater) back
  back_greater = all_right (λ n. order n ≡ Greater) (drop p c) back greater_after

module _ (order : ℕ → Ordering) (cs : List (List ℕ)) where
  -- what a search for a chunk ends with
  pub belongs : (at high : ℕ) → high ≡ at → at ≤ length cs → AreChunks cs → Ascends order (concat cs)
      → (0 < at → order (last_of (chunk_at cs (at - 1))) ≡ Less) → (high < length cs → order (last_of (chunk_at cs high)) ≢ Less) → Belongs order cs at
  belongs at high same within sized ascends before from = record {
    less = less at within before;
    greater = elim (cases_lt at (length cs)) [ inl lt ↦ greater lt | inr le ↦ none le ];
  }
    where
      less : (at : ℕ) → at ≤ length cs → (0 < at → order (last_of (chunk_at cs (at - 1))) ≡ Less) → All (λ n. order n ≡ Less) (concat (take at cs))
      less zero within before = All-nil (λ n. order n ≡ Less)
      less (suc k) within before =
          let lt : k < length cs = omega (arith, within) in
          let back : suc k - 1 ≡ k = omega arith in
          let next : suc k ≡ k + 1 = omega arith in
          let last : order (last_of (chunk_at cs k)) ≡ Less = subst (λ i. order (last_of (chunk_at cs i)) ≡ Less) back (before (omega arith)) in
          let chunk = chunk_of cs k lt sized in
          All-same (λ n. order n ≡ Less) (concat (take (suc k) cs)) (concat (take k cs) ++ chunk_at cs k)
          (ap (λ i. concat (take i cs)) next ∙ front_with cs k lt)
          (less_with order (concat (take k cs)) (chunk_at cs k) (concat (drop (k + 1) cs)) (subst (Ascends order) (split cs k lt) ascends) chunk.some last)

      greater : at < length cs → All (λ n. order n ≡ Greater) (concat (drop (at + 1) cs))
      greater lt =
          let chunk = chunk_of cs at lt sized in
          let last : order (last_of (chunk_at cs at)) ≢ Less = subst (λ i. i < length cs → order (last_of (chunk_at cs i)) ≢ Less) same from lt in
          greater_behind order (concat (take at cs)) (chunk_at cs at) (concat (drop (at + 1) cs)) (subst (Ascends order) (split cs at lt) ascends) chunk.some last

      none : length cs ≤ at → All (λ n. order n ≡ Greater) (concat (drop (at + 1) cs))
      none le = All-same (λ n. order n ≡ Greater) (concat (drop (at + 1) cs)) [] (ap concat (drop_all (at + 1) cs (omega arith))) (All-nil (λ n. order n ≡ Greater))

  -- past the last chunk all are less
  pub all_less : (at : ℕ) → length cs ≤ at → Belongs order cs at → All (λ n. order n ≡ Less) (concat cs)
  all_less at le b = All-same (λ n. order n ≡ Less) (concat cs) (concat (take at cs)) (ap concat (sym (take_all at cs le))) b.less

  pub misses_past : (at : ℕ) → length cs ≤ at → Belongs order cs at → Misses order (concat cs)
  unfolding Misses
  misses_past at le b = All-weaker (λ n. order n ≡ Less) (λ n. order n ≡ Equal → ⊥) (λ n h e. cc) (concat cs) (all_less at le b)

  pub put_past : (at n : ℕ) (now : List ℕ) → length cs ≤ at → Belongs order cs at → now ≡ concat cs ++ n ∷ [] → IsPut order n (concat cs) now
  put_past at n now le b is = record {
    before = concat cs;
    after = [];
    was = sym (append-nil (concat cs));
    is = is;
    less = all_less at le b;
    greater = All-nil (λ n. order n ≡ Greater);
  }

  module _ (at : ℕ) (within : at < length cs) where
    pub belongs_inside : (p : ℕ) → Ascends order (concat cs) → IsInside order (chunk_at cs at) p → Belongs order cs at
    belongs_inside p h inside =
        let a = subst (Ascends order) (split cs at within) h in
        record {
          less = front_less order (concat (take at cs)) (chunk_at cs at) (concat (drop (at + 1) cs)) p a inside;
          greater = back_greater order (concat (take at cs)) (chunk_at cs at) (concat (drop (at + 1) cs)) p a inside;
        }

    pub place_inside : (p : ℕ) → Ascends order (concat cs) → IsInside order (chunk_at cs at) p → IsPlace order (chunk_at cs at) p
    place_inside p h inside =
        is_place order (concat (take at cs)) (chunk_at cs at) (concat (drop (at + 1) cs)) p (subst (Ascends order) (split cs at within) h) inside

    pub ascends_at : Ascends order (concat cs) → Ascends order (chunk_at cs at)
    ascends_at h = ascends_within order (concat (take at cs)) (chunk_at cs at) (concat (drop (at + 1) cs)) (subst (Ascends order) (split cs at within) h)

    pub misses_at : Misses order (concat cs) → Misses order (chunk_at cs at)
    misses_at h = misses_within order (concat (take at cs)) (chunk_at cs at) (concat (drop (at + 1) cs)) (subst (Misses order) (split cs at within) h)

    pub misses_by : Belongs order cs at → Misses order (chunk_at cs at) → Misses order (concat cs)
    misses_by b none =
        subst (Misses order) (sym (split cs at within)) (misses_parts order (concat (take at cs)) (chunk_at cs at) (concat (drop (at + 1) cs)) b.less none b.greater)

    pub finds_by : (n : ℕ) → Finds order (chunk_at cs at) n → Finds order (concat cs) n
    finds_by n found =
        subst (λ ns. Finds order ns n) (sym (split cs at within)) (finds_within order (concat (take at cs)) (chunk_at cs at) (concat (drop (at + 1) cs)) n found)

    pub put_by : (n : ℕ) (now : List ℕ) → Belongs order cs at → IsPut order n (chunk_at cs at) now → IsPut order n (concat cs) (concat (slice_set cs at now))
    put_by n now b put =
        let whole = put_within order (concat (take at cs)) (chunk_at cs at) (concat (drop (at + 1) cs)) n now b.less b.greater put in
        subst (λ ns. IsPut order n ns (concat (slice_set cs at now))) (sym (split cs at within))
        (subst (IsPut order n (concat (take at cs) ++ (chunk_at cs at ++ concat (drop (at + 1) cs)))) (sym (concat-set cs at now within)) whole)

-- a chunk that is the only one is where all belongs
pub only_belongs : (order : ℕ → Ordering) (cs : List (List ℕ)) → length cs ≡ 1 → Belongs order cs 0
only_belongs order cs one = record {
  less = All-nil (λ n. order n ≡ Less);
  greater = All-same (λ n. order n ≡ Greater) (concat (drop 1 cs)) [] (ap concat (drop_all 1 cs (omega (arith, one)))) (All-nil (λ n. order n ≡ Greater));
}

-- a chunk that has room takes a number more
pub sized_put : (order : ℕ → Ordering) (cs : List (List ℕ)) (at n : ℕ) (now : List ℕ) → AreChunks cs → length (chunk_at cs at) < most
    → IsPut order n (chunk_at cs at) now → AreChunks (slice_set cs at now)
unfolding AreChunks
sized_put order cs at n now sized room put =
    let long = put_length put in All-set IsChunk cs at now (record { some = omega arith; few = omega arith }) sized

-- one after another they are read and written as chunks
module _ {X : Type 0} (f : X → List ℕ) (xs : List X) where
  pub read : (at : ℕ) (x : X) → at < length xs → x ≡ get_or xs at x → chunk_at (map f xs) at ≡ f x
  read at x within is = get_or-map f xs at x [] within ∙ ap f (sym is)

  pub within_map : (at : ℕ) → at < length xs → at < length (map f xs)
  within_map at within = omega (arith, length-map xs f)

  pub within_list : (at : ℕ) → at < length (map f xs) → at < length xs
  within_list at within = omega (arith, length-map xs f)

  pub is_chunk : (at : ℕ) (x : X) → at < length xs → x ≡ get_or xs at x → AreChunks (map f xs) → IsChunk (f x)
  is_chunk at x within is sized = subst IsChunk (read at x within is) (chunk_of (map f xs) at (within_map at within) sized)

  -- what is found in a chunk is found
  pub found_by : (order : ℕ → Ordering) (at : ℕ) (c : List ℕ) → at < length xs → chunk_at (map f xs) at ≡ c → Belongs order (map f xs) at
      → (r : Option ℕ) → MatchOption r (Misses order c) (λ n. Finds order c n) → MatchOption r (Misses order (concat (map f xs))) (λ n. Finds order (concat (map f xs)) n)
  found_by order at c within e b None h = misses_by order (map f xs) at (within_map at within) b (subst (Misses order) (sym e) h)
  found_by order at c within e b (Some n) h = finds_by order (map f xs) at (within_map at within) n (subst (λ ns. Finds order ns n) (sym e) h)

  -- a chunk changed in place: `x` was there, and `v` is there now
  module _ (at : ℕ) (x v : X) (within : at < length xs) (is : x ≡ get_or xs at x) where
    was : chunk_at (map f xs) at ≡ f x
    was = read at x within is

    now_is : map f (set xs at v) ≡ slice_set (map f xs) at (f v)
    now_is = map-set f xs at v

    stays : f v ≡ f x → map f (set xs at v) ≡ map f xs
    stays e = now_is ∙ ap (slice_set (map f xs) at) (e ∙ sym was) ∙ set-get_or (map f xs) at []

    -- to put a number into it
    module _ (order : ℕ → Ordering) (n : ℕ) (takes : Takes order (map f xs) at) where
      put_here : IsPut order n (f x) (f v) → IsPut order n (concat (map f xs)) (concat (map f (set xs at v)))
      put_here put =
          subst (λ cs. IsPut order n (concat (map f xs)) (concat cs)) (sym now_is)
          (put_by order (map f xs) at takes.within n (f v) takes.belongs (subst (λ ns. IsPut order n ns (f v)) (sym was) put))

      pub put_ok : {E : Type 0} (r : Result (Unit {0}) E) → OnOk r (IsPut order n (f x) (f v)) → OnOk r (IsPut order n (concat (map f xs)) (concat (map f (set xs at v))))
      put_ok (Ok u) put = put_here put
      put_ok (Err e) h = h

      pub put_sized : {E : Type 0} (r : Result (Unit {0}) E) → OnOk r (IsPut order n (f x) (f v)) → OnErr r (f v ≡ f x) → AreChunks (map f (set xs at v))
      put_sized (Ok u) put h =
          subst AreChunks (sym now_is) (sized_put order (map f xs) at n (f v) takes.sized takes.room (subst (λ ns. IsPut order n ns (f v)) (sym was) put))
      put_sized (Err e) h same = subst AreChunks (sym (stays same)) takes.sized

    pub put_err : {E : Type 0} (r : Result (Unit {0}) E) → OnErr r (f v ≡ f x) → OnErr r (concat (map f (set xs at v)) ≡ concat (map f xs))
    put_err (Ok u) h = h
    put_err (Err e) same = ap concat (stays same)

    -- to append to it where it is the last
    module _ (n : ℕ) (last : length xs ≡ at + 1) where
      more_ns : f v ≡ f x ++ n ∷ [] → concat (map f (set xs at v)) ≡ concat (map f xs) ++ n ∷ []
      more_ns e =
          let cs = map f xs in
          let front = concat (take at cs) in
          let none : drop (at + 1) cs ≡ [] = drop_all (at + 1) cs (omega (arith, last, length-map xs f)) in
          let whole : concat cs ≡ front ++ f x =
          split cs at (within_map at within) ∙ ap (λ l. front ++ (l ++ concat (drop (at + 1) cs))) was ∙ ap (λ l. front ++ (f x ++ concat l)) none
          ∙ ap (λ l. front ++ l) (append-nil (f x)) in
          ap concat now_is ∙ concat-set cs at (f v) (within_map at within) ∙ ap (λ l. front ++ (f v ++ concat l)) none ∙ ap (λ l. front ++ l) (append-nil (f v))
          ∙ ap (λ l. front ++ l) e ∙ sym (append_assoc front (f x) (n ∷ [])) ∙ ap (λ l. l ++ n ∷ []) (sym whole)

      pub push_ok : {E : Type 0} (r : Result (Unit {0}) E) → OnOk r (f v ≡ f x ++ n ∷ []) → OnOk r (concat (map f (set xs at v)) ≡ concat (map f xs) ++ n ∷ [])
      push_ok (Ok u) e = more_ns e
      push_ok (Err e) h = h

      pub push_sized : {E : Type 0} (r : Result (Unit {0}) E) → AreChunks (map f xs) → length (f x) < most
          → OnOk r (f v ≡ f x ++ n ∷ []) → OnErr r (f v ≡ f x) → AreChunks (map f (set xs at v))
      unfolding AreChunks
      push_sized (Ok u) sized room e h =
          let long : length (f v) ≡ length (f x) + 1 = ap length e ∙ length-append (f x) (n ∷ []) in
          subst AreChunks (sym now_is) (All-set IsChunk (map f xs) at (f v) (record { some = omega (arith, long); few = omega (arith, long, room) }) sized)
      push_sized (Err e) sized room h same = subst AreChunks (sym (stays same)) sized

-- a chunk of one number more
module _ (cs now : List (List ℕ)) (n : ℕ) where
  pub begun_ok : {E : Type 0} (r : Result (Unit {0}) E) → OnOk r (now ≡ cs ++ (n ∷ []) ∷ []) → OnOk r (concat now ≡ concat cs ++ n ∷ [])
  begun_ok (Ok u) e = ap concat e ∙ concat-append cs ((n ∷ []) ∷ [])
  begun_ok (Err e) h = h

  pub begun_sized : {E : Type 0} (r : Result (Unit {0}) E) → AreChunks cs → OnOk r (now ≡ cs ++ (n ∷ []) ∷ []) → OnErr r (now ≡ cs) → AreChunks now
  unfolding AreChunks
  begun_sized (Ok u) sized e h = subst AreChunks (sym e) (All-push IsChunk cs (n ∷ []) sized (record { some = omega arith; few = omega arith }))
  begun_sized (Err e) sized h same = subst AreChunks (sym same) sized

pub past_ok : {E : Type 0} (order : ℕ → Ordering) (cs : List (List ℕ)) (at n : ℕ) (now : List ℕ) (r : Result (Unit {0}) E) → length cs ≤ at → Belongs order cs at
    → OnOk r (now ≡ concat cs ++ n ∷ []) → OnOk r (IsPut order n (concat cs) now)
past_ok order cs at n now (Ok u) le b e = put_past order cs at n now le b e
past_ok order cs at n now (Err e) le b h = h

pub none_laid : (cs : List (List ℕ)) → cs ≡ [] → AreChunks cs
unfolding AreChunks
none_laid cs e = subst AreChunks (sym e) (All-nil IsChunk)

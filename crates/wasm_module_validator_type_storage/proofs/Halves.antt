-- A chunk that was cut in two halves: the numbers stay, and each half has room.
use Rattle.std.specs.Prelude.{◌≡◌, ◌≢◌, ◌↔◌, IsTrue, ℕ, suc, ◌+◌, ◌<◌, Bool, true, false, List, [], ◌∷◌, ◌++◌, length, map, take, drop, insert}
use Rattle.std.specs.List.{concat}
use Rattle.std.specs.Ordering.{is_lt}
use Rattle.std.specs.declared.cmp.Ordering.{Ordering}
use Rattle.std.specs.declared.cmp.Ordering.TheVariants.{Less, Equal, Greater}
use Rattle.std.proofs.Common.{refl, sym, ap, subst, ◌∙◌, ⊎_elim, get_or, set, arith}
use Rattle.std.proofs.lemmas.Bool.{cases_lt}
use Rattle.std.proofs.lemmas.List.{append_assoc, length-append, length-take-le, length-drop, map-append, get_or_at, get_or_append_left, get_or-take}
use Rattle.std.proofs.lemmas.List.{take-append-drop, take-append-le, take-take, take_at, drop_at, take-map, drop-map, set_split}
use Rattle.std.proofs.lemmas.List.Elements.{All-append, All-cons, All-same, All-take, All-drop}
use Rattle.wasm_module_validator_type_storage.specs.ordered.Order.{Ascends}
use Rattle.wasm_module_validator_type_storage.specs.ordered.Chunks.{IsChunk, AreChunks, Belongs, Takes, chunk_at, last_of, halved_at, half, most}
use Rattle.wasm_module_validator_type_storage.proofs.Chunks.{concat-append, chunk_of, split, front_with, less_with, greater_behind, read}

pub less_by : (o : Ordering) → is_lt o ≡ true → o ≡ Less
less_by Less e = refl
less_by Equal e = cc
less_by Greater e = cc

pub more_by : (o : Ordering) → is_lt o ≡ false → o ≢ Less
more_by o e is = let h : true ≡ false = sym (ap is_lt is) ∙ e in cc

module _ (cs : List (List ℕ)) (at : ℕ) (within : at < length cs) where
  lower : List ℕ
  lower = take half (chunk_at cs at)

  upper : List ℕ
  upper = drop half (chunk_at cs at)

  front_length : length (take at cs) ≡ at
  front_length = length-take-le at cs (omega (arith, within))

  pub concat_halved : concat (halved_at at cs) ≡ concat cs
  concat_halved =
      let c = chunk_at cs at in
      let back = concat (drop (at + 1) cs) in
      concat-append (take at cs) (take half c ∷ drop half c ∷ drop (at + 1) cs)
      ∙ ap (λ l. concat (take at cs) ++ l) (sym (append_assoc (take half c) (drop half c) back) ∙ ap (λ l. l ++ back) (take-append-drop half c))
      ∙ sym (split cs at within)

  pub length_halved : length (halved_at at cs) ≡ length cs + 1
  length_halved =
      let c = chunk_at cs at in
      omega (arith, front_length, within, length-append (take at cs) (take half c ∷ drop half c ∷ drop (at + 1) cs), length-drop (at + 1) cs)

  pub lower_at : chunk_at (halved_at at cs) at ≡ take half (chunk_at cs at)
  lower_at = let c = chunk_at cs at in get_or_at (take at cs) (take half c) (drop half c ∷ drop (at + 1) cs) [] at front_length

  pub upper_at : chunk_at (halved_at at cs) (at + 1) ≡ drop half (chunk_at cs at)
  upper_at =
      let c = chunk_at cs at in
      let front : List (List ℕ) = take at cs ++ take half c ∷ [] in
      ap (λ l. chunk_at l (at + 1)) (sym (append_assoc (take at cs) (take half c ∷ []) (drop half c ∷ drop (at + 1) cs)))
      ∙ get_or_at front (drop half c) (drop (at + 1) cs) [] (at + 1) (omega (arith, front_length, length-append (take at cs) (take half c ∷ [])))

  module _ (long : half < length (chunk_at cs at)) (sized : AreChunks cs) where
    pub sized_halved : AreChunks (halved_at at cs)
    unfolding AreChunks
    sized_halved =
        let c = chunk_at cs at in
        let one = chunk_of cs at within sized in
        let low : IsChunk (take half c) = record { some = omega (arith, length-take-le half c (omega arith)); few = omega (arith, length-take-le half c (omega arith)) } in
        let high : IsChunk (drop half c) = record { some = omega (arith, length-drop half c); few = omega (arith, length-drop half c, one.few) } in
        All-append IsChunk (take at cs) (take half c ∷ drop half c ∷ drop (at + 1) cs) (All-take IsChunk at cs sized)
        (All-cons IsChunk (take half c) (drop half c ∷ drop (at + 1) cs) low
        (All-cons IsChunk (drop half c) (drop (at + 1) cs) high (All-drop IsChunk (at + 1) cs sized)))

    module _ (order : ℕ → Ordering) (ascends : Ascends order (concat cs)) (b : Belongs order cs at) where
      whole : Ascends order (concat (take at (halved_at at cs)) ++ (chunk_at (halved_at at cs) at ++ concat (drop (at + 1) (halved_at at cs))))
      whole = subst (Ascends order) (sym concat_halved ∙ split (halved_at at cs) at (omega (arith, length_halved, within))) ascends

      some_lower : 0 < length (chunk_at (halved_at at cs) at)
      some_lower = omega (arith, ap length lower_at, length-take-le half (chunk_at cs at) (omega (arith, long)))

      front_same : concat (take at (halved_at at cs)) ≡ concat (take at cs)
      front_same = let c = chunk_at cs at in ap concat (take_at (take at cs) (take half c ∷ drop half c ∷ drop (at + 1) cs) at front_length)

      pub takes_lower : order (last_of (chunk_at (halved_at at cs) at)) ≢ Less → Takes order (halved_at at cs) at
      takes_lower last = record {
        within = omega (arith, length_halved, within);
        sized = sized_halved;
        room = omega (arith, ap length lower_at, length-take-le half (chunk_at cs at) (omega (arith, long)));
        belongs = record {
          less = All-same (λ n. order n ≡ Less) (concat (take at (halved_at at cs))) (concat (take at cs)) front_same b.less;
          greater = greater_behind order (concat (take at (halved_at at cs))) (chunk_at (halved_at at cs) at) (concat (drop (at + 1) (halved_at at cs))) whole some_lower last;
        };
      }

      back_same : concat (drop (at + 1 + 1) (halved_at at cs)) ≡ concat (drop (at + 1) cs)
      back_same =
          let c = chunk_at cs at in
          let front : List (List ℕ) = take at cs ++ take half c ∷ drop half c ∷ [] in
          ap (λ l. concat (drop (at + 1 + 1) l)) (sym (append_assoc (take at cs) (take half c ∷ drop half c ∷ []) (drop (at + 1) cs)))
          ∙ ap concat (drop_at front (drop (at + 1) cs) (at + 1 + 1) (omega (arith, front_length, length-append (take at cs) (take half c ∷ drop half c ∷ []))))

      pub takes_upper : order (last_of (chunk_at (halved_at at cs) at)) ≡ Less → Takes order (halved_at at cs) (at + 1)
      takes_upper last = record {
        within = omega (arith, length_halved, within);
        sized = sized_halved;
        room = let one = chunk_of cs at within sized in omega (arith, ap length upper_at, length-drop half (chunk_at cs at), one.few);
        belongs = record {
          less =
              All-same (λ n. order n ≡ Less) (concat (take (at + 1) (halved_at at cs))) (concat (take at (halved_at at cs)) ++ chunk_at (halved_at at cs) at)
              (front_with (halved_at at cs) at (omega (arith, length_halved, within)))
              (less_with order (concat (take at (halved_at at cs))) (chunk_at (halved_at at cs) at) (concat (drop (at + 1) (halved_at at cs))) whole some_lower last);
          greater = All-same (λ n. order n ≡ Greater) (concat (drop (at + 1 + 1) (halved_at at cs))) (concat (drop (at + 1) cs)) back_same b.greater;
        };
      }

-- the upper half `u` was put behind the chunk, and then the chunk `w` was cut short to `v`
pub halved_by : {X : Type 0} (f : X → List ℕ) (xs ys : List X) (at : ℕ) (u v w : X) → at < length xs → ys ≡ insert xs (at + 1) u → f u ≡ drop half (chunk_at (map f xs) at)
    → w ≡ get_or ys at w → f v ≡ take half (f w) → map f (set ys at v) ≡ halved_at at (map f xs)
halved_by f xs ys at u v w within put up read_w low =
    let front : length (take (at + 1) xs) ≡ at + 1 = length-take-le (at + 1) xs (omega (arith, within)) in
    let inside : at < length ys = omega (arith, ap length put, front, length-append (take (at + 1) xs) (u ∷ drop (at + 1) xs)) in
    let next : suc at ≡ at + 1 = omega arith in
    let before : take at ys ≡ take at xs =
    ap (take at) put ∙ take-append-le at (take (at + 1) xs) (u ∷ drop (at + 1) xs) (omega (arith, front)) ∙ take-take at (at + 1) xs (omega arith) in
    let after : drop (suc at) ys ≡ u ∷ drop (at + 1) xs =
    ap (drop (suc at)) put ∙ ap (λ n. drop n (insert xs (at + 1) u)) next ∙ drop_at (take (at + 1) xs) (u ∷ drop (at + 1) xs) (at + 1) front in
    let there : w ≡ get_or xs at w =
    read_w ∙ ap (λ l. get_or l at w) put ∙ get_or_append_left (take (at + 1) xs) (u ∷ drop (at + 1) xs) w at (omega (arith, front)) ∙ get_or-take (at + 1) xs at w (omega arith) in
    let whole : set ys at v ≡ take at xs ++ v ∷ u ∷ drop (at + 1) xs = set_split ys at v inside ∙ ap (λ l. l ++ v ∷ drop (suc at) ys) before ∙ ap (λ l. take at xs ++ v ∷ l) after in
    let first : f v ≡ take half (chunk_at (map f xs) at) = low ∙ ap (take half) (sym (read f xs at w within there)) in
    ap (map f) whole
    ∙ map-append f (take at xs) (v ∷ u ∷ drop (at + 1) xs)
    ∙ ap (λ l. l ++ f v ∷ f u ∷ map f (drop (at + 1) xs)) (sym (take-map f at xs))
    ∙ ap (λ l. take at (map f xs) ++ f v ∷ f u ∷ l) (sym (drop-map f (at + 1) xs))
    ∙ ap (λ l. take at (map f xs) ++ l ∷ f u ∷ drop (at + 1) (map f xs)) first
    ∙ ap (λ l. take at (map f xs) ++ take half (chunk_at (map f xs) at) ∷ l ∷ drop (at + 1) (map f xs)) up

-- a chunk that has no room
pub no_room : {X : Type 0} (f : X → List ℕ) (xs seen : List X) (at : ℕ) (r : Bool) → seen ≡ xs → IsTrue r ↔ (length (chunk_at (map f seen) at) < most) → r ≡ false
    → half < length (chunk_at (map f xs) at)
no_room f xs seen at true e tells is = cc
no_room f xs seen at false e tells is =
    ⊎_elim (λ lt. let h : false ≡ true = tells.1 lt in cc) (λ le. omega (arith, le, ap (λ l. length (chunk_at (map f l) at)) e)) (cases_lt (length (chunk_at (map f seen) at)) most)

-- what the two halves are worth to who adds a number
module _ (cs now : List (List ℕ)) (at : ℕ) (is : now ≡ halved_at at cs) (within : at < length cs) (long : half < length (chunk_at cs at)) where
  pub same_now : concat now ≡ concat cs
  same_now = ap concat is ∙ concat_halved cs at within

  pub within_now : at < length now
  within_now = omega (arith, within, ap length is, length_halved cs at within)

  module _ (sized : AreChunks cs) where
    pub sized_now : AreChunks now
    sized_now = subst AreChunks (sym is) (sized_halved cs at within long sized)

    module _ (order : ℕ → Ordering) (ascends : Ascends order (concat cs)) (b : Belongs order cs at)
        (seen : List (List ℕ)) (e : seen ≡ now) (r : Bool) (tells : r ≡ is_lt (order (last_of (chunk_at seen at)))) where
      tells_there : r ≡ is_lt (order (last_of (chunk_at (halved_at at cs) at)))
      tells_there = tells ∙ ap (λ l. is_lt (order (last_of (chunk_at l at)))) (e ∙ is)

      pub takes_above : r ≡ true → Takes order now (at + 1)
      takes_above says =
          subst (λ l. Takes order l (at + 1)) (sym is)
          (takes_upper cs at within long sized order ascends b (less_by (order (last_of (chunk_at (halved_at at cs) at))) (sym tells_there ∙ says)))

      pub takes_below : r ≡ false → Takes order now at
      takes_below says =
          subst (λ l. Takes order l at) (sym is)
          (takes_lower cs at within long sized order ascends b (more_by (order (last_of (chunk_at (halved_at at cs) at))) (sym tells_there ∙ says)))

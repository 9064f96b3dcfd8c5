-- Where the numbers that are less end, and what stands on both sides.
use Rattle.std.specs.Prelude.{◌≡◌, ◌≢◌, ℕ, ◌+◌, ◌-◌, ◌<◌, ◌≤◌, List, [], ◌++◌, length, All, take, drop, insert}
use Rattle.std.specs.declared.cmp.Ordering.{Ordering}
use Rattle.std.specs.declared.cmp.Ordering.TheVariants.{Less, Equal, Greater}
use Rattle.std.proofs.Common.{refl, sym, ap, subst, ◌∙◌, inl, inr, ⊎_elim, get_or, arith}
use Rattle.std.proofs.lemmas.Bool.{cases_lt}
use Rattle.std.proofs.lemmas.List.{length-take-le, length-drop, get_or-take, get_or-drop, get_or_default, take-append-drop, take_all, drop_all}
use Rattle.std.proofs.lemmas.List.Elements.{All-append, All-nil, All-same, All-weaker}
use Rattle.wasm_module_validator_type_storage.specs.ordered.Order.{Ascends, Misses, IsPlace, IsPut}
use Rattle.wasm_module_validator_type_storage.specs.ordered.OrderLaws.{all_right}

-- an answer is one of three
pub greater_left : (o : Ordering) → o ≢ Less → o ≢ Equal → o ≡ Greater
greater_left Less l e = absurd (l refl)
greater_left Equal l e = absurd (e refl)
greater_left Greater l e = refl

module _ (order : ℕ → Ordering) (ns : List ℕ) where
  pub less_to : (at : ℕ) → at ≤ length ns → Ascends order ns → (0 < at → order (get_or ns (at - 1) 0) ≡ Less) → All (λ n. order n ≡ Less) (take at ns)
  unfolding Ascends
  less_to at within ascends last k d lt =
      let short : k < at = omega (arith, length-take-le at ns within) in
      let is : get_or (take at ns) k d ≡ get_or ns k 0 = get_or-take at ns k d short ∙ get_or_default ns k d 0 (omega arith) in
      let end : order (get_or ns (at - 1) 0) ≡ Less = last (omega arith) in
      ap order is
      ∙ ⊎_elim (λ below. ⊎_elim (λ less. less) (λ greater. absurd (cc)) (ascends k (at - 1) 0 below (omega arith)))
      (λ above. let same : k ≡ at - 1 = omega arith in ap (λ i. order (get_or ns i 0)) same ∙ end)
      (cases_lt k (at - 1))

  pub rest_from : (at : ℕ) → Ascends order ns → (high : ℕ) → high ≡ at → (high < length ns → order (get_or ns high 0) ≢ Less)
      → All (λ n. order n ≢ Less) (drop at ns)
  unfolding Ascends
  rest_from at ascends high ends seen k d lt e =
      let first : at < length ns → order (get_or ns at 0) ≢ Less = subst (λ i. i < length ns → order (get_or ns i 0) ≢ Less) ends seen in
      let inside : at + k < length ns = omega (arith, length-drop at ns) in
      let is : get_or (drop at ns) k d ≡ get_or ns (at + k) 0 = get_or-drop at ns k d ∙ get_or_default ns (at + k) d 0 inside in
      let less : order (get_or ns (at + k) 0) ≡ Less = sym (ap order is) ∙ e in
      ⊎_elim (λ below. ⊎_elim (λ h. first (omega arith) h) (λ greater. absurd (cc)) (ascends at (at + k) 0 below inside))
      (λ above. let same : at + k ≡ at = omega arith in first (omega arith) (sym (ap (λ i. order (get_or ns i 0)) same) ∙ less))
      (cases_lt at (at + k))

  pub not_less : (at : ℕ) → at < length ns → All (λ n. order n ≢ Less) (drop at ns) → order (get_or ns at 0) ≢ Less
  not_less at within rest e = rest 0 0 (omega (arith, length-drop at ns)) (ap order (get_or-drop at ns 0 0 ∙ ap (λ i. get_or ns i 0) (omega arith)) ∙ e)

  -- behind one that is greater, all are
  pub greater_from : (at : ℕ) → Ascends order ns → order (get_or ns at 0) ≡ Greater → All (λ n. order n ≡ Greater) (drop at ns)
  unfolding Ascends
  greater_from at ascends it k d lt =
      let inside : at + k < length ns = omega (arith, length-drop at ns) in
      let is : get_or (drop at ns) k d ≡ get_or ns (at + k) 0 = get_or-drop at ns k d ∙ get_or_default ns (at + k) d 0 inside in
      ap order is
      ∙ ⊎_elim (λ below. ⊎_elim (λ less. absurd (cc)) (λ h. h) (ascends at (at + k) 0 below inside))
      (λ above. let same : at + k ≡ at = omega arith in ap (λ i. order (get_or ns i 0)) same ∙ it)
      (cases_lt at (at + k))

  pub misses_around : (at : ℕ) → All (λ n. order n ≡ Less) (take at ns) → All (λ n. order n ≡ Greater) (drop at ns) → Misses order ns
  unfolding Misses
  misses_around at less greater =
      let P : ℕ → Type 0 = λ n. order n ≢ Equal in
      All-same P ns (take at ns ++ drop at ns) (sym (take-append-drop at ns))
      (All-append P (take at ns) (drop at ns)
      (All-weaker (λ n. order n ≡ Less) P (λ n h e. cc) (take at ns) less)
      (All-weaker (λ n. order n ≡ Greater) P (λ n h e. cc) (drop at ns) greater))

  pub misses_less : (at : ℕ) → length ns ≤ at → All (λ n. order n ≡ Less) (take at ns) → Misses order ns
  unfolding Misses
  misses_less at long less =
      let P : ℕ → Type 0 = λ n. order n ≢ Equal in
      All-weaker (λ n. order n ≡ Less) P (λ n h e. cc) ns (All-same (λ n. order n ≡ Less) ns (take at ns) (sym (take_all at ns long)) less)

  -- a number is put where the numbers end that are less
  pub put_at : (at n : ℕ) (old new : List ℕ) → ns ≡ old → new ≡ insert ns at n → All (λ n. order n ≡ Less) (take at ns) → All (λ n. order n ≢ Less) (drop at ns)
      → Misses order old → IsPut order n old new
  unfolding Misses
  put_at at n old new e f less rest misses =
      let was : old ≡ take at ns ++ drop at ns = sym e ∙ sym (take-append-drop at ns) in
      let none = all_right (λ n. order n ≢ Equal) (take at ns) (drop at ns) (subst (All (λ n. order n ≢ Equal)) was misses) in
      record {
        before = take at ns;
        after = drop at ns;
        was = was;
        is = f;
        less = less;
        greater = λ k d lt. greater_left _ (rest k d lt) (none k d lt);
      }

  -- a search that finds nothing ends at the place where what is sought belongs
  pub place_between : (low high : ℕ) → high ≡ low → low ≤ length ns → Ascends order ns → (0 < low → order (get_or ns (low - 1) 0) ≡ Less)
      → (high < length ns → order (get_or ns high 0) ≡ Greater) → IsPlace order ns low
  place_between low high same within ascends before from = record {
    within = within;
    less = less_to low within ascends before;
    greater = elim (cases_lt low (length ns)) [
      | inl lt ↦ greater_from low ascends (subst (λ i. i < length ns → order (get_or ns i 0) ≡ Greater) same from lt)
      | inr le ↦ All-same (λ n. order n ≡ Greater) (drop low ns) [] (drop_all low ns le) (All-nil (λ n. order n ≡ Greater))
    ];
  }

  pub place_misses : (at : ℕ) → IsPlace order ns at → Misses order ns
  place_misses at place = misses_around at place.less place.greater

-- Fewer locals, of which all that were set stay.
use Rattle.std.proofs.Common.{◌≡◌, ◌∙◌, ◌==◌, ◌∷◌, ◌≤◌, [], ℕ, zero, suc, Bool, true, false, Option, Some, None, List, length, take, map, refl, sym, ap, subst, arith, ⊎_elim}
use Rattle.std.proofs.lemmas.Bool.{ne_eqb, or_from, cases_lt}
use Rattle.std.proofs.lemmas.List.{get_or-take, get_or_past, length-take}
use Rattle.wasm_operator_validator_locals.specs.declared.inits.Mark.{Mark}
use Rattle.wasm_operator_validator_locals.specs.declared.inits.Mark.TheVariants as mark
use Rattle.wasm_operator_validator_locals.specs.inits.Inits.{is_among, AreBelow, AreSavedBelow}
use Rattle.wasm_operator_validator_locals.specs.inits.Marks.{is_first, is_set, AreUnset, AreSavedUnset, AreMarked}
use Rattle.wasm_operator_validator_locals.proofs.Unset.{is_inside}
use Rattle.wasm_operator_validator_locals.proofs.Marking.{AreSound}

pub below : (first : List Bool) (xs : List ℕ) → AreUnset first xs → AreBelow (length first) xs
below first [] u = tt
below first (x ∷ xs) (f, n, u) = (is_inside first x f, below first xs u)

pub saved_below : (first : List Bool) (s : Option (List ℕ)) → AreSavedUnset first s → AreSavedBelow (length first) s
saved_below first None u = tt
saved_below first (Some xs) u = below first xs u

pub map_take : (n : ℕ) (marks : List Mark) → map is_first (take n marks) ≡ take n (map is_first marks)
map_take zero marks = refl
map_take (suc n) [] = refl
map_take (suc n) (m ∷ marks) = ap (λ (bs : List Bool). is_first m ∷ bs) (map_take n marks)

unset_fewer : (first : List Bool) (n : ℕ) (xs : List ℕ) → AreBelow n xs → AreUnset first xs → AreUnset (take n first) xs
unset_fewer first n [] b u = tt
unset_fewer first n (x ∷ xs) (h, b) (f, a, u) = (get_or-take n first x true h ∙ f, a, unset_fewer first n xs b u)

saved_fewer : (first : List Bool) (n : ℕ) (s : Option (List ℕ)) → AreSavedBelow n s → AreSavedUnset first s → AreSavedUnset (take n first) s
saved_fewer first n None b u = tt
saved_fewer first n (Some xs) b u = unset_fewer first n xs b u

none_above : (n : ℕ) (xs : List ℕ) (k : ℕ) → AreBelow n xs → n ≤ k → is_among xs k ≡ false
none_above n [] k b h = refl
none_above n (x ∷ xs) k (l, b) h = or_from (x == k) (is_among xs k) (ne_eqb x k (λ e. absurd (omega (arith, l, h, e)))) (none_above n xs k b h)

marked_fewer : (marks : List Mark) (n : ℕ) (xs : List ℕ) → AreBelow n xs → AreMarked marks xs → AreMarked (take n marks) xs
marked_fewer marks n xs b a k = ⊎_elim
    (λ h. ap is_set (get_or-take n marks k mark.Unset h) ∙ a k)
    (λ h.
    let l = length-take n marks in
    let p : length (take n marks) ≤ k = omega (arith, l, h) in
    ap is_set (get_or_past (take n marks) k mark.Unset p) ∙ sym (none_above n xs k b h))
    (cases_lt k n)

pub fewer_sound : (marks news : List Mark) (n : ℕ) (xs : List ℕ) (s : Option (List ℕ)) → news ≡ take n marks → AreBelow n xs → AreSavedBelow n s → AreSound marks xs s → AreSound news xs s
fewer_sound marks news n xs s e b c (a, u, v) =
    subst (λ (ms : List Mark). AreSound ms xs s) (sym e) (
      marked_fewer marks n xs b a,
      rw (map_take n marks) (unset_fewer (map is_first marks) n xs b u),
      rw (map_take n marks) (saved_fewer (map is_first marks) n s c v),
    )

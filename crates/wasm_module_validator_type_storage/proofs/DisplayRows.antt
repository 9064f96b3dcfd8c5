-- The worked displays.
use Rattle.std.proofs.Common.{◌≡◌, ◌<◌, ℕ, zero, suc, [], ◌∷◌, Option, Some, None, refl, ap, sym, subst, arith}
use Rattle.std.specs.Prelude.{slice_get}
use Rattle.std.proofs.lemmas.Option.{none-some, same_Some}
use Rattle.wasm_types.specs.trees.declared.index.CoreTypeId.{CoreTypeId}
use Rattle.wasm_module_validator_type_storage.specs.declared.displays.Display.{Display}
use Rattle.wasm_module_validator_type_storage.specs.displays.Chains.{HasDepth, top, below}
use Rattle.wasm_module_validator_type_storage.specs.displays.Entries.{AreEarlier, IsDisplayed, LacksDisplay, alike, deep}
use Rattle.wasm_module_validator_type_storage.specs.displays.Worked.{id, three_and_one, just, DisplaysWorked}
use Rattle.wasm_module_validator_type_storage.proofs.Chains.{one_depth, known_by_depth}
use Rattle.wasm_module_validator_type_storage.proofs.Filling.{none_kept}

one : (a b : CoreTypeId) → Some (Some a) ≡ Some (Some b) → a ≡ b
one a b e = same_Some a b (same_Some (Some a) (Some b) e)

none_there : (b : CoreTypeId) → Some None ≡ Some (Some b) → ⊥
none_there b e = none-some b (same_Some None (Some b) e)

three_earlier : AreEarlier three_and_one
three_earlier zero b e = absurd (none_there b e)
three_earlier (suc zero) b e = omega (arith, ap (λ (x : CoreTypeId). x.0) (one (id 0) b e))
three_earlier (suc (suc zero)) b e = omega (arith, ap (λ (x : CoreTypeId). x.0) (one (id 1) b e))
three_earlier (suc (suc (suc zero))) b e = absurd (none_there b e)
three_earlier (suc (suc (suc (suc i)))) b e = absurd (none-some (Some b) e)

alone_earlier : AreEarlier (None ∷ [])
alone_earlier zero b e = absurd (none_there b e)
alone_earlier (suc i) b e = absurd (none-some (Some b) e)

first_there : (d : Display) (n : ℕ) → n < 1 → slice_get (Some d ∷ []) n ≡ Some (Some d)
first_there d zero lt = refl
first_there d (suc n) lt = absurd (omega (arith, lt))

zero_depth : HasDepth three_and_one (id 0) 0
zero_depth = top refl

two_depth : HasDepth three_and_one (id 2) 2
two_depth = below {b = id 1} refl (below {b = id 0} refl zero_depth)

not_displayed : IsDisplayed (None ∷ []) (id 0) → ⊥
not_displayed h = none-some h.display (same_Some None (Some h.display) h.there)

has_one : (d : Display) → LacksDisplay three_and_one (Some d ∷ []) (id 1) → ⊥
has_one d (alike above is not) = not (subst (λ (x : CoreTypeId). IsDisplayed (Some d ∷ []) x) (one (id 0) above is) (record { display = d; there = refl }))
has_one d (deep above n is h le) =
    let deep_zero : HasDepth three_and_one (id 0) n = subst (λ (x : CoreTypeId). HasDepth three_and_one x n) (sym (one (id 0) above is)) h in
    let e = one_depth three_and_one (id 0) 0 n zero_depth deep_zero in
    omega (arith, e, le)

none_above : LacksDisplay three_and_one (None ∷ []) (id 0) → ⊥
none_above (alike above is not) = none_there above is
none_above (deep above n is h le) = none_there above is

pub displays_worked : (d : Display) → DisplaysWorked d
displays_worked d = record {
  earlier = three_earlier;
  above_itself = λ earlier. let lt = earlier 0 (id 0) refl in omega (arith, lt);
  shallow = record { depth = 2; is_depth = two_depth; within = omega arith };
  no_type = λ s. let lt = known_by_depth three_and_one (id 4) s.depth s.is_depth in omega (arith, lt);
  displayed = λ earlier a lt shallow. record { display = d; there = first_there d a.0 lt };
  missing = λ all. not_displayed (all alone_earlier (id 0) (omega arith) (record { depth = 0; is_depth = top refl; within = omega arith }));
  lacking = alike (id 0) refl not_displayed;
  not_lacking = has_one d;
  no_supertype = none_above;
  none_kept = none_kept (just []) (just []) (just []) refl refl refl;
  no_room = λ k. let room = k.supertypes_room in omega (arith, room);
  not_made = λ k. let all = k.all in omega (arith, all);
}

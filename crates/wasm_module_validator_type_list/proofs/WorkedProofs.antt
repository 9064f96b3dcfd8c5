-- The worked rows of lists of types.
use Rattle.std.proofs.Common.{◌≡◌, ◌∙◌, ℕ, [], ◌∷◌, refl, rules, arith, ap, sym, Some, None}
use Rattle.std.specs.Prelude.{Option, Bool, true, false, if◌then◌else◌, length}
use Rattle.std.specs.declared.cmp.Ordering.TheVariants.{Less, Greater}
use Rattle.std.proofs.lemmas.List.Elements.{All-nil}
use Rattle.wasm_types.specs.declared.rec_group.RecGroup.{RecGroup}
use Rattle.wasm_types.specs.declared.sub_type.SubType.{SubType}
use Rattle.wasm_types.specs.Entries.{declared_of, declared_types}
use Rattle.wasm_types.specs.trees.Unfold.{type_count}
use Rattle.wasm_module_validator_type_storage.specs.ordered.Order.{IsPut}
use Rattle.wasm_module_validator_type_storage.specs.ordered.OrderLaws.{put_length}
use Rattle.wasm_module_validator_type_storage.specs.trees.Worked.{canonical, as_written}
use Rattle.wasm_module_validator_type_storage.specs.trees.Groups.{Group, group_numbers, group_ranges, declared_by_id}
use Rattle.wasm_module_validator_type_list.specs.Rolled.{forms}
use Rattle.wasm_module_validator_type_list.specs.Worked.{ListsWorked, known_by}
use Rattle.wasm_module_validator_type_list.specs.declared.ids.RecGroupId.{RecGroupId}
use Rattle.wasm_module_validator_type_list.specs.Beside.{beside}
use Rattle.wasm_module_validator_type_list.specs.Known.{Numbers, Gains, by_id, by_copy}
use Rattle.wasm_module_validator_type_list.proofs.Depths.{sets_depth, same_more, past}

pair_of : Option (ℕ × ℕ) → ℕ × ℕ
pair_of None = (0, 0)
pair_of (Some p) = p

some_same : (a b c d : ℕ) (o : Option (ℕ × ℕ)) → o ≡ Some (a, b) → o ≡ Some (c, d) → (a ≡ c) × (b ≡ d)
unfolding pair_of
some_same a b c d o e f = let g = ap pair_of (sym e ∙ f) in (ap (λ (p : ℕ × ℕ). p.0) g, ap (λ (p : ℕ × ℕ). p.1) g)

form_of : Option Group → Bool
form_of None = true
form_of (Some g) = g.is_canonical

declared_in : Option Group → ℕ
declared_in None = 0
declared_in (Some g) = length g.types

as_written_stays : (t u : SubType) (here : Bool) → (if here then Some (as_written (declared_of t ∷ [])) else None) ≡ Some (canonical (declared_of u ∷ [])) → ⊥
unfolding form_of
as_written_stays t u true e = let z : false ≡ true = ap form_of e in cc
as_written_stays t u false e = cc

two_stay : (t u v : SubType) (here : Bool) → (if here then Some (canonical (declared_of t ∷ declared_of u ∷ [])) else None) ≡ Some (canonical (declared_of v ∷ [])) → ⊥
unfolding declared_in
two_stay t u v true e = let z : ◌≡◌ {A = ℕ} 2 1 = ap declared_in e in cc
two_stay t u v false e = cc

put_first : (t : SubType) → IsPut (beside [] t) 0 [] (0 ∷ [])
put_first t = record {
  before = [];
  after = [];
  was = refl;
  is = refl;
  less = All-nil (λ n. beside [] t n ≡ Less);
  greater = All-nil (λ n. beside [] t n ≡ Greater);
}

kept_nowhere : (t : SubType) (g : RecGroup) (k : RecGroupId) (m n : Numbers) → declared_types g ≡ declared_of t ∷ []
    → Gains [] (t ∷ []) 0 g k (known_by [] m) (known_by [] n) → ⊥
kept_nowhere t g k m n e (by_id ty one same put finds) = absurd (omega (arith, put_length put))
kept_nowhere t g k m n e (by_copy apart learns ids) = apart refl e

pub lists_worked : ListsWorked
unfolding type_count group_numbers group_ranges declared_by_id forms
lists_worked = record {
  place = refl;
  last_id = refl;
  no_id = refl;
  own_id = refl;
  of_module = refl;
  own_place = refl;
  earlier_id = refl;
  first_own_place = refl;
  still_of_module = refl;
  rolled_up = refl;
  forms_in_turn = refl;
  room = record { types = omega arith; numbers = omega arith };
  no_room = λ r. let h = r.types in omega arith;
  added = search rules;
  known = λ a. a refl 1 refl;
  as_written = search rules;
  interned = record { at = refl; groups = refl; new_exactly = (λ t. search rules, λ a. refl); next = λ t. refl };
  found = record { at = refl; groups = refl; new_exactly = (λ t. search rules, λ a. absurd (a refl 1 refl)); next = λ t. search rules };
  found_elsewhere = λ i. let e = i.at in search rules;
  added_twice = λ i. i.new_exactly.0 refl refl 1 refl;
  added_again = record { at = refl; groups = refl; new_exactly = (λ t. search rules, λ a. refl); next = λ t. refl };
  not_the_next = λ i. let e = i.next refl in omega arith;
  kept_by_id = λ t. record { number = 0; kept = t; home = refl; stored = refl; group = refl };
  not_canonical = λ t a. as_written_stays t a.kept _ a.group;
  not_alone = λ t u a. two_stay t u a.kept _ a.group;
  gained = λ t g k m e. by_id t refl e (put_first t) (λ q. refl);
  gained_by_copy = λ t g k m n e h. kept_nowhere t g k m n e h;
  ids = refl;
  first_place = record { first = 0; end = 2; ids = refl; within = omega arith };
  no_place = λ p. let e = some_same 2 3 p.first p.end _ refl p.ids in let w = p.within in omega arith;
  at_place = record { first = 0; end = 2; ids = refl; at = refl };
  not_at_place = λ p. let e = some_same 2 3 p.first p.end _ refl p.ids in let w = p.at in omega arith;
  depth = refl;
  no_depth = refl;
  no_type = refl;
  set = sets_depth (Some 0 ∷ None ∷ []) _ 1 1 (omega arith) refl;
  set_wrong = λ h. let e = h 1 in search rules;
  set_elsewhere = λ h. let e = h 0 in search rules;
  kept = record { kept = same_more (Some 0 ∷ None ∷ []) 1; none = λ id le. same_more (Some 0 ∷ None ∷ []) 1 id ∙ past (Some 0 ∷ None ∷ []) id le };
  lost = λ h. let e = h.kept 0 in search rules;
  given = λ h. let e = h.none 2 (omega arith) in search rules;
}

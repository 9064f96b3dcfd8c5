-- The worked rows of subtyping.
use Rattle.std.proofs.Common.{◌≡◌, Bool, true, false, Some, None, refl, ap, subst, rules}
use Rattle.wasm_types_trees.specs.Types.{Abstract, func, any, none, nofunc, struct, array, cont, nocont}
use Rattle.wasm_types_trees.specs.Trees.{TypeTree, opened}
use Rattle.wasm_types_trees.specs.AbstractOrder.{AbstractBelow, same, eq_any, i31_any, struct_any, array_any, none_any, i31_eq, struct_eq, array_eq}
use Rattle.wasm_types_trees.specs.AbstractOrder.{none_eq, none_i31, none_array, nofunc_func, noextern_extern, noexn_exn, nocont_cont}
use Rattle.wasm_types_trees.specs.Below.{expanded, is_shared, supertype, abstract_above, bottom_of, DeclaredBelow, itself, declared}
use Rattle.wasm_types_trees.specs.worked.Types.{base, derived, leaf, unrelated, shared_struct, routine, numbers, suspended, broken}
use Rattle.wasm_types_trees.specs.worked.Subtypes.{SubtypesWorked}

-- ---- what is above a type by declaration

above_none : (P : TypeTree → Type 0) (t u : TypeTree) → supertype t ≡ None → P t → DeclaredBelow t u → P u
above_none P t u e p itself = p
above_none P t u e p (declared f d) = absurd cc

above_one : (P : TypeTree → Type 0) (t u v : TypeTree) → supertype t ≡ Some v → P t → ((w : TypeTree) → DeclaredBelow v w → P w) → DeclaredBelow t u → P u
above_one P t u v e p q itself = p
above_one P t u v e p q (declared f d) = let g : _ ≡ v = cc in q u (subst (λ (x : TypeTree). DeclaredBelow x u) g d)

module _ (P : TypeTree → Type 0) where
  pub above_base : (u : TypeTree) → P base → DeclaredBelow base u → P u
  unfolding opened
  above_base u p = above_none P base u refl p

  above_unrelated : (u : TypeTree) → P unrelated → DeclaredBelow unrelated u → P u
  unfolding opened
  above_unrelated u p = above_none P unrelated u refl p

  above_shared_struct : (u : TypeTree) → P shared_struct → DeclaredBelow shared_struct u → P u
  unfolding opened
  above_shared_struct u p = above_none P shared_struct u refl p

  above_routine : (u : TypeTree) → P routine → DeclaredBelow routine u → P u
  unfolding opened
  above_routine u p = above_none P routine u refl p

  above_numbers : (u : TypeTree) → P numbers → DeclaredBelow numbers u → P u
  unfolding opened
  above_numbers u p = above_none P numbers u refl p

  above_suspended : (u : TypeTree) → P suspended → DeclaredBelow suspended u → P u
  unfolding opened
  above_suspended u p = above_none P suspended u refl p

  pub above_derived : (u : TypeTree) → P derived → P base → DeclaredBelow derived u → P u
  unfolding opened
  above_derived u p q = above_one P derived u base refl p (λ w. above_base w q)

  pub above_leaf : (u : TypeTree) → P leaf → P derived → P base → DeclaredBelow leaf u → P u
  unfolding opened
  above_leaf u p q r = above_one P leaf u derived refl p (λ w. above_derived w q r)

  above_broken : (u : TypeTree) → P broken → P base → DeclaredBelow broken u → P u
  unfolding opened
  above_broken u p q = above_one P broken u base refl p (λ w. above_base w q)

pub derived_base : DeclaredBelow derived base
unfolding opened
derived_base = declared refl itself

leaf_derived : DeclaredBelow leaf derived
unfolding opened
leaf_derived = declared refl itself

leaf_base : DeclaredBelow leaf base
unfolding opened
leaf_base = declared refl derived_base

broken_base : DeclaredBelow broken base
unfolding opened
broken_base = declared refl itself

-- ---- what is asked of each type above

-- its bottom type
abbrev IsOver : Bool → Abstract → TypeTree → Type 0
IsOver s a u = (s ≡ is_shared u) × (a ≡ bottom_of (expanded u))

-- that it is not below an abstract type
abbrev IsNotUnder : Bool → Abstract → TypeTree → Type 0
IsNotUnder s a u = is_shared u ≡ s → AbstractBelow (abstract_above (expanded u)) a → ⊥

-- that it is not a given type
abbrev pub IsNot : TypeTree → TypeTree → Type 0
IsNot t u = supertype u ≡ supertype t → expanded u ≡ expanded t → is_shared u ≡ is_shared t → ⊥

other_derived_base : expanded derived ≡ expanded base → ⊥
unfolding opened
other_derived_base e = cc

other_derived_leaf : expanded derived ≡ expanded leaf → ⊥
unfolding opened
other_derived_leaf e = cc

pub subtypes_worked : SubtypesWorked
unfolding opened
subtypes_worked = record {
  same_numbers = search rules;
  other_numbers = search rules;
  number_above = search rules;
  non_null = ((tt, itself), ((tt, itself), tt));
  null = ((tt, itself), tt);
  null_for_non_null = search rules;
  no_null_carried = ((λ p. let e = (p.1 base broken_base).1 in cc), ((λ p. let e = (p.1 base itself).1 in cc), ((λ p. elim p.1.1 [ ]), ((λ p. elim p.1.1 [ ]), tt))));
  eq_types = ((tt, (refl, same)), ((tt, (refl, eq_any)), tt));
  eq_types_not = ((λ p. elim p.1.1 [ ]), ((λ p. elim p.1.1 [ ]), ((λ p. elim p.1.1 [ ]), ((λ p. let e = p.1.0 in cc), ((λ p. elim p.1.1 [ ]), tt)))));
  any_types_not = (
    (λ p. elim p.1.1 [ ]),
    (
      (λ p. elim p.1.1 [ ]),
      ((λ p. elim p.1.1 [ ]), ((λ p. let e = (p.1 base itself).1 in cc), ((λ p. let e = (p.1 base itself).1 in cc), tt))),
    ),
  );
  i31_types = ((tt, (refl, same)), ((tt, (refl, i31_eq)), ((tt, (refl, i31_any)), tt)));
  i31_types_not = ((λ p. elim p.1.1 [ ]), ((λ p. elim p.1.1 [ ]), ((λ p. elim p.1.1 [ ]), ((λ p. let e = (p.1 base itself).1 in cc), tt))));
  bottoms = (
    (tt, (refl, none_i31)),
    (
      (tt, (refl, none_array)),
      (
        (tt, (refl, none_eq)),
        (
          (tt, (refl, none_any)),
          (
            (tt, λ u. above_base (IsOver false none) u (refl, refl)),
            (
              (tt, λ u. above_leaf (IsOver false none) u (refl, refl) (refl, refl) (refl, refl)),
              ((tt, λ u. above_leaf (IsOver false none) u (refl, refl) (refl, refl) (refl, refl)), ((tt, λ u. above_numbers (IsOver false none) u (refl, refl)), tt)),
            ),
          ),
        ),
      ),
    ),
  );
  bottoms_not = (
    (λ p. elim p.1.1 [ ]),
    (
      (λ p. elim p.1.1 [ ]),
      (
        (λ p. elim p.1.1 [ ]),
        (
          (λ p. let e = (p.1 routine itself).1 in cc),
          ((λ p. let e = (p.1 shared_struct itself).0 in cc), ((λ p. let e = (p.1 routine itself).1 in cc), tt)),
        ),
      ),
    ),
  );
  function_bottoms = (
    (tt, (refl, nofunc_func)),
    (
      (tt, λ u. above_routine (IsOver false nofunc) u (refl, refl)),
      ((tt, λ u. above_routine (IsOver false nofunc) u (refl, refl)), tt),
    ),
  );
  function_bottoms_not = ((λ p. elim p.1.1 [ ]), ((λ p. elim p.1.1 [ ]), ((λ p. let e = (p.1 base itself).1 in cc), ((λ p. let e = (p.1 suspended itself).1 in cc), tt))));
  continuation_bottoms = ((tt, (refl, nocont_cont)), ((tt, λ u. above_suspended (IsOver false nocont) u (refl, refl)), tt));
  other_bottoms = (((tt, (refl, noextern_extern)), tt), ((tt, (refl, noexn_exn)), tt));
  other_bottoms_not = (
    ((λ p. elim p.1.1 [ ]), ((λ p. elim p.1.1 [ ]), ((λ p. let e = (p.1 base itself).1 in cc), tt))),
    ((λ p. elim p.1.1 [ ]), ((λ p. elim p.1.1 [ ]), ((λ p. let e = (p.1 base itself).1 in cc), tt))),
  );
  structs = (
    (tt, itself),
    (
      (tt, leaf_derived),
      (
        (tt, leaf_base),
        ((tt, (leaf, itself, refl, same)), ((tt, (leaf, itself, refl, struct_eq)), ((tt, (leaf, itself, refl, struct_any)), tt))),
      ),
    ),
  );
  structs_not = (
    (λ p. above_derived (IsNot leaf) leaf (λ e f g. cc) (λ e f g. cc) p.1 refl refl refl),
    (
      (λ p. above_derived (IsNot unrelated) unrelated (λ e f g. cc) (λ e f g. cc) p.1 refl refl refl),
      (
        (λ p. p.1),
        (
          (λ p. p.1),
          (
            (λ p. above_derived (IsNotUnder false array) p.1.0 (λ e q. elim q [ ]) (λ e q. elim q [ ]) p.1.1 p.1.2 p.1.3),
            (
              (λ p. above_derived (IsNotUnder false func) p.1.0 (λ e q. elim q [ ]) (λ e q. elim q [ ]) p.1.1 p.1.2 p.1.3),
              (
                (λ p. above_derived (IsNotUnder false none) p.1.0 (λ e q. elim q [ ]) (λ e q. elim q [ ]) p.1.1 p.1.2 p.1.3),
                ((λ p. above_derived (IsNotUnder true struct) p.1.0 (λ e q. cc) (λ e q. cc) p.1.1 p.1.2 p.1.3), tt),
              ),
            ),
          ),
        ),
      ),
    ),
  );
  undeclared = ((λ p. above_unrelated (IsNot base) base (λ e f g. cc) p.1 refl refl refl), ((λ p. above_unrelated (IsNot derived) derived (λ e f g. cc) p.1 refl refl refl), tt));
  shared_structs = ((tt, (shared_struct, itself, refl, same)), ((tt, (shared_struct, itself, refl, struct_any)), tt));
  shared_structs_not = (
    (λ p. above_shared_struct (IsNotUnder false struct) p.1.0 (λ e q. cc) p.1.1 p.1.2 p.1.3),
    (
      (λ p. above_shared_struct (IsNotUnder false any) p.1.0 (λ e q. cc) p.1.1 p.1.2 p.1.3),
      ((λ p. above_shared_struct (IsNot base) base (λ e f g. cc) p.1 refl refl refl), tt),
    ),
  );
  arrays = ((tt, (numbers, itself, refl, same)), ((tt, (numbers, itself, refl, array_eq)), ((tt, (numbers, itself, refl, array_any)), tt)));
  arrays_not = (
    (λ p. above_numbers (IsNotUnder false struct) p.1.0 (λ e q. elim q [ ]) p.1.1 p.1.2 p.1.3),
    (
      (λ p. above_numbers (IsNotUnder false func) p.1.0 (λ e q. elim q [ ]) p.1.1 p.1.2 p.1.3),
      ((λ p. above_numbers (IsNot base) base (λ e f g. cc) p.1 refl refl refl), tt),
    ),
  );
  functions = ((tt, (routine, itself, refl, same)), tt);
  functions_not = (
    (λ p. above_routine (IsNotUnder false any) p.1.0 (λ e q. elim q [ ]) p.1.1 p.1.2 p.1.3),
    (
      (λ p. above_routine (IsNotUnder false cont) p.1.0 (λ e q. elim q [ ]) p.1.1 p.1.2 p.1.3),
      ((λ p. above_routine (IsNotUnder false nofunc) p.1.0 (λ e q. elim q [ ]) p.1.1 p.1.2 p.1.3), tt),
    ),
  );
  continuations = ((tt, (suspended, itself, refl, same)), tt);
  continuations_not = (
    (λ p. above_suspended (IsNotUnder false func) p.1.0 (λ e q. elim q [ ]) p.1.1 p.1.2 p.1.3),
    (
      (λ p. above_suspended (IsNotUnder false any) p.1.0 (λ e q. elim q [ ]) p.1.1 p.1.2 p.1.3),
      ((λ p. above_suspended (IsNot routine) routine (λ e f g. cc) p.1 refl refl refl), tt),
    ),
  );
  exact_types = ((tt, refl), ((tt, itself), ((tt, derived_base), ((tt, (derived, itself, refl, same)), ((tt, (derived, itself, refl, struct_any)), tt)))));
  exact_types_not = (
    (λ p. other_derived_base (ap expanded p.1)),
    (
      (λ p. other_derived_leaf (ap expanded p.1)),
      (
        (λ p. above_derived (IsNot leaf) leaf (λ e f g. cc) (λ e f g. cc) p.1 refl refl refl),
        (
          (λ p. above_derived (IsNotUnder false array) p.1.0 (λ e q. elim q [ ]) (λ e q. elim q [ ]) p.1.1 p.1.2 p.1.3),
          ((λ p. above_derived (IsNotUnder false none) p.1.0 (λ e q. elim q [ ]) (λ e q. elim q [ ]) p.1.1 p.1.2 p.1.3), tt),
        ),
      ),
    ),
  );
  broken_chain = ((tt, broken_base), ((tt, (broken, itself, refl, same)), ((tt, (base, broken_base, refl, same)), tt)));
  no_way_in = ((λ p. let e = (p.1 base broken_base).1 in cc), ((λ p. let e = (p.1 base broken_base).1 in cc), tt));
  no_way_in_either = ((λ p. let e = (p.1 broken itself).1 in cc), ((λ p. let e = (p.1 broken itself).1 in cc), tt));
}

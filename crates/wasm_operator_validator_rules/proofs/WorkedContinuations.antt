-- The worked rows of operators on continuations.
use Rattle.std.proofs.Common.{◌≡◌, ◌∙◌, ℕ, Bool, List, [], ◌∷◌, ◌++◌, Option, Some, true, false, refl, sym, ap, subst, rules}
use Rattle.wasm_types.specs.settings.Features.{has}
use Rattle.wasm_types.specs.trees.Types.{i32, i64, f64, cont, InnerOf, number, ref, abstract, concrete, exact, function, continuation}
use Rattle.wasm_types.specs.trees.Trees.{TypeTree, opened}
use Rattle.wasm_types.specs.trees.Below.{Below, itself, expanded}
use Rattle.wasm_operator_validator_rules.specs.Operands.{ValueType, known}
use Rattle.wasm_operator_validator_rules.specs.Context.{Signature, IsFunctionType}
use Rattle.wasm_operator_validator_rules.specs.Named.{used_type}
use Rattle.wasm_operator_validator_rules.specs.Continuations.{IsContinuationType, IsContinuation, IsTag, TypesBelow, IsCaught}
use Rattle.wasm_operator_validator_rules.specs.worked.References.{null_to, to, cell}
use Rattle.wasm_operator_validator_rules.specs.worked.Continuations.{from_to, started, resumed, resumed_otherwise, of_two, passed, passed_otherwise, passed_on, passed_exactly, null_cell, full_cell, full_to_null, full_to_full, null_to_null, more_null_to_full, more_full_to_null, giving_null, giving_full, switching, shared_started, shared_function, there, there_shared, below, on_label, ContinuationsWorked, HandlersWorked, SwitchesWorked}

-- ---- ends of lists

second : {A : Type 0} (xs : List A) (x y z : A) → y ∷ z ∷ [] ≡ xs ++ x ∷ [] → z ≡ x
second [] x y z e = absurd cc
second (v ∷ []) x y z e = cc
second (v ∷ w ∷ []) x y z e = absurd cc
second (v ∷ w ∷ u ∷ xs) x y z e = absurd cc

first : {A : Type 0} (xs : List A) (x y z : A) → y ∷ z ∷ [] ≡ xs ++ x ∷ [] → y ∷ [] ≡ xs
first [] x y z e = absurd cc
first (v ∷ []) x y z e = cc
first (v ∷ w ∷ []) x y z e = absurd cc
first (v ∷ w ∷ u ∷ xs) x y z e = absurd cc

nothing_more : {A : Type 0} (xs : List A) (x : A) → xs ++ x ∷ [] ≡ [] → ⊥
nothing_more [] x e = cc
nothing_more (y ∷ xs) x e = cc

-- what is left of two, if one type has to fit it
one_of_two : (bound rest : List ValueType) (a b u : ValueType) → a ∷ b ∷ [] ≡ bound ++ rest → TypesBelow (u ∷ []) rest → rest ≡ b ∷ []
one_of_two [] rest a b u e w = let v : TypesBelow (u ∷ []) (a ∷ b ∷ []) = subst (λ (xs : List ValueType). TypesBelow (u ∷ []) xs) (sym e) w in absurd v.1
one_of_two (v ∷ []) rest a b u e w = cc
one_of_two (v ∷ x ∷ []) rest a b u e w = let n : rest ≡ [] = cc in absurd (subst (λ (xs : List ValueType). TypesBelow (u ∷ []) xs) n w)
one_of_two (v ∷ x ∷ y ∷ bound) rest a b u e w = absurd cc

-- nothing is left of one, if two have to fit it
two_of_one : (bound rest : List ValueType) (a u v : ValueType) → a ∷ [] ≡ bound ++ rest → TypesBelow (u ∷ v ∷ []) rest → ⊥
two_of_one [] rest a u v e w = let x : TypesBelow (u ∷ v ∷ []) (a ∷ []) = subst (λ (xs : List ValueType). TypesBelow (u ∷ v ∷ []) xs) (sym e) w in x.1
two_of_one (b ∷ []) rest a u v e w = let n : rest ≡ [] = cc in subst (λ (xs : List ValueType). TypesBelow (u ∷ v ∷ []) xs) n w
two_of_one (b ∷ c ∷ bound) rest a u v e w = absurd cc

-- ---- signatures

abbrev taking : List ValueType → List ValueType → Signature
taking ps rs = record { params = ps; results = rs }

abbrev Agree : Signature → Signature → Type 0
Agree b c = (b.params ≡ c.params) × (b.results ≡ c.results)

same_signature : (i : InnerOf TypeTree) (b c : Signature) → i ≡ function b.params b.results → i ≡ function c.params c.results → Agree b c
same_signature i b c e f =
    let g : ◌≡◌ {A = InnerOf TypeTree} (function b.params b.results) (function c.params c.results) = sym e ∙ f in (cc, cc)

same_continuation : (t : TypeTree) (b c : Signature) → IsContinuationType t b → IsContinuationType t c → Agree b c
same_continuation t b c (f, e, p) (h, k, q) =
    let x : ◌≡◌ {A = InnerOf TypeTree} (continuation f) (continuation h) = sym e ∙ k in
    let y : f ≡ h = cc in
    same_signature (expanded f) b c p (subst (λ (z : TypeTree). IsFunctionType z c) (sym y) q)

-- what an index of a continuation type names
named_as : (x : ℕ) (t u : TypeTree) (b c : Signature) → IsContinuation there x t b → used_type there x ≡ Some u → IsContinuationType u c → Agree b c
named_as x t u b c n e k =
    let f : ◌≡◌ {A = Option TypeTree} (Some t) (Some u) = sym n.0 ∙ e in
    let g : t ≡ u = cc in same_continuation u b c (subst (λ (z : TypeTree). IsContinuationType z b) g n.1) k

tagged_as : (x : ℕ) (b c : Signature) → IsTag there x b → IsTag there x c → Agree b c
tagged_as x b c (t, e, p) (u, f, q) =
    let g : ◌≡◌ {A = Option TypeTree} (Some t) (Some u) = sym e ∙ f in
    let h : t ≡ u = cc in
    same_signature (expanded u) b c (subst (λ (z : TypeTree). IsFunctionType z b) h p) q

-- ---- lists that do not fit

no_null : TypesBelow (null_cell ∷ []) (full_cell ∷ []) → ⊥
no_null w = w.0.0

i32_not_i64 : TypesBelow (number i32 ∷ []) (number i64 ∷ []) → ⊥
i32_not_i64 w = let x : i32 ≡ i64 = w.0 in cc

i64_not_i32 : TypesBelow (number i64 ∷ []) (number i32 ∷ []) → ⊥
i64_not_i32 w = let x : i64 ≡ i32 = w.0 in cc

moved : (ts us vs ws : List ValueType) → ts ≡ vs → us ≡ ws → TypesBelow ts us → TypesBelow vs ws
moved ts us vs ws e f w = subst (λ (xs : List ValueType). TypesBelow vs xs) f (subst (λ (xs : List ValueType). TypesBelow xs us) e w)

-- ---- handlers

-- what a label of two types names
left_is : (u : TypeTree) (a : ValueType) (ts : List ValueType) (n : Bool) (t : TypeTree) → ◌≡◌ {A = Option (List ValueType)} (Some (a ∷ to u ∷ [])) (Some (ts ++ ref n (concrete t) ∷ [])) → u ≡ t
left_is u a ts n t l =
    let e : a ∷ to u ∷ [] ≡ ts ++ ref n (concrete t) ∷ [] = cc in
    let f : to u ≡ ref n (concrete t) = second ts (ref n (concrete t)) a (to u) e in cc

carried_is : (u : TypeTree) (a : ValueType) (ts : List ValueType) (n : Bool) (t : TypeTree) → ◌≡◌ {A = Option (List ValueType)} (Some (a ∷ to u ∷ [])) (Some (ts ++ ref n (concrete t) ∷ [])) → ts ≡ a ∷ []
carried_is u a ts n t l = let e : a ∷ to u ∷ [] ≡ ts ++ ref n (concrete t) ∷ [] = cc in sym (first ts (ref n (concrete t)) a (to u) e)

left_agrees : (u : TypeTree) (a : ValueType) (ts : List ValueType) (n : Bool) (t : TypeTree) (b c : Signature) → ◌≡◌ {A = Option (List ValueType)} (Some (a ∷ to u ∷ [])) (Some (ts ++ ref n (concrete t) ∷ []))
    → IsContinuationType u c → IsContinuationType t b → Agree b c
left_agrees u a ts n t b c l k j = same_continuation u b c (subst (λ (z : TypeTree). IsContinuationType z b) (sym (left_is u a ts n t l)) j) k

pub continuations_worked : ContinuationsWorked
unfolding has opened
continuations_worked = record {
  new = (started, from_to [] (number i32 ∷ []), taking [] (number i32 ∷ []), refl, refl, refl, (refl, refl));
  new_function = search rules;
  new_of_no_function = search rules;
  new_shared = (shared_started, shared_function, taking [] (number i32 ∷ []), refl, refl, refl, (refl, refl));
  new_not_shared = search rules;
  suspend = (taking (number i64 ∷ []) (number f64 ∷ []), (_, refl, refl), (refl, refl));
  suspend_other = search rules;
  suspend_unknown = search rules;
  bind = (
    of_two,
    resumed,
    number i64 ∷ [],
    record {
      old = taking (number i64 ∷ number f64 ∷ []) (number i32 ∷ []);
      old_named = (refl, (_, refl, refl));
      new = taking (number f64 ∷ []) (number i32 ∷ []);
      new_named = (refl, (_, refl, refl));
      rest = number f64 ∷ [];
      params = refl;
      fits = ((refl, tt), (refl, tt));
    },
    (refl, refl),
  );
  bind_other = λ popped pushed (t, u, bound, b, k).
      (let n = named_as 2 u resumed_otherwise b.new (taking (number f64 ∷ []) (number i64 ∷ [])) b.new_named refl (_, refl, refl) in
      let o = named_as 3 t of_two b.old (taking (number i64 ∷ number f64 ∷ []) (number i32 ∷ [])) b.old_named refl (_, refl, refl) in
      i32_not_i64 (moved b.old.results b.new.results (number i32 ∷ []) (number i64 ∷ []) o.1 n.1 b.fits.1));
  bind_below = (
    more_null_to_full,
    full_to_null,
    number i64 ∷ [],
    record {
      old = taking (number i64 ∷ null_cell ∷ []) (full_cell ∷ []);
      old_named = (refl, (_, refl, refl));
      new = taking (full_cell ∷ []) (null_cell ∷ []);
      new_named = (refl, (_, refl, refl));
      rest = null_cell ∷ [];
      params = refl;
      fits = (((tt, itself), tt), ((tt, itself), tt));
    },
    (refl, refl),
  );
  bind_above = λ popped pushed (t, u, bound, b, k).
      (let n = named_as 10 u null_to_null b.new (taking (null_cell ∷ []) (null_cell ∷ [])) b.new_named refl (_, refl, refl) in
      let o = named_as 12 t more_full_to_null b.old (taking (number i64 ∷ full_cell ∷ []) (null_cell ∷ [])) b.old_named refl (_, refl, refl) in
      let w : TypesBelow (null_cell ∷ []) b.rest = subst (λ (xs : List ValueType). TypesBelow xs b.rest) n.0 b.fits.0 in
      let r : b.rest ≡ full_cell ∷ [] = one_of_two bound b.rest (number i64) full_cell null_cell (sym o.0 ∙ b.params) w in
      no_null (subst (λ (xs : List ValueType). TypesBelow (null_cell ∷ []) xs) r w));
  bind_gives_above = λ popped pushed (t, u, bound, b, k).
      (let n = named_as 9 u full_to_full b.new (taking (full_cell ∷ []) (full_cell ∷ [])) b.new_named refl (_, refl, refl) in
      let o = named_as 12 t more_full_to_null b.old (taking (number i64 ∷ full_cell ∷ []) (null_cell ∷ [])) b.old_named refl (_, refl, refl) in
      no_null (moved b.old.results b.new.results (null_cell ∷ []) (full_cell ∷ []) o.1 n.1 b.fits.1));
  bind_more = λ popped pushed (t, u, bound, b, k).
      (let n = named_as 3 u of_two b.new (taking (number i64 ∷ number f64 ∷ []) (number i32 ∷ [])) b.new_named refl (_, refl, refl) in
      let o = named_as 1 t resumed b.old (taking (number f64 ∷ []) (number i32 ∷ [])) b.old_named refl (_, refl, refl) in
      two_of_one bound b.rest (number f64) (number i64) (number f64) (sym o.0 ∙ b.params) (subst (λ (xs : List ValueType). TypesBelow xs b.rest) n.0 b.fits.0));
  bind_not_shared = λ popped pushed (t, u, bound, b, k). (let e = b.old_named.0 in cc);
  resume_alone = (resumed, taking (number f64 ∷ []) (number i32 ∷ []), (refl, (_, refl, refl)), tt, (refl, refl));
  resume_struct = search rules;
  resume_shared = (shared_started, taking [] (number i32 ∷ []), (refl, (_, refl, refl)), tt, (refl, refl));
  resume_not_shared = search rules;
  resume_throw = (resumed, taking (number f64 ∷ []) (number i32 ∷ []), number i32 ∷ [], (refl, (_, refl, refl)), (_, refl, refl), tt, (refl, refl));
  resume_throw_gives = search rules;
  resume_throw_ref = (resumed, taking (number f64 ∷ []) (number i32 ∷ []), (refl, (_, refl, refl)), tt, (refl, refl));
  resume_throw_ref_not_shared = search rules;
}

pub handlers_worked : HandlersWorked
unfolding has opened
handlers_worked = record {
  handled = (started, taking [] (number i32 ∷ []), (refl, (_, refl, refl)), (caught, tt), (refl, refl));
  left_otherwise = λ popped pushed (t, b, n, (h, more), k). (otherwise t b n h);
  left_started = λ popped pushed (t, b, n, (h, more), k).
      (let l = left_agrees started (number i64) h.carried h.nullable h.left h.rest (taking [] (number i32 ∷ [])) h.label (_, refl, refl) h.goes_on in
      let g = tagged_as 1 h.tag (taking (number i64 ∷ []) (number f64 ∷ [])) h.tag_named (_, refl, refl) in
      moved h.rest.params h.tag.results [] (number f64 ∷ []) l.0 g.1 h.matches.0);
  left_any = λ popped pushed (t, b, n, (h, more), k).
      (let e : number i64 ∷ ref true (abstract false cont) ∷ [] ≡ h.carried ++ ref h.nullable (concrete h.left) ∷ [] = (let l = h.label in cc) in
      let f : ref true (abstract false cont) ≡ ref h.nullable (concrete h.left) =
      second h.carried (ref h.nullable (concrete h.left)) (number i64) (ref true (abstract false cont)) e in cc);
  left_exactly = λ popped pushed (t, b, n, (h, more), k).
      (let e : number i64 ∷ ref false (exact resumed) ∷ [] ≡ h.carried ++ ref h.nullable (concrete h.left) ∷ [] = (let l = h.label in cc) in
      let f : ref false (exact resumed) ≡ ref h.nullable (concrete h.left) =
      second h.carried (ref h.nullable (concrete h.left)) (number i64) (ref false (exact resumed)) e in cc);
  carries_other = λ popped pushed (t, b, n, (h, more), k).
      (let c : h.carried ≡ number i32 ∷ [] = carried_is resumed (number i32) h.carried h.nullable h.left h.label in
      let g = tagged_as 1 h.tag (taking (number i64 ∷ []) (number f64 ∷ [])) h.tag_named (_, refl, refl) in
      i64_not_i32 (moved h.tag.params h.carried (number i64 ∷ []) (number i32 ∷ []) g.0 c h.fits));
  unknown_label = λ popped pushed (t, b, n, (h, more), k). (let l = h.label in cc);
  unknown_tag = λ popped pushed (t, b, n, (h, more), k). (let (u, e, f) = h.tag_named in cc);
  throws = (started, taking [] (number i32 ∷ []), number i32 ∷ [], (refl, (_, refl, refl)), (_, refl, refl), (caught, tt), (refl, refl));
  throws_left_otherwise = λ popped pushed (t, b, n, (h, more), k). (otherwise t b n h);
  fits_below = (
    giving_full,
    taking [] (full_cell ∷ []),
    (refl, (_, refl, refl)),
    (
      record {
        tag = taking (full_cell ∷ []) (null_cell ∷ []);
        tag_named = (_, refl, refl);
        carried = null_cell ∷ [];
        nullable = false;
        left = full_to_null;
        label = refl;
        fits = ((tt, itself), tt);
        rest = taking (full_cell ∷ []) (null_cell ∷ []);
        goes_on = (_, refl, refl);
        matches = (((tt, itself), tt), ((tt, itself), tt));
      },
      tt,
    ),
    (refl, refl),
  );
  left_takes_above = λ popped pushed (t, b, n, (h, more), k).
      (let l = left_agrees null_to_null null_cell h.carried h.nullable h.left h.rest (taking (null_cell ∷ []) (null_cell ∷ [])) h.label (_, refl, refl) h.goes_on in
      let g = tagged_as 7 h.tag (taking (full_cell ∷ []) (full_cell ∷ [])) h.tag_named (_, refl, refl) in
      no_null (moved h.rest.params h.tag.results (null_cell ∷ []) (full_cell ∷ []) l.0 g.1 h.matches.0));
  left_gives_below = λ popped pushed (t, b, n, (h, more), k).
      (let l = left_agrees full_to_full null_cell h.carried h.nullable h.left h.rest (taking (full_cell ∷ []) (full_cell ∷ [])) h.label (_, refl, refl) h.goes_on in
      let r = named_as 13 t giving_null b (taking [] (null_cell ∷ [])) n refl (_, refl, refl) in
      no_null (moved b.results h.rest.results (null_cell ∷ []) (full_cell ∷ []) r.1 l.1 h.matches.1));
  carries_above = λ popped pushed (t, b, n, (h, more), k).
      (let c : h.carried ≡ full_cell ∷ [] = carried_is null_to_null full_cell h.carried h.nullable h.left h.label in
      let g = tagged_as 8 h.tag (taking (null_cell ∷ []) (null_cell ∷ [])) h.tag_named (_, refl, refl) in
      no_null (moved h.tag.params h.carried (null_cell ∷ []) (full_cell ∷ []) g.0 c h.fits));
  switched = (
    started,
    taking [] (number i32 ∷ []),
    (refl, (_, refl, refl)),
    (record { tag = number i32 ∷ []; tag_named = (_, refl, refl); fits = (refl, tt); back = (refl, tt) }, tt),
    (refl, refl),
  );
  switched_gives_other = λ popped pushed (t, b, n, (h, more), k).
      (let r = named_as 2 t resumed_otherwise b (taking (number f64 ∷ []) (number i64 ∷ [])) n refl (_, refl, refl) in
      let g = tagged_as 2 (taking [] h.tag) (taking [] (number i32 ∷ [])) h.tag_named (_, refl, refl) in
      i32_not_i64 (moved h.tag b.results (number i32 ∷ []) (number i64 ∷ []) g.1 r.1 h.fits));
  switched_above = λ popped pushed (t, b, n, (h, more), k).
      (let r = named_as 13 t giving_null b (taking [] (null_cell ∷ [])) n refl (_, refl, refl) in
      let g = tagged_as 4 (taking [] h.tag) (taking [] (full_cell ∷ [])) h.tag_named (_, refl, refl) in
      no_null (moved b.results h.tag (null_cell ∷ []) (full_cell ∷ []) r.1 g.1 h.back));
  switched_below = λ popped pushed (t, b, n, (h, more), k).
      (let r = named_as 14 t giving_full b (taking [] (full_cell ∷ [])) n refl (_, refl, refl) in
      let g = tagged_as 5 (taking [] h.tag) (taking [] (null_cell ∷ [])) h.tag_named (_, refl, refl) in
      no_null (moved h.tag b.results (null_cell ∷ []) (full_cell ∷ []) g.1 r.1 h.fits));
  switched_carries = λ popped pushed (t, b, n, (h, more), k).
      (let g = tagged_as 3 (taking [] h.tag) (taking (number i64 ∷ []) (number i32 ∷ [])) h.tag_named (_, refl, refl) in let e = g.0 in cc);
}
  where
    caught : IsCaught (below (number i64 ∷ to resumed ∷ [])) (number i32 ∷ []) 1 0
    caught = record {
      tag = taking (number i64 ∷ []) (number f64 ∷ []);
      tag_named = (_, refl, refl);
      carried = number i64 ∷ [];
      nullable = false;
      left = resumed;
      label = refl;
      fits = (refl, tt);
      rest = taking (number f64 ∷ []) (number i32 ∷ []);
      goes_on = (_, refl, refl);
      matches = ((refl, tt), (refl, tt));
    }

    otherwise : (t : TypeTree) (b : Signature) → IsContinuation there 0 t b → IsCaught (below (number i64 ∷ to resumed_otherwise ∷ [])) b.results 1 0 → ⊥
    otherwise t b n h =
        let l = left_agrees resumed_otherwise (number i64) h.carried h.nullable h.left h.rest (taking (number f64 ∷ []) (number i64 ∷ [])) h.label (_, refl, refl) h.goes_on in
        let r = named_as 0 t started b (taking [] (number i32 ∷ [])) n refl (_, refl, refl) in
        i32_not_i64 (moved b.results h.rest.results (number i32 ∷ []) (number i64 ∷ []) r.1 l.1 h.matches.1)

pub switches_worked : SwitchesWorked
unfolding has opened
switches_worked = record {
  switch = (
    passed,
    number i64 ∷ [],
    taking (number f64 ∷ []) (number i32 ∷ []),
    record {
      next = taking (number i64 ∷ null_to resumed ∷ []) (number i32 ∷ []);
      next_named = (refl, (_, refl, refl));
      nullable = true;
      left = resumed;
      params = refl;
      goes_on = (_, refl, refl);
      tag = number i32 ∷ [];
      tag_named = (_, refl, refl);
      fits = (refl, tt);
      back = (refl, tt);
    },
    (refl, refl),
  );
  gives_other = λ popped pushed (t, c, own, s, k).
      (let r = named_as 6 t passed_on s.next (taking (number i64 ∷ null_to resumed ∷ []) (number i64 ∷ [])) s.next_named refl (_, refl, refl) in
      let g = tagged_as 2 (taking [] s.tag) (taking [] (number i32 ∷ [])) s.tag_named (_, refl, refl) in
      i64_not_i32 (moved s.next.results s.tag (number i64 ∷ []) (number i32 ∷ []) r.1 g.1 s.fits));
  left_gives_other = λ popped pushed (t, c, own, s, k).
      (let r = named_as 5 t passed_otherwise s.next (taking (number i64 ∷ null_to resumed_otherwise ∷ []) (number i32 ∷ [])) s.next_named refl (_, refl, refl) in
      let o = own_agrees resumed_otherwise c s.nullable s.left own (taking (number f64 ∷ []) (number i64 ∷ [])) (sym r.0 ∙ s.params) (_, refl, refl) s.goes_on in
      let g = tagged_as 2 (taking [] s.tag) (taking [] (number i32 ∷ [])) s.tag_named (_, refl, refl) in
      i32_not_i64 (moved s.tag own.results (number i32 ∷ []) (number i64 ∷ []) g.1 o.1 s.back));
  tag_carries = λ popped pushed (t, c, own, s, k).
      (let g = tagged_as 3 (taking [] s.tag) (taking (number i64 ∷ []) (number i32 ∷ [])) s.tag_named (_, refl, refl) in let e = g.0 in cc);
  without = λ popped pushed (t, c, own, s, k).
      (let r = named_as 0 t started s.next (taking [] (number i32 ∷ [])) s.next_named refl (_, refl, refl) in
      nothing_more c (ref s.nullable (concrete s.left)) (sym s.params ∙ r.0));
  exactly = λ popped pushed (t, c, own, s, k).
      (let r = named_as 7 t passed_exactly s.next (taking (number i64 ∷ ref true (exact resumed) ∷ []) (number i32 ∷ [])) s.next_named refl (_, refl, refl) in
      let f : ref true (exact resumed) ≡ ref s.nullable (concrete s.left) =
      second c (ref s.nullable (concrete s.left)) (number i64) (ref true (exact resumed)) (sym r.0 ∙ s.params) in cc);
  not_shared = λ popped pushed (t, c, own, s, k). (let e = s.next_named.0 in cc);
  fits_below = (
    switching full_to_null full_cell,
    number i64 ∷ [],
    taking (full_cell ∷ []) (null_cell ∷ []),
    record {
      next = taking (number i64 ∷ null_to full_to_null ∷ []) (full_cell ∷ []);
      next_named = (refl, (_, refl, refl));
      nullable = true;
      left = full_to_null;
      params = refl;
      goes_on = (_, refl, refl);
      tag = null_cell ∷ [];
      tag_named = (_, refl, refl);
      fits = ((tt, itself), tt);
      back = ((tt, itself), tt);
    },
    (refl, refl),
  );
  gives_above = λ popped pushed (t, c, own, s, k).
      (let r = named_as 16 t (switching full_to_null null_cell) s.next (taking (number i64 ∷ null_to full_to_null ∷ []) (null_cell ∷ [])) s.next_named refl (_, refl, refl) in
      let g = tagged_as 4 (taking [] s.tag) (taking [] (full_cell ∷ [])) s.tag_named (_, refl, refl) in
      no_null (moved s.next.results s.tag (null_cell ∷ []) (full_cell ∷ []) r.1 g.1 s.fits));
  left_gives_below = λ popped pushed (t, c, own, s, k).
      (let r = named_as 17 t (switching full_to_full full_cell) s.next (taking (number i64 ∷ null_to full_to_full ∷ []) (full_cell ∷ [])) s.next_named refl (_, refl, refl) in
      let o = own_agrees full_to_full c s.nullable s.left own (taking (full_cell ∷ []) (full_cell ∷ [])) (sym r.0 ∙ s.params) (_, refl, refl) s.goes_on in
      let g = tagged_as 5 (taking [] s.tag) (taking [] (null_cell ∷ [])) s.tag_named (_, refl, refl) in
      no_null (moved s.tag own.results (null_cell ∷ []) (full_cell ∷ []) g.1 o.1 s.back));
}
  where
    own_agrees : (u : TypeTree) (c : List ValueType) (n : Bool) (t : TypeTree) (own d : Signature) → number i64 ∷ null_to u ∷ [] ≡ c ++ ref n (concrete t) ∷ [] → IsContinuationType u d
        → IsContinuationType t own → Agree own d
    own_agrees u c n t own d e k j =
        let f : null_to u ≡ ref n (concrete t) = second c (ref n (concrete t)) (number i64) (null_to u) e in
        let g : u ≡ t = cc in same_continuation u own d (subst (λ (z : TypeTree). IsContinuationType z own) (sym g) j) k

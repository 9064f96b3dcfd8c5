-- The rows of `Progress`.
use Rattle.std.proofs.Common.{◌≡◌, ◌∙◌, ◌+◌, ◌++◌, ◌<◌, ◌≤◌, ℕ, zero, suc, Bool, true, false, List, [], ◌∷◌, length, map, take, Option, Some, None, option_map, slice_get, refl, sym, ap, subst, arith, lit<, lit≤, rules, Err, inl, inr}
use Rattle.std.specs.Prelude.{Contains}
use Rattle.wasm_types.specs.decoding.Decoder.{State}
use Rattle.wasm_types.specs.settings.declared.Limits.{Limits}
use Rattle.wasm_types.specs.settings.Limits.{default_limits}
use Rattle.wasm_types.specs.settings.Settings.{Settings}
use Rattle.wasm_types.specs.trees.declared.index.CoreTypeId.{CoreTypeId}
use Rattle.wasm_sections_parser.specs.declared.frame.Encoding.TheVariants as encodings
use Rattle.wasm_sections_parser.specs.declared.frame.Frame.TheVariants as frames
use Rattle.wasm_sections_parser.specs.declared.frame.Frame.{Frame}
use Rattle.wasm_sections_parser.specs.Parsing.{shape_of}
use Rattle.wasm_module_validator_section_order.specs.sections_below.declared.payload.Payload.TheVariants as payloads
use Rattle.wasm_module_validator_section_order.specs.sections_below.Payloads.{IsPayloadOf}
use Rattle.wasm_module_validator_initialisers.specs.index_spaces.Spaces.{own_function}
use Rattle.wasm_module_validator_initialisers.specs.index_spaces.declared.module.Function.{Function}
use Rattle.wasm_module_validator.specs.drivers.reading.laws.Walking.{nothing_is_at}
use Rattle.wasm_module_validator_section_order.specs.declared.items.bodies.Body.{Body}
use Rattle.wasm_module_validator_type_storage.specs.trees.Groups.{Group, count}
use Rattle.wasm_module_validator_type_storage.specs.trees.laws.Unrolled.{count_push}
use Rattle.wasm_module_validator_type_groups.specs.adding.Interned.{ids_from}
use Rattle.wasm_module_validator_initialisers.specs.state.invariant.laws.Growing.{ids_contain, ids_counted}
use Rattle.wasm_module_validator_initialisers.specs.state.invariant.laws.Worked.{worked_nothing}
use Rattle.wasm_module_validator_section_order.specs.rules.Syntax.{ModuleTree}
use Rattle.wasm_module_validator_section_order.specs.rules_in_order.Steps.{SoFar, nothing, JudgesBody, JudgesShape}
use Rattle.wasm_module_validator_section_order.specs.rules_in_order.Worked.{in_code}
use Rattle.wasm_module_validator.specs.module_validator_payloads.Progress.{Kept, Progress, IsAt, text_of, type_of, next_over}
use Rattle.wasm_module_validator.specs.drivers.Sharing.{Reached, body_count, IsReached, TellsNext, Handed, FitsNext}
use Rattle.wasm_module_validator_tests.specs.Progress.{under, KeptRows, StandsFor, BodiesStand, BodiesJudged, ReachedRows, begun, fresh, at_seven, ReachedStands, NextTold, text, code_of, BodiesTold}

-- ---- what is kept

no_list : {A : Type 0} (xs : List A) (x : A) → [] ≡ xs ++ x ∷ [] → ⊥
no_list [] x e = absurd cc
no_list (y ∷ xs) x e = absurd cc

-- an id of those from the first on
at_least : (first n : ℕ) (id : CoreTypeId) → Contains (ids_from first n) id → first ≤ id.0
at_least first zero id (k, l, at) = absurd (omega (arith, l))
at_least first (suc n) id (zero, l, at) = let same : first ≡ id.0 = ap (λ (i : CoreTypeId). i.0) at in omega (arith, same)
at_least first (suc n) id (suc k, l, at) = let h = at_least (suc first) n id (k, omega (arith, l), at) in omega (arith, h)

pub kept_rows : (z : Settings) (g h : Group) → KeptRows z g h
unfolding default_limits
kept_rows z g h = record {
  nothing = refl;
  over = refl;
  renewed_alike = refl;
  renewed_otherwise = refl;
  renewed_by_limits = refl;
  next = refl;
  grows =
      let more = count_push h (g ∷ []) in
      let same = ids_counted (count (g ∷ [])) (length h.types) in
      record {
        groups = (h ∷ [], refl);
        types = omega (arith, more, same);
        own = record {
          ids = ids_from (count (g ∷ [])) (length h.types);
          behind = refl;
          own = λ id low high. ids_contain (count (g ∷ [])) (length h.types) id low (omega (arith, high, more));
        };
        settings = refl;
      };
  grows_again =
      let same = ids_counted 0 (length g.types) in
      record {
        groups = ([], refl);
        types = omega (arith, same);
        own = record { ids = ids_from 0 (length g.types); behind = refl; own = λ id low high. absurd (omega (arith, low, high)) };
        settings = refl;
      };
  grows_by_others = λ some x.
      let more = count_push h (g ∷ []) in
      let first : CoreTypeId = record { 0 = count (g ∷ []) } in
      let there = x.own.own first (omega arith) (omega (arith, more, some)) in
      let low = at_least (count (h ∷ g ∷ [])) (length h.types) first (subst (λ (ids : List CoreTypeId). Contains ids first) (sym x.own.behind) there) in
      omega (arith, more, some, low);
  grows_by_more = λ some x. let more = count_push h (g ∷ []) in let few = x.types in omega (arith, more, few, some);
  grows_not = λ x. no_list x.groups.0 g x.groups.1;
  grows_alike = λ x. let e = ap (λ (y : Settings). y.features) x.settings in omega (arith, e);
  reads = record { reading = record { stands = worked_nothing (g ∷ []) z; last = refl }; counted = refl };
  reads_uncounted = λ r. let e = r.counted in omega (arith, e);
  reads_late = λ x r. let e = ap (λ (m : ModuleTree). m.start) r.reading.last in absurd cc;
}

-- ---- what it stands for

pub stands_for : (groups : List Group) (bits : ℕ) → StandsFor groups bits
unfolding default_limits
stands_for groups bits = record {
  at_first = nothing_is_at groups (under bits);
  of_other_features = λ a. let e = ap (λ (y : Settings). y.features) a.stands.settings in omega (arith, e);
  of_other_limits = λ a. let e = ap (λ (y : Settings). y.limits.locals) a.stands.settings in omega (arith, e);
  elsewhere = λ a. let e = a.placed in omega (arith, e);
  of_more_groups = λ a. let e = a.counted in omega (arith, e);
  with_a_body = λ b a. let e = a.bodies in absurd cc;
  of_a_body = λ a. let e = a.bodies in absurd cc;
  of_a_function = λ a. let e = a.stands.read.functions in absurd cc;
}

same_head : {A : Type 0} (x y : A) (xs ys : List A) → x ∷ xs ≡ y ∷ ys → x ≡ y
same_head x y xs ys e = cc

pub bodies_stand : (groups : List Group) (z : Settings) (r : Progress) (b : Body) (p : SoFar) → BodiesStand groups z r b p
bodies_stand groups z r b p = record {
  of_another_type = λ three four a.
      let e : b.type_index ∷ [] ≡ 3 ∷ [] = a.types ∙ ap (λ (xs : List ℕ). take 1 xs) three in
      let n = same_head b.type_index 3 [] [] e in
      omega (arith, n, four);
  of_other_bytes = λ two none a.
      let e : b.body.rest ∷ [] ≡ text ∷ [] = a.bodies ∙ two in
      let n : [] ≡ text = sym none ∙ same_head b.body.rest text [] [] e in
      absurd cc;
  read_otherwise = λ more a. let e = ap (λ (y : Settings). y.features) a.read.0.settings in omega (arith, e, more);
}

pub bodies_judged : (z : Settings) → BodiesJudged z
bodies_judged z = record { none = tt; missing = λ h. h; further = λ h. h; of_no_bytes = search rules }

-- ---- once it is shared

pub reached_rows : (groups : List Group) (z : Settings) (k : Kept) (r : Progress) → ReachedRows groups z k r
unfolding default_limits
reached_rows groups z k r = record {
  nothing = refl;
  own = refl;
  shared = refl;
  next_own = tt;
  next_shared = refl;
  next_read = λ h. let e = ap (λ (p : Progress). p.last) h in omega (arith, e);
  renewed_alike = refl;
  renewed_otherwise = refl;
  behind = refl;
  without_code = refl;
  with_code = refl;
  no_bodies = refl;
  three_bodies = refl;
}

no_bodies : (bs : List Body) → map text_of bs ≡ [] → length bs ≡ 1 → ⊥
no_bodies [] e n = omega (arith, n)
no_bodies (b ∷ bs) e n = absurd cc

pub reached_stands : (groups : List Group) (bits : ℕ) → ReachedStands groups bits
reached_stands groups bits = record {
  at_first = ([], refl, nothing_is_at groups (under bits));
  no_bodies = ([], refl, nothing_is_at groups (under bits));
  a_body = λ (bs, n, a). no_bodies bs a.bodies n;
  elsewhere = λ (bs, n, a). let e = a.placed in omega (arith, e);
}

at_nothing : (groups : List Group) (bits : ℕ) → IsReached (under bits) (fresh groups bits) nothing
at_nothing groups bits = ([], refl, nothing_is_at groups (under bits))

-- ---- frames of a payload

the_end_stays : (z : Settings) (p q : SoFar) (f : Frame) (n : ℕ) → IsPayloadOf f (payloads.End n) → JudgesShape z p (shape_of f) q → q ≡ p
the_end_stays z p q (frames.Version a b c) n i j = absurd cc
the_end_stays z p q (frames.Custom a) n i j = absurd cc
the_end_stays z p q (frames.Section a b) n i j = absurd i
the_end_stays z p q (frames.CodeStart a b c) n i j = absurd cc
the_end_stays z p q (frames.CodeEntry a) n i j = absurd cc
the_end_stays z p q (frames.End a) n i j = j

the_end_comes : (z : Settings) (p : SoFar) (f : Frame) (n : ℕ) → IsPayloadOf f (payloads.End n) → JudgesShape z p (shape_of f) p
the_end_comes z p (frames.Version a b c) n i = absurd cc
the_end_comes z p (frames.Custom a) n i = absurd cc
the_end_comes z p (frames.Section a b) n i = absurd i
the_end_comes z p (frames.CodeStart a b c) n i = absurd cc
the_end_comes z p (frames.CodeEntry a) n i = absurd cc
the_end_comes z p (frames.End a) n i = refl

no_version : (z : Settings) (p q : SoFar) (f : Frame) (r : _) → IsPayloadOf f (payloads.Version 2 encodings.Module r) → JudgesShape z p (shape_of f) q → ⊥
no_version z p q (frames.Version a b c) r i j = let e : 2 ≡ a = cc in let v = j.0 in omega (arith, e, v)
no_version z p q (frames.Custom a) r i j = absurd cc
no_version z p q (frames.Section a b) r i j = i
no_version z p q (frames.CodeStart a b c) r i j = absurd cc
no_version z p q (frames.CodeEntry a) r i j = absurd cc
no_version z p q (frames.End a) r i j = absurd cc

end_refused : (groups : List Group) (bits n : ℕ) → TellsNext {X = ℕ} (fresh groups bits) (payloads.End n) (Err at_seven) → ⊥
end_refused groups bits n (inl full) = (full (under bits) nothing (at_nothing groups bits)).has
end_refused groups bits n (inr t) = t (under bits) nothing (frames.End n) (at_nothing groups bits) refl (nothing, refl)

pub next_told : (groups : List Group) (bits : ℕ) → NextTold groups bits
next_told groups bits = record {
  end = λ n z p f r i. (p, the_end_comes z p f n i);
  end_refused = end_refused groups bits;
  another_version = λ r t. let (q, (v, l, e)) = t (under bits) nothing (frames.Version 2 encodings.Module r) (at_nothing groups bits) refl in omega (arith, v);
  another_version_refused = λ r. inr (λ z p f s i (q, j). no_version z p q f r i j);
  follows = λ n z p q f r i j. subst (λ (x : SoFar). IsReached z (fresh groups bits) x) (sym (the_end_stays z p q f n i j)) r;
  follows_not = λ n h.
      let (bs, m, a) = h (under bits) nothing nothing (frames.End n) (at_nothing groups bits) refl refl in
      no_bodies bs a.bodies m;
}

-- ---- bodies

comes : JudgesBody (under 5) in_code text (record in_code { bodies = text ∷ [] })
unfolding default_limits
comes = record { begun = refl; within = lit≤ tt; type = 0; function = refl; added = refl }

too_early : (q : SoFar) → JudgesBody (under 5) nothing text q → ⊥
too_early q j = let e = j.begun in omega (arith, e)

pub bodies_told : (f : Handed) → BodiesTold f
unfolding default_limits
bodies_told f = record {
  handed = (record in_code { bodies = text ∷ [] }, comes);
  handed_early = λ (q, j). too_early q j;
  none_left = λ (q, j). too_early q j;
  some_left = λ n. n (record in_code { bodies = text ∷ [] }, comes);
  refused = λ (q, j). too_early q j;
  refused_wrongly = λ n. n (record in_code { bodies = text ∷ [] }, comes);
  another_index = λ e h. let i = h.index in omega (arith, e, i);
  another_type = λ e k h.
      let t = subst (λ (i : ℕ). option_map (λ (g : Function). g.type_index) (slice_get (own_function 0 ∷ []) i) ≡ Some f.ty) e h.type in
      let n : 0 ≡ f.ty = cc in
      omega (arith, n, k);
  other_features = λ e h. let i = h.features in omega (arith, e, i);
  other_limits = λ e h. let i = ap (λ (l : Limits). l.locals) h.limits in omega (arith, e, i);
  no_function = λ h.
      let t = subst (λ (i : ℕ). option_map (λ (g : Function). g.type_index) (slice_get (own_function 0 ∷ []) i) ≡ Some f.ty) h.index h.type in
      absurd cc;
  left = λ n. absurd cc;
  all = refl;
  fits = λ s e. fits s e;
  fits_early = λ s h. let e = h.0 in omega (arith, e);
  fits_long = λ s long h. let few = h.1 in omega (arith, few, long);
  follows_none = λ s. (refl, refl);
  follows_none_changed = λ s h. let e = ap (λ (r : Reached). body_count r.code) h.0 in omega (arith, e);
  follows_none_left = λ s h. let e = h.1 in absurd cc;
  follows_uncounted = λ s h. let e = ap body_count h.1 in omega (arith, e);
  follows_refused = λ s. (refl, λ h. let e = h.0 in omega (arith, e));
  follows_refused_wrongly = λ s e h. h.1 (fits s e);
  follows_refused_changed = λ s h. let e = ap (λ (r : Reached). body_count r.code) h.0 in omega (arith, e);
}
  where
    fits : (s : State) → s.rest ≡ text → FitsNext (code_of 0) s
    fits s e = (refl, subst (λ (xs : List ℕ). length xs ≤ 7654321) (sym e) (lit≤ tt))

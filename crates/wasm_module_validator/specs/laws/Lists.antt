-- Modules that are validated one after the other: a verdict more, and what its list of types leaves of those before it.
use Rattle.std.proofs.Common.{◌≡◌, ◌∙◌, ◌⊎◌, ◌↔◌, ◌<◌, ◌≤◌, ◌+◌, ℕ, zero, suc, Bool, true, false, IsTrue, List, [], ◌∷◌, ◌++◌, length, drop, Some, Err, slice_get, get_or, refl, sym, ap, subst, inl, inr, arith, append_assoc, add-one}
use Rattle.std.specs.Prelude.{Contains, ◌==◌, ◌&&◌, if◌then◌else◌}
use Rattle.std.proofs.lemmas.List.{append-nil}
use Rattle.std.proofs.lemmas.Cmp.{nat_eq_equiv}
use Rattle.wasm_types.specs.settings.contracts.LimitsEq.TheImpl.Laws as limits_laws
use Rattle.wasm_types.specs.settings.contracts.LimitsPartialEq.TheImpl as limits
use Rattle.wasm_types.specs.settings.Settings.{Settings}
use Rattle.wasm_types.specs.decoding.ErrorValue.{ErrorValue}
use Rattle.wasm_types.specs.decoding.declared.error.ErrorKind.TheVariants.{OutOfMemory}
use Rattle.wasm_types.specs.reader.Reading.{IsNotMemory}
use Rattle.wasm_sections_parser.specs.Parsing.{one_of}
use Rattle.wasm_module_validator_index_spaces.specs.declared.view.validator_id.ValidatorId.{ValidatorId}
use Rattle.wasm_module_validator_drivers.specs.Sharing.{renewed_behind}
use Rattle.wasm_module_validator_drivers.specs.payloads.Progress.{are_same}
use Rattle.wasm_module_validator_drivers.specs.state.invariant.Standing.{IsGrown}
use Rattle.wasm_module_validator_drivers.specs.state.invariant.laws.Growing.{grown_further}
use Rattle.wasm_module_validator_type_storage.specs.trees.Groups.{Group, count, tree_of}
use Rattle.wasm_module_validator_type_storage.specs.trees.Formed.{IsFormed, AreCanonical}
use Rattle.wasm_module_validator_type_storage.specs.trees.laws.Apart.{apart}
use Rattle.wasm_module_validator.specs.declared.lists.Verdict.{Verdict}
use Rattle.wasm_module_validator.specs.declared.lists.Verdict.TheVariants.{Accepted, Refused}
use Rattle.wasm_module_validator.specs.declared.validator.State.{State}
use Rattle.wasm_module_validator.specs.declared.validator.State.TheVariants.{Unparsed, Ended, Failed}
use Rattle.wasm_module_validator.specs.declared.validator.Validator.{Validator}
use Rattle.wasm_module_validator_rules.specs.Accepts.{IsValidOutsideBodies}
use Rattle.wasm_module_validator.specs.Lists.{IsVerdict, goes_on, IsHeldBehind, TakesNoMore, AreVerdicts, state_behind, state_after, AreTold, AreToldUnder, KeepsAll, ShareIds, LeavesGroups}
use Rattle.wasm_module_validator.specs.Methods.{can_reset}
use Rattle.wasm_module_validator.specs.Shown.{Learned}
use Rattle.wasm_module_validator.specs.States.{Keeps, KeepsWhere, Leaves, held_by}
use Rattle.wasm_module_validator.specs.laws.Ids.{ids_stay, counts_stay}
use Rattle.wasm_module_validator.specs.laws.Verdict.{denied}

-- ---- lists of verdicts

drop_there : {A : Type 0} (xs : List A) (i : ℕ) (x : A) → slice_get xs i ≡ Some x → drop i xs ≡ x ∷ drop (suc i) xs
drop_there [] i x e = absurd cc
drop_there {A} (y ∷ xs) zero x e = ap (λ (z : A). z ∷ xs) (some_is y x e)
  where
    some_is : (a b : A) → Some a ≡ Some b → a ≡ b
    some_is a b h = cc
drop_there (y ∷ xs) (suc i) x e = drop_there xs i x e

drop_all : {A : Type 0} (xs : List A) (i : ℕ) → length xs ≤ i → drop i xs ≡ []
drop_all [] zero h = refl
drop_all [] (suc i) h = refl
drop_all (x ∷ xs) zero h = absurd (omega (arith, h))
drop_all (x ∷ xs) (suc i) h = drop_all xs i (omega (arith, h))

module _ (z : Settings) (id : ValidatorId) (held : List Group) (xs : List (List ℕ)) where
  -- With any verdicts on the inputs from here on, over a list of types with these groups, these are the verdicts on all.
  abbrev pub Goes : ℕ → List Group → List Verdict → Type 0
  Goes i now vs = (ws : List Verdict) → AreVerdicts z id now (drop i xs) ws → AreVerdicts z id held xs (vs ++ ws)

  pub goes_first : Goes zero held []
  goes_first ws h = h

  -- what follows a verdict
  abbrev Follows : ℕ → List Group → List ℕ → Verdict → List Verdict → Bool → Type 0
  Follows i now x v ws goes = one_of goes ((next : List Group) × IsHeldBehind z now x v next × AreVerdicts z id next (drop (suc i) xs) ws) (ws ≡ [])

  behind : (i : ℕ) (now : List Group) (x : List ℕ) (v : Verdict) (ws : List Verdict) → slice_get xs i ≡ Some x → IsVerdict z id now x v → Follows i now x v ws (goes_on v)
      → AreVerdicts z id now (drop i xs) (v ∷ ws)
  behind i now x v ws at is rest = subst (λ (ys : List (List ℕ)). AreVerdicts z id now ys (v ∷ ws)) (sym (drop_there xs i x at)) (is, rest)

  pub goes_further : (i : ℕ) (now next : List Group) (vs : List Verdict) (x : List ℕ) (v : Verdict) → Goes i now vs → slice_get xs i ≡ Some x → IsVerdict z id now x v
      → goes_on v ≡ true → IsHeldBehind z now x v next → Goes (i + 1) next (vs ++ v ∷ [])
  goes_further i now next vs x v g at is on left ws h =
      let further : AreVerdicts z id next (drop (suc i) xs) ws = subst (λ (n : ℕ). AreVerdicts z id next (drop n xs) ws) (add-one i) h in
      let rest : Follows i now x v ws (goes_on v) = subst (Follows i now x v ws) (sym on) (next, left, further) in
      subst (AreVerdicts z id held xs) (sym (append_assoc vs (v ∷ []) ws)) (g (v ∷ ws) (behind i now x v ws at is rest))

  pub goes_to_last : (i : ℕ) (now : List Group) (vs : List Verdict) (x : List ℕ) (v : Verdict) → Goes i now vs → slice_get xs i ≡ Some x → IsVerdict z id now x v
      → goes_on v ≡ false → AreVerdicts z id held xs (vs ++ v ∷ [])
  goes_to_last i now vs x v g at is off = g (v ∷ []) (behind i now x v [] at is (subst (Follows i now x v []) (sym off) refl))

  pub goes_to_end : (i : ℕ) (now : List Group) (vs : List Verdict) → Goes i now vs → length xs ≤ i → AreVerdicts z id held xs vs
  goes_to_end i now vs g h =
      subst (AreVerdicts z id held xs) (append-nil vs) (g [] (subst (λ (ys : List (List ℕ)). AreVerdicts z id now ys []) (sym (drop_all xs i h)) tt))

-- ---- how far the validator is

pub last_counts : (vs : List Verdict) (v : Verdict) → state_after (vs ++ v ∷ []) ≡ state_behind v
last_counts [] v = refl
last_counts (w ∷ []) v = refl
last_counts (w ∷ (u ∷ vs)) v = last_counts (u ∷ vs) v

pub may_go_on : (v : Verdict) → goes_on v ≡ true → can_reset (state_behind v) ≡ true
may_go_on (Accepted t) e = refl
may_go_on (Refused e true) h = refl
may_go_on (Refused e false) h = absurd cc

-- ---- a module that is refused

module _ (z : Settings) (held : List Group) (bytes : List ℕ) (e : ErrorValue) (s : State) where
  -- it has ended exactly where a function alone is refused
  pub refused_verdict : (id : ValidatorId) → IsNotMemory e.kind → Leaves {X = Learned} held z bytes (Err e) s → IsVerdict z id held bytes (Refused e (can_reset s))
  refused_verdict id m (inl (is, n, read, none)) =
      subst (λ (b : Bool). IsVerdict z id held bytes (Refused e b)) (sym (ap can_reset is)) (none, m, read)
  refused_verdict id m (inr (is, inl past)) =
      subst (λ (b : Bool). IsVerdict z id held bytes (Refused e b)) (sym (ap can_reset is)) (m, inl past)
  refused_verdict id m (inr (is, inr none)) =
      subst (λ (b : Bool). IsVerdict z id held bytes (Refused e b)) (sym (ap can_reset is)) (m, inr (denied e.kind (IsValidOutsideBodies z bytes) m none))

  pub refused_state : IsNotMemory e.kind → Leaves {X = Learned} held z bytes (Err e) s → s ≡ state_behind (Refused e (can_reset s))
  refused_state m (inl (is, n, read, none)) = is ∙ ap (λ t. state_behind (Refused e (can_reset t))) (sym is)
  refused_state m (inr (is, others)) = is ∙ ap (λ t. state_behind (Refused e (can_reset t))) (sym is)

  pub memory_fails : e.kind ≡ OutOfMemory → Leaves {X = Learned} held z bytes (Err e) s → s ≡ Failed
  memory_fails k (inl (is, n, read, none)) = absurd (subst IsNotMemory k n)
  memory_fails k (inr (is, others)) = is

-- ---- the list of types

same_settings : (y z : Settings) → y ≡ z → are_same y z ≡ true
same_settings y z e = subst (λ (w : Settings). are_same y w ≡ true) e
    (ap (λ b. b && limits.ghosts.eq y.limits y.limits) (nat_eq_equiv.refl y.features) ∙ limits_laws.laws-law.refl y.limits)

module _ (v r w : Validator) (reset : r ≡ record v { state = Unparsed; reached = renewed_behind v.settings v.reached })
    (others : w ≡ record r { state = w.state; reached = w.reached }) where
  -- a module begins over the list of those before it
  pub groups_begun : held_by r ≡ held_by v
  groups_begun = ap held_by reset ∙ ap (λ b. if b then held_by v else []) (same_settings v.settings v.settings refl)

  groups_kept : w.reached.progress.kept.items.spaces.settings ≡ r.settings → held_by w ≡ w.reached.progress.kept.groups
  groups_kept e =
      ap (λ b. if b then w.reached.progress.kept.groups else [])
      (same_settings w.reached.progress.kept.items.spaces.settings w.settings (e ∙ sym (ap (λ (u : Validator). u.settings) others)))

  pub groups_grown : w.state ≡ Ended → Keeps r w → IsGrown (held_by v) (held_by w) × (w.reached.progress.kept.groups ≡ held_by w)
  groups_grown is keeps =
      let k : KeepsWhere Ended r w = subst (λ (s : State). KeepsWhere s r w) is keeps in
      let same = sym (groups_kept k.1) in
      (subst (λ (gs : List Group). IsGrown gs (held_by w)) groups_begun (subst (IsGrown (held_by r)) same k.0), same)

  -- and takes no more types than it has
  module _ (bytes : List ℕ) (few : w.state ≡ Ended → TakesNoMore r.settings (held_by r) bytes w.reached.progress.kept.groups) where
    pub takes_no_more : w.state ≡ Ended → Keeps r w → TakesNoMore v.settings (held_by v) bytes (held_by w)
    takes_no_more is keeps =
        subst (λ (z : Settings). TakesNoMore z (held_by v) bytes (held_by w)) (ap (λ (u : Validator). u.settings) reset)
        (subst (λ (gs : List Group). TakesNoMore r.settings gs bytes (held_by w)) groups_begun
        (subst (TakesNoMore r.settings (held_by r) bytes) (groups_grown is keeps).1 (few is)))

    pub refused_leaves : (e : ErrorValue) (b : Bool) → Keeps r w → w.state ≡ state_behind (Refused e b) → LeavesGroups v bytes (Refused e b) w
    refused_leaves e true keeps is = ((groups_grown is keeps).0, takes_no_more is keeps)
    refused_leaves e false keeps is = tt

-- ---- ids

told_after : (gs hs : List Group) → IsGrown gs hs → AreTold hs hs → AreTold gs hs
told_after gs hs grown told i j a b =
    let more = counts_stay gs hs grown in
    let same = ids_stay gs hs grown i a in
    let t = told i j (omega (arith, a, more)) b in
    (λ e. sym same ∙ t.0 e, λ e. t.1 (same ∙ e))

told_turned : (gs hs : List Group) → AreTold gs hs → AreTold hs gs
told_turned gs hs told i j a b = let t = told j i b a in (λ e. sym (t.0 (sym e)), λ e. sym (t.1 (sym e)))

-- a list in canonical form has each type once
pub told_apart : (groups : List Group) → IsFormed groups → AreCanonical groups → AreTold groups groups
told_apart groups formed canonical i j a b = (λ e. ap (tree_of groups) e, λ e. apart groups formed canonical i j a b e)

contains_push : (vs : List Verdict) (d x : Verdict) (k : ℕ) → k < length (vs ++ d ∷ []) → get_or (vs ++ d ∷ []) k x ≡ x → Contains vs x ⊎ (d ≡ x)
contains_push [] d x zero l e = inr e
contains_push [] d x (suc k) l e = absurd (omega (arith, l))
contains_push (w ∷ vs) d x zero l e = inl (zero, omega arith, e)
contains_push (w ∷ vs) d x (suc k) l e = later (contains_push vs d x k (omega (arith, l)) e)
  where
    later : Contains vs x ⊎ (d ≡ x) → Contains (w ∷ vs) x ⊎ (d ≡ x)
    later (inl (n, m, f)) = inl (suc n, omega (arith, m), f)
    later (inr f) = inr f

accepted_is : (t u : Learned) → Accepted t ≡ Accepted u → t ≡ u
accepted_is t u e = ap got e
  where
    got : Verdict → Learned
    got (Accepted x) = x
    got (Refused k b) = t

not_accepted : (e : ErrorValue) (b : Bool) (t : Learned) → Refused e b ≡ Accepted t → ⊥
not_accepted e b t h = cc

abbrev AreKnown : List Verdict → List Group → Type 0
AreKnown vs g = (t : Learned) → Contains vs (Accepted t) → IsGrown t.kept.groups g

module _ (z : Settings) (vs : List Verdict) (ids : ShareIds z vs) where
  ids_refused : (e : ErrorValue) (b : Bool) → ShareIds z (vs ++ Refused e b ∷ [])
  ids_refused e b t u (i, l, at) (j, m, by) = go (contains_push vs (Refused e b) (Accepted t) i l at) (contains_push vs (Refused e b) (Accepted u) j m by)
    where
      go : Contains vs (Accepted t) ⊎ (Refused e b ≡ Accepted t) → Contains vs (Accepted u) ⊎ (Refused e b ≡ Accepted u) → AreToldUnder z t.kept.groups u.kept.groups
      go (inl c) (inl d) = ids t u c d
      go (inl c) (inr d) = absurd (not_accepted e b u d)
      go (inr c) d = absurd (not_accepted e b t c)

  ids_accepted : (n : Learned) → AreKnown vs n.kept.groups → AreToldUnder z n.kept.groups n.kept.groups → ShareIds z (vs ++ Accepted n ∷ [])
  ids_accepted n known own t u (i, l, at) (j, m, by) = go (contains_push vs (Accepted n) (Accepted t) i l at) (contains_push vs (Accepted n) (Accepted u) j m by)
    where
      go : Contains vs (Accepted t) ⊎ (Accepted n ≡ Accepted t) → Contains vs (Accepted u) ⊎ (Accepted n ≡ Accepted u) → AreToldUnder z t.kept.groups u.kept.groups
      go (inl c) (inl d) = ids t u c d
      go (inl c) (inr d) = λ on. subst (λ (x : Learned). AreTold t.kept.groups x.kept.groups) (accepted_is n u d) (told_after t.kept.groups n.kept.groups (known t c) (own on))
      go (inr c) (inl d) = λ on. subst (λ (x : Learned). AreTold x.kept.groups u.kept.groups) (accepted_is n t c)
          (told_turned u.kept.groups n.kept.groups (told_after u.kept.groups n.kept.groups (known u d) (own on)))
      go (inr c) (inr d) = λ on. subst (λ (x : Learned). AreTold x.kept.groups u.kept.groups) (accepted_is n t c)
          (subst (λ (x : Learned). AreTold n.kept.groups x.kept.groups) (accepted_is n u d) (own on))

-- ---- a verdict more

module _ (v w : Validator) (vs : List Verdict) (ids : ShareIds v.settings vs) (known : AreKnown vs (held_by w)) (settings : w.settings ≡ v.settings) where
  later_groups : (g : List Group) → IsGrown (held_by w) g → AreKnown vs g
  later_groups g grown t c = grown_further t.kept.groups (held_by w) g (known t c) grown

  pub ids_further : (x : List ℕ) (d : Verdict) (u : Validator) → LeavesGroups w x d u → ShareIds v.settings (vs ++ d ∷ [])
  ids_further x (Accepted n) u ((grown, same, more), own) =
      ids_accepted v.settings vs ids n (later_groups n.kept.groups (subst (IsGrown (held_by w)) (sym same) grown))
      (subst (λ (z : Settings). AreToldUnder z n.kept.groups n.kept.groups) settings own)
  ids_further x (Refused e b) u left = ids_refused v.settings vs ids e b

  pub known_further : (x : List ℕ) (d : Verdict) (u : Validator) → LeavesGroups w x d u → goes_on d ≡ true → AreKnown (vs ++ d ∷ []) (held_by u)
  known_further x (Accepted n) u ((grown, same, more), own) on t (i, l, at) = go (contains_push vs (Accepted n) (Accepted t) i l at)
    where
      go : Contains vs (Accepted t) ⊎ (Accepted n ≡ Accepted t) → IsGrown t.kept.groups (held_by u)
      go (inl c) = later_groups (held_by u) grown t c
      go (inr c) = ([], sym same ∙ ap (λ (x : Learned). x.kept.groups) (accepted_is n t c))
  known_further x (Refused e true) u (grown, more) on t (i, l, at) = go (contains_push vs (Refused e true) (Accepted t) i l at)
    where
      go : Contains vs (Accepted t) ⊎ (Refused e true ≡ Accepted t) → IsGrown t.kept.groups (held_by u)
      go (inl c) = later_groups (held_by u) grown t c
      go (inr c) = absurd (not_accepted e true t c)
  known_further x (Refused e false) u left on t c = absurd cc

-- ---- all of them

-- the list grows over a verdict that another may follow
grown_over : (z : Settings) (held next : List Group) (x : List ℕ) (d : Verdict) → IsHeldBehind z held x d next → IsGrown held next
grown_over z held next x (Accepted t) h = h.0
grown_over z held next x (Refused e b) h = h.0

-- none may follow one that was refused before its end
stops_there : (d : Verdict) → goes_on d ≡ false → can_reset (state_behind d) ≡ true → ⊥
stops_there (Accepted t) off on = cc
stops_there (Refused e true) off on = cc
stops_there (Refused e false) off on = cc

module _ (v : Validator) (xs : List (List ℕ)) where
  -- the first i inputs have these verdicts, behind which the validator is so
  pub record Stands (i : ℕ) (w : Validator) (vs : List Verdict) : Type 0 where
    pub ready : can_reset w.state ≡ true
    pub state : w.state ≡ state_after vs
    pub others : w ≡ record v { state = w.state; reached = w.reached }
    pub verdicts : Goes v.settings v.id (held_by v) xs i (held_by w) vs
    pub ids : ShareIds v.settings vs
    pub known : (t : Learned) → Contains vs (Accepted t) → IsGrown t.kept.groups (held_by w)
    pub grown : IsGrown (held_by v) (held_by w)

  pub keeps_all : (i : ℕ) (w : Validator) (vs : List Verdict) → Stands i w vs → KeepsAll v vs w
  keeps_all i w vs s on = (s.grown, s.known)

  pub stands_first : v.state ≡ Unparsed → Stands zero v []
  stands_first is = record {
    ready = ap can_reset is;
    state = is;
    others = refl;
    verdicts = goes_first v.settings v.id (held_by v) xs;
    ids = λ t u (i, l, at) d. absurd (omega (arith, l));
    known = λ t (i, l, at). absurd (omega (arith, l));
    grown = ([], refl);
  }

  module _ (i : ℕ) (w u : Validator) (vs : List Verdict) (x : List ℕ) (d : Verdict) (s : Stands i w vs) (at : slice_get xs i ≡ Some x)
      (is : IsVerdict w.settings w.id (held_by w) x d) (left : LeavesGroups w x d u) (next : u ≡ record w { state = u.state; reached = u.reached }) where
    same_settings_as : w.settings ≡ v.settings
    same_settings_as = ap (λ (y : Validator). y.settings) s.others

    verdict : IsVerdict v.settings v.id (held_by w) x d
    verdict = subst (λ (y : Validator). IsVerdict y.settings y.id (held_by w) x d) s.others is

    -- where another may come, the list has further groups
    held_behind : (e : Verdict) → LeavesGroups w x e u → goes_on e ≡ true → IsHeldBehind w.settings (held_by w) x e (held_by u)
    held_behind (Accepted t) (behind, own) on = behind
    held_behind (Refused k true) behind on = behind
    held_behind (Refused k false) behind on = absurd cc

    pub others_stay : u ≡ record v { state = u.state; reached = u.reached }
    others_stay = next ∙ ap (λ (y : Validator). record y { state = u.state; reached = u.reached }) s.others

    pub ids_are : ShareIds v.settings (vs ++ d ∷ [])
    ids_are = ids_further v w vs s.ids s.known same_settings_as x d u left

    pub verdicts_are : goes_on d ≡ false → AreVerdicts v.settings v.id (held_by v) xs (vs ++ d ∷ [])
    verdicts_are off = goes_to_last v.settings v.id (held_by v) xs i (held_by w) vs x d s.verdicts at verdict off

    pub stands_further : u.state ≡ state_behind d → goes_on d ≡ true → Stands (i + 1) u (vs ++ d ∷ [])
    stands_further st on = record {
      ready = ap can_reset st ∙ may_go_on d on;
      state = st ∙ sym (last_counts vs d);
      others = others_stay;
      verdicts = goes_further v.settings v.id (held_by v) xs i (held_by w) (held_by u) vs x d s.verdicts at verdict on
          (subst (λ (z : Settings). IsHeldBehind z (held_by w) x d (held_by u)) same_settings_as (held_behind d left on));
      ids = ids_are;
      known = known_further v w vs s.ids s.known same_settings_as x d u left on;
      grown = grown_further (held_by v) (held_by w) (held_by u) s.grown (grown_over w.settings (held_by w) (held_by u) x d (held_behind d left on));
    }

    -- after the last there is no other
    pub keeps_to_last : u.state ≡ state_behind d → goes_on d ≡ false → KeepsAll v (vs ++ d ∷ []) u
    keeps_to_last st off on = absurd (stops_there d off (subst (λ (t : State). can_reset t ≡ true) st on))

-- What a list knows once a group has been added.
use Rattle.std.proofs.Common.{◌≡◌, ◌∙◌, ℕ, zero, suc, ◌<◌, Bool, true, false, cond, List, [], ◌∷◌, ◌++◌, length, replicate, refl, ap, sym, subst, Option, Some, None, IsTrue, is_some, arith, eqb}
use Rattle.std.proofs.lemmas.Bool.{eqb-true}
use Rattle.std.proofs.lemmas.List.Elements.{All-contains}
use Rattle.std.specs.Prelude.{MatchOption, All, AllPairs, Contains, slice_get}
use Rattle.std.specs.Ordering.{is_eq}
use Rattle.std.specs.declared.cmp.Ordering.{Ordering}
use Rattle.std.specs.declared.cmp.Ordering.TheVariants.{Less, Equal, Greater}
use Rattle.wasm_types.specs.declared.rec_group.RecGroup.{RecGroup}
use Rattle.wasm_types.specs.declared.sub_type.SubType.{SubType}
use Rattle.wasm_types.specs.contracts.rec_group.RecGroupOrd.TheImpl as order
use Rattle.wasm_types.specs.Entries.{Declared, declared_of, declared_types}
use Rattle.wasm_types.specs.GroupsLaws.{TiesDeclareTheSame}
use Rattle.wasm_module_validator_type_storage.specs.ordered.Order.{IsPut}
use Rattle.wasm_module_validator_type_storage.specs.ordered.OrderLaws.{put_all, put_has, put_keeps, put_pairs}
use Rattle.wasm_module_validator_type_storage.specs.trees.Groups.{Group, group_at, group_numbers}
use Rattle.wasm_module_validator_type_storage.specs.trees.Formed.{IsMissing}
use Rattle.wasm_module_validator_type_storage.specs.trees.laws.Apart.{at_old, at_new}
use Rattle.wasm_module_validator_type_list.specs.declared.ids.RecGroupId.{RecGroupId}
use Rattle.wasm_module_validator_type_list.specs.declared.known.Known.{Known}
use Rattle.wasm_module_validator_type_list.specs.Beside.{beside, Precedes}
use Rattle.wasm_module_validator_type_list.specs.Known.{group_in, Numbers, number_in, Learns, FindsTheSame, IsAlone, Declares, NoneDeclares, KnowsGroups, Knows}
use Rattle.wasm_module_validator_type_list.specs.Known.{CanLearn, Gains, by_id, by_copy, StaysKnown, KnowsMore}
use Rattle.wasm_module_validator_type_list.proofs.Besides.{beside_kept, turned}
use Rattle.wasm_module_validator_type_list.proofs.Parts.{homes_push}

-- ---- the order of groups

orders_alike : (o p : Ordering) → (o ≡ Equal → p ≡ Equal) → (p ≡ Equal → o ≡ Equal) → is_eq o ≡ is_eq p
orders_alike Less Less f h = refl
orders_alike Less Equal f h = let e = h refl in cc
orders_alike Less Greater f h = refl
orders_alike Equal Less f h = let e = f refl in cc
orders_alike Equal Equal f h = refl
orders_alike Equal Greater f h = let e = f refl in cc
orders_alike Greater Less f h = refl
orders_alike Greater Equal f h = let e = h refl in cc
orders_alike Greater Greater f h = refl

equal_true : (o : Ordering) → is_eq o ≡ true → o ≡ Equal
equal_true Less e = cc
equal_true Equal e = refl
equal_true Greater e = cc

equal_false : (o : Ordering) → is_eq o ≡ false → o ≡ Equal → ⊥
equal_false Less e f = cc
equal_false Equal e f = cc
equal_false Greater e f = cc

module _ (ties : TiesDeclareTheSame) where
  -- a group and its copy are equal to the same groups
  pub same_test : (g h q : RecGroup) → declared_types g ≡ declared_types h → is_eq (order.ghosts.cmp g q) ≡ is_eq (order.ghosts.cmp h q)
  same_test g h q e =
      orders_alike (order.ghosts.cmp g q) (order.ghosts.cmp h q)
      (λ a. (ties h q).1 (sym e ∙ (ties g q).0 a)) (λ b. (ties g q).1 (e ∙ (ties h q).0 b))

  same_group : (g q : RecGroup) → is_eq (order.ghosts.cmp g q) ≡ true → declared_types g ≡ declared_types q
  same_group g q e = (ties g q).0 (equal_true (order.ghosts.cmp g q) e)

  other_group : (g q : RecGroup) → is_eq (order.ghosts.cmp g q) ≡ false → declared_types g ≡ declared_types q → ⊥
  other_group g q e f = equal_false (order.ghosts.cmp g q) e ((ties g q).1 f)

-- ---- one more group

-- only numbers below the count of groups have one
below_at : (h : Group) (gs : List Group) (k : ℕ) (g : Group) (b : Bool) → eqb k (length gs) ≡ b → (group_at gs k ≡ Some g → k < length gs)
    → cond b (Some h) (group_at gs k) ≡ Some g → k < length (h ∷ gs)
below_at h gs k g true b older e = let f = eqb-true k (length gs) b in omega arith
below_at h gs k g false b older e = let l = older e in omega arith

pub group_below : (gs : List Group) (k : ℕ) (g : Group) → group_at gs k ≡ Some g → k < length gs
group_below [] k g e = absurd cc
group_below (h ∷ gs) k g e = below_at h gs k g (eqb k (length gs)) refl (group_below gs k g) e

missing_at : (h : Group) (gs : List Group) (k : ℕ) (g : Group) (b : Bool) → (h ≡ g → ⊥) → IsMissing gs g → cond b (Some h) (group_at gs k) ≡ Some g → ⊥
missing_at h gs k g true apart missing e = apart cc
missing_at h gs k g false apart missing e = missing k e

still_missing : (h : Group) (gs : List Group) (g : Group) → (h ≡ g → ⊥) → IsMissing gs g → IsMissing (h ∷ gs) g
still_missing h gs g apart missing k e = missing_at h gs k g (eqb k (length gs)) apart missing e

-- ---- the group of an id

told_group : (gs : List Group) (number : ℕ) (kept found : SubType) (g : RecGroup) → group_at gs number ≡ Some (record { is_canonical = true; types = declared_of kept ∷ [] })
    → kept ≡ found → declared_of found ∷ [] ≡ declared_types g → group_at gs number ≡ Some (group_in true g)
told_group gs number kept found g at e same =
    at ∙ ap (λ (ds : List Declared). Some (record { is_canonical = true; types = ds })) (ap (λ (t : SubType). declared_of t ∷ []) e ∙ same)

-- the type that is found is that of the group, whose number is that of its home
pub found_at : (gs : List Group) (types : List SubType) (ids : List ℕ) (g : RecGroup) → All (IsAlone gs types) ids → (n : ℕ) → Declares types ids (declared_types g) n
    → (number : ℕ) × (slice_get (group_numbers gs) n ≡ Some number) × (group_at gs number ≡ Some (group_in true g))
found_at gs types ids g all n d =
    let a = All-contains (IsAlone gs types) ids n all d.among in
    let both : Some a.kept ≡ Some d.kept = sym a.stored ∙ d.stored in
    let kept : a.kept ≡ d.kept = cc in
    (a.number, a.home, told_group gs a.number a.kept d.kept g a.group kept d.same)

pub found_some : (gs : List Group) (types : List SubType) (known : Option Known) (k : Known) (g : RecGroup) → known ≡ Some k → Knows gs types known → (n : ℕ)
    → Declares types k.alone (declared_types g) n → (number : ℕ) × (slice_get (group_numbers gs) n ≡ Some number) × (group_at gs number ≡ Some (group_in true g))
found_some gs types None k g e knows n d = absurd cc
found_some gs types (Some m) k g e knows n d =
    let same : m ≡ k = cc in found_at gs types k.alone g (subst (λ (x : Known). All (IsAlone gs types) x.alone) same knows.alone) n d

-- ---- further types behind those that there are

pub get_left : {A : Type 0} (xs ys : List A) (n : ℕ) (x : A) → slice_get xs n ≡ Some x → slice_get (xs ++ ys) n ≡ Some x
get_left [] ys n x e = absurd cc
get_left (y ∷ xs) ys zero x e = e
get_left (y ∷ xs) ys (suc n) x e = get_left xs ys n x e

get_next : {A : Type 0} (xs : List A) (x : A) → slice_get (xs ++ x ∷ []) (length xs) ≡ Some x
get_next [] x = refl
get_next (y ∷ xs) x = get_next xs x

precedes_left : (types more : List SubType) (a b : ℕ) → Precedes types a b → Precedes (types ++ more) a b
precedes_left types more a b p = record {
  former = p.former;
  latter = p.latter;
  at_a = get_left types more a p.former p.at_a;
  at_b = get_left types more b p.latter p.at_b;
  less = p.less;
}

pub ordered_left : (types more : List SubType) (ids : List ℕ) → AllPairs (Precedes types) ids → AllPairs (Precedes (types ++ more)) ids
ordered_left types more ids pairs i j d lt within = precedes_left types more _ _ (pairs i j d lt within)

alone_left : (h : Group) (gs : List Group) (types more : List SubType) (n : ℕ) → IsAlone gs types n → IsAlone (h ∷ gs) (types ++ more) n
alone_left h gs types more n a = record {
  number = a.number;
  kept = a.kept;
  home = ap (λ (l : List ℕ). slice_get l n) (homes_push h gs) ∙ get_left (group_numbers gs) (replicate (length h.types) (length gs)) n a.number a.home;
  stored = get_left types more n a.kept a.stored;
  group = at_old h gs a.number (group_below gs a.number _ a.group) ∙ a.group;
}

all_left : (h : Group) (gs : List Group) (types more : List SubType) (ids : List ℕ) → All (IsAlone gs types) ids → All (IsAlone (h ∷ gs) (types ++ more)) ids
all_left h gs types more ids all k d lt = alone_left h gs types more _ (all k d lt)

none_left : (types more : List SubType) (ids further : List ℕ) (ds : List Declared) → ((n : ℕ) → Contains ids n → Contains further n)
    → NoneDeclares (types ++ more) further ds → NoneDeclares types ids ds
none_left types more ids further ds keeps none n d =
    none n (record { kept = d.kept; among = keeps n d.among; stored = get_left types more n d.kept d.stored; same = d.same })

-- ---- what is found with one more group

-- another group is found as before
found_still : (h : Group) (gs : List Group) (g : Group) (o : Option RecGroupId) (A B : Type 0) → (B → A) → (B → h ≡ g → ⊥)
    → MatchOption o (A → IsMissing gs g) (λ k. group_at gs k.0 ≡ Some g) → MatchOption o (B → IsMissing (h ∷ gs) g) (λ k. group_at (h ∷ gs) k.0 ≡ Some g)
found_still h gs g None A B fewer apart w = λ b. still_missing h gs g (apart b) (w (fewer b))
found_still h gs g (Some k) A B fewer apart w = at_old h gs k.0 (group_below gs k.0 g w) ∙ w

found_either : (gs : List Group) (h g : Group) (id : RecGroupId) (o : Option RecGroupId) (b : Bool) (A B : Type 0) → id.0 ≡ length gs → (b ≡ true → h ≡ g) → (b ≡ false → h ≡ g → ⊥)
    → (B → A) → MatchOption o (A → IsMissing gs g) (λ k. group_at gs k.0 ≡ Some g)
    → MatchOption (cond b (Some id) o) (B → IsMissing (h ∷ gs) g) (λ k. group_at (h ∷ gs) k.0 ≡ Some g)
found_either gs h g id o true A B at hit miss fewer w = ap (group_at (h ∷ gs)) at ∙ at_new h gs ∙ ap Some (hit refl)
found_either gs h g id o false A B at hit miss fewer w = found_still h gs g o A B fewer (λ b. miss refl) w

types_of : (c d : Bool) (g q : RecGroup) → group_in c g ≡ group_in d q → declared_types g ≡ declared_types q
types_of c d g q e = ap (λ (x : Group). x.types) e

-- an answer for a group, where the map has another under the same name
answered : (gs : List Group) (types : List SubType) (ids : List ℕ) (g : RecGroup) (o p : Option RecGroupId) → p ≡ o
    → MatchOption o (NoneDeclares types ids (declared_types g) → IsMissing gs (group_in true g)) (λ k. group_at gs k.0 ≡ Some (group_in true g))
    → MatchOption p (NoneDeclares types ids (declared_types g) → IsMissing gs (group_in true g)) (λ k. group_at gs k.0 ≡ Some (group_in true g))
answered gs types ids g o p e w =
    subst (λ (r : Option RecGroupId). MatchOption r (NoneDeclares types ids (declared_types g) → IsMissing gs (group_in true g)) (λ k. group_at gs k.0 ≡ Some (group_in true g)))
    (sym e) w

-- ---- a group that becomes known

module _ (gs : List Group) (types stored : List SubType) (start : ℕ) (g : RecGroup) (id : RecGroupId) (m n : Known) (knows : KnowsGroups gs types m)
    (first : start ≡ length types) (counted : start ≡ length (group_numbers gs)) (at : id.0 ≡ length gs) where
  -- by the id of its only type
  module _ (ty : SubType) (one : stored ≡ ty ∷ []) (same : declared_types g ≡ declared_of ty ∷ []) (put : IsPut (beside types ty) start m.alone n.alone)
      (finds : FindsTheSame m.numbers n.numbers) where
    here : slice_get (types ++ stored) start ≡ Some ty
    here = ap (λ (l : List SubType). slice_get (types ++ l) start) one ∙ ap (slice_get (types ++ ty ∷ [])) first ∙ get_next types ty

    it_is_alone : IsAlone (group_in true g ∷ gs) (types ++ stored) start
    it_is_alone = record {
      number = length gs;
      kept = ty;
      home = ap (λ (l : List ℕ). slice_get l start) (homes_push (group_in true g) gs)
          ∙ ap (λ (ds : List Declared). slice_get (group_numbers gs ++ replicate (length ds) (length gs)) start) same
          ∙ ap (slice_get (group_numbers gs ++ length gs ∷ [])) counted ∙ get_next (group_numbers gs) (length gs);
      stored = here;
      group = at_new (group_in true g) gs ∙ ap (λ (ds : List Declared). Some (record { is_canonical = true; types = ds })) same;
    }

    kept_at : (k : ℕ) → Contains m.alone k → IsAlone gs types k
    kept_at k has = All-contains (IsAlone gs types) m.alone k knows.alone has

    before_it : (k : ℕ) → Contains m.alone k → beside types ty k ≡ Less → Precedes (types ++ stored) k start
    before_it k has less =
        let a = kept_at k has in
        record {
          former = a.kept;
          latter = ty;
          at_a = get_left types stored k a.kept a.stored;
          at_b = here;
          less = sym (beside_kept types ty a.kept k a.stored) ∙ less;
        }

    behind_it : (k : ℕ) → Contains m.alone k → beside types ty k ≡ Greater → Precedes (types ++ stored) start k
    behind_it k has greater =
        let a = kept_at k has in
        record {
          former = ty;
          latter = a.kept;
          at_a = here;
          at_b = get_left types stored k a.kept a.stored;
          less = turned a.kept ty (sym (beside_kept types ty a.kept k a.stored) ∙ greater);
        }

    gained_id : KnowsGroups (group_in true g ∷ gs) (types ++ stored) n
    gained_id = record {
      ordered = put_pairs put (Precedes (types ++ stored)) (ordered_left types stored m.alone knows.ordered) before_it behind_it;
      alone = put_all put (IsAlone (group_in true g ∷ gs) (types ++ stored)) (all_left (group_in true g) gs types stored m.alone knows.alone) it_is_alone;
      found = λ q. answered (group_in true g ∷ gs) (types ++ stored) n.alone q (number_in m.numbers q) (number_in n.numbers q) (finds q)
          (found_still (group_in true g) gs (group_in true q) (number_in m.numbers q) (NoneDeclares types m.alone (declared_types q))
          (NoneDeclares (types ++ stored) n.alone (declared_types q)) (none_left types stored m.alone n.alone (declared_types q) (put_keeps put))
          (λ none e. none start (record { kept = ty; among = put_has put; stored = here; same = sym same ∙ types_of true true g q e }))
          (knows.found q));
    }

  kept_ids : n.alone ≡ m.alone → (k : ℕ) → Contains m.alone k → Contains n.alone k
  kept_ids e k has = subst (λ (l : List ℕ). Contains l k) (sym e) has

  -- by a copy, or not at all
  module _ (e : n.alone ≡ m.alone) (h : Group) where
    same_ordered : AllPairs (Precedes (types ++ stored)) n.alone
    same_ordered = subst (AllPairs (Precedes (types ++ stored))) (sym e) (ordered_left types stored m.alone knows.ordered)

    same_alone : All (IsAlone (h ∷ gs) (types ++ stored)) n.alone
    same_alone = subst (All (IsAlone (h ∷ gs) (types ++ stored))) (sym e) (all_left h gs types stored m.alone knows.alone)

    fewer : (q : RecGroup) → NoneDeclares (types ++ stored) n.alone (declared_types q) → NoneDeclares types m.alone (declared_types q)
    fewer q = none_left types stored m.alone n.alone (declared_types q) (kept_ids e)

  gained_copy : TiesDeclareTheSame → Learns m.numbers n.numbers g id → n.alone ≡ m.alone → KnowsGroups (group_in true g ∷ gs) (types ++ stored) n
  gained_copy ties learns e = record {
    ordered = same_ordered e (group_in true g);
    alone = same_alone e (group_in true g);
    found = λ q. answered (group_in true g ∷ gs) (types ++ stored) n.alone q _ (number_in n.numbers q) (learns q)
        (found_either gs (group_in true g) (group_in true q) id (number_in m.numbers q) (is_eq (order.ghosts.cmp g q)) (NoneDeclares types m.alone (declared_types q))
        (NoneDeclares (types ++ stored) n.alone (declared_types q)) at
        (λ same. ap (λ (ds : List Declared). record { is_canonical = true; types = ds }) (same_group ties g q same))
        (λ apart f. other_group ties g q apart (types_of true true g q f)) (fewer e (group_in true g) q) (knows.found q));
  }

  gained_none : FindsTheSame m.numbers n.numbers → n.alone ≡ m.alone → KnowsGroups (group_in false g ∷ gs) (types ++ stored) n
  gained_none finds e = record {
    ordered = same_ordered e (group_in false g);
    alone = same_alone e (group_in false g);
    found = λ q. answered (group_in false g ∷ gs) (types ++ stored) n.alone q (number_in m.numbers q) (number_in n.numbers q) (finds q)
        (found_still (group_in false g) gs (group_in true q) (number_in m.numbers q) (NoneDeclares types m.alone (declared_types q))
        (NoneDeclares (types ++ stored) n.alone (declared_types q)) (fewer e (group_in false g) q)
        (λ none f. let z : false ≡ true = ap (λ (x : Group). x.is_canonical) f in cc) (knows.found q));
  }

  gained : TiesDeclareTheSame → Gains types stored start g id m n → KnowsGroups (group_in true g ∷ gs) (types ++ stored) n
  gained ties (by_id ty one same put finds) = gained_id ty one same put finds
  gained ties (by_copy other learns e) = gained_copy ties learns e

pub knows_push : TiesDeclareTheSame → (gs : List Group) (types stored : List SubType) (canonical : Bool) (start : ℕ) (g : RecGroup) (id : RecGroupId) (known more : Option Known)
    → start ≡ length types → start ≡ length (group_numbers gs) → id.0 ≡ length gs → Knows gs types known → KnowsMore canonical types stored start g id known more
    → Knows (group_in canonical g ∷ gs) (types ++ stored) more
knows_push ties gs types stored canonical start g id None None first counted at knows w = tt
knows_push ties gs types stored canonical start g id None (Some n) first counted at knows w = absurd w
knows_push ties gs types stored canonical start g id (Some m) None first counted at knows w = absurd w
knows_push ties gs types stored true start g id (Some m) (Some n) first counted at knows w = gained gs types stored start g id m n knows first counted at ties w
knows_push ties gs types stored false start g id (Some m) (Some n) first counted at knows w = gained_none gs types stored start g id m n knows first counted at w.0 w.1

-- ---- the map alone

pub learned : TiesDeclareTheSame → (m n : Numbers) (key g : RecGroup) (id : RecGroupId) → declared_types key ≡ declared_types g
    → ((q : RecGroup) → number_in n q ≡ cond (is_eq (order.ghosts.cmp key q)) (Some id) (number_in m q)) → Learns m n g id
learned ties m n key g id same puts q = puts q ∙ ap (λ (b : Bool). cond b (Some id) (number_in m q)) (same_test ties key g q same)

-- ---- nothing more

-- nothing changes where the same is found
pub knows_same : (gs : List Group) (types : List SubType) (known more : Option Known) → Knows gs types known → StaysKnown known more → Knows gs types more
knows_same gs types None None knows w = tt
knows_same gs types None (Some n) knows w = absurd w
knows_same gs types (Some m) None knows w = absurd w
knows_same gs types (Some m) (Some n) knows w = record {
  ordered = subst (AllPairs (Precedes types)) (sym w.1) knows.ordered;
  alone = subst (All (IsAlone gs types)) (sym w.1) knows.alone;
  found = λ q.
      subst (λ (ids : List ℕ). MatchOption (number_in n.numbers q) (NoneDeclares types ids (declared_types q) → IsMissing gs (group_in true q)) (λ k. group_at gs k.0 ≡ Some (group_in true q)))
      (sym w.1) (answered gs types m.alone q (number_in m.numbers q) (number_in n.numbers q) (w.0 q) (knows.found q));
}

-- what is known stays, or there is nothing that could be
pub stays_some : (known more : Option Known) → StaysKnown known more → is_some more ≡ is_some known
stays_some None None w = refl
stays_some None (Some n) w = absurd w
stays_some (Some m) None w = absurd w
stays_some (Some m) (Some n) w = refl

pub more_some : (canonical : Bool) (types stored : List SubType) (start : ℕ) (g : RecGroup) (id : RecGroupId) (known more : Option Known)
    → KnowsMore canonical types stored start g id known more → is_some more ≡ is_some known
more_some canonical types stored start g id None more w = stays_some None more w
more_some canonical types stored start g id (Some m) None w = absurd w
more_some true types stored start g id (Some m) (Some n) w = refl
more_some false types stored start g id (Some m) (Some n) w = refl

-- ---- what is asked of a group that is added

-- a group that the list does not have is that of no id
none_has : (gs : List Group) (types : List SubType) (ids : List ℕ) (g : RecGroup) → All (IsAlone gs types) ids → IsMissing gs (group_in true g)
    → NoneDeclares types ids (declared_types g)
none_has gs types ids g all missing n d =
    let found = found_at gs types ids g all n d in
    missing found.0 found.2

pub can_learn : (gs : List Group) (types : List SubType) (canonical : Bool) (g : RecGroup) (known : Option Known) → Knows gs types known
    → (IsTrue canonical → IsMissing gs (group_in canonical g)) → CanLearn canonical types g known
can_learn gs types canonical g None knows missing = tt
can_learn gs types true g (Some m) knows missing = (knows.ordered, λ t. none_has gs types m.alone g knows.alone (missing t))
can_learn gs types false g (Some m) knows missing = (knows.ordered, λ t. let z : false ≡ true = t in absurd cc)

pub can_keep : (types : List SubType) (canonical : Bool) (g : RecGroup) (known : Option Known) (k : Known) → known ≡ Some k → canonical ≡ true → CanLearn canonical types g known
    → NoneDeclares types k.alone (declared_types g)
can_keep types canonical g None k e t w = absurd cc
can_keep types canonical g (Some m) k e t w =
    let same : m ≡ k = cc in subst (λ (x : Known). NoneDeclares types x.alone (declared_types g)) same (w.1 t)

-- No display is missing: each is made in its turn, in room that is there.
use Rattle.std.proofs.Common.{◌≡◌, ◌∙◌, ℕ, Bool, zero, suc, ◌+◌, ◌*◌, ◌-◌, ◌<◌, ◌≤◌, List, [], ◌∷◌, ◌++◌, length, refl, ap, sym, subst, Option, Some, None, arith, ⊎_elim, cond, true, false}
use Rattle.std.specs.Prelude.{slice_get, MatchOption, IsSome}
use Rattle.std.proofs.lemmas.Option.{none-some, same_Some}
use Rattle.std.proofs.lemmas.Bool.{cases_lt}
use Rattle.std.proofs.lemmas.List.{length-append}
use Rattle.wasm_types.specs.trees.declared.index.CoreTypeId.{CoreTypeId}
use Rattle.wasm_module_validator_type_storage.specs.declared.displays.Display.{Display}
use Rattle.wasm_module_validator_type_storage.specs.snapshots.Pieces.{Listed}
use Rattle.wasm_module_validator_type_storage.specs.displays.Chains.{HasDepth}
use Rattle.wasm_module_validator_type_storage.specs.displays.Entries.{HasDisplay, AreDisplays, IsDisplayed, AreEarlier, IsShallow, AreAllDisplayed, LacksDisplay, alike, deep, Keeps, AreSoFar, AreKept}
use Rattle.wasm_module_validator_type_storage.proofs.Places.{get_left, get_right}
use Rattle.wasm_module_validator_type_storage.proofs.Chains.{one_depth, one_more, known_by_depth, depth_before}
use Rattle.wasm_module_validator_type_storage.proofs.Ancestors.{get_more, get_last, kept, has_more, all_more}

-- ---- what is found of a display

pub found : (l : List (Option Display)) (a : CoreTypeId) (o : Option Display) → slice_get l a.0 ≡ Some o
    → MatchOption o (IsDisplayed l a → ⊥) (λ d. slice_get l a.0 ≡ Some (Some d))
found l a None e = λ h. none-some h.display (same_Some None (Some h.display) (sym e ∙ h.there))
found l a (Some d) e = e

pub not_found : (l : List (Option Display)) (a : CoreTypeId) → slice_get l a.0 ≡ None → IsDisplayed l a → ⊥
not_found l a e h = none-some (Some h.display) (sym e ∙ h.there)

-- ---- one more

one_at : (o p : Option Display) (k : ℕ) → slice_get (o ∷ []) k ≡ Some p → (k ≡ 0) × (o ≡ p)
one_at o p zero e = (refl, same_Some o p e)
one_at o p (suc k) e = absurd (none-some p e)

some_of : (P : Type 0) (Q : Display → Type 0) (x : Display) (o : Option Display) → o ≡ Some x → MatchOption o P Q → Q x
some_of P Q x None e h = absurd (none-some x e)
some_of P Q x (Some y) e h = subst Q (same_Some y x e) h

-- why a type below another gets none
pub lacks : (ups : List (Option CoreTypeId)) (ds : List (Option Display)) (own above : CoreTypeId) (n : ℕ) (Q : Display → Type 0) (o : Option Display)
    → slice_get ups own.0 ≡ Some (Some above) → HasDepth ups above n → MatchOption o (255 ≤ n) Q → MatchOption o (LacksDisplay ups ds own) Q
lacks ups ds own above n Q None is h m = deep above n is h m
lacks ups ds own above n Q (Some d) is h m = m

module _ (ups : List (Option CoreTypeId)) (es more : List CoreTypeId) (ds : List (Option Display)) (own : CoreTypeId) (o : Option Display)
    (at : own.0 ≡ length ds) (has : MatchOption o (LacksDisplay ups ds own) (HasDisplay ups more own)) where
  is_own : (a : CoreTypeId) → length ds ≤ a.0 → a.0 < length (ds ++ o ∷ []) → own ≡ a
  is_own a le lt = ap (λ (n : ℕ). record { 0 = n }) (omega (arith, at, le, lt, length-append ds (o ∷ [])))

  right_more : AreDisplays ups es ds → Keeps es more → AreDisplays ups more (ds ++ o ∷ [])
  right_more all keeps a d e =
      ⊎_elim
      (λ (early : a.0 < length ds). has_more ups ups es more (λ i x h. h) keeps a d (all a d (sym (get_left ds (o ∷ []) a.0 early) ∙ e)))
      (λ (late : length ds ≤ a.0).
      let first = one_at o (Some d) (a.0 - length ds) (sym (get_right ds (o ∷ []) a.0 late) ∙ e) in
      let same : own ≡ a = ap (λ (n : ℕ). record { 0 = n }) (let z = first.0 in omega (arith, at)) in
      subst (λ (x : CoreTypeId). HasDisplay ups more x d) same (some_of (LacksDisplay ups ds own) (HasDisplay ups more own) d o first.1 has))
      (cases_lt a.0 (length ds))

  -- a type with at most 255 above it does not lack its display
  not_lacking : AreAllDisplayed ups ds → AreEarlier ups → IsShallow ups own → LacksDisplay ups ds own → ⊥
  not_lacking whole earlier shallow (alike above is not) =
      let up = one_more ups own above shallow.depth is shallow.is_depth in
      let less : above.0 < length ds = let lt = earlier own.0 above is in omega (arith, at) in
      not (whole earlier above less (record { depth = up.above; is_depth = up.is_depth; within = let w = shallow.within in omega (arith, up.more) }))
  not_lacking whole earlier shallow (deep above n is h le) =
      let up = one_more ups own above shallow.depth is shallow.is_depth in
      let e = one_depth ups above n up.above h up.is_depth in
      let w = shallow.within in
      omega (arith, up.more, e)

  own_displayed : (p : Option Display) → o ≡ p → MatchOption p (LacksDisplay ups ds own) (HasDisplay ups more own) → AreAllDisplayed ups ds → AreEarlier ups → IsShallow ups own
      → IsDisplayed (ds ++ p ∷ []) own
  own_displayed None e h whole earlier shallow = absurd (not_lacking whole earlier shallow h)
  own_displayed (Some d) e h whole earlier shallow = record { display = d; there = get_last ds (Some d) own.0 at }

  whole_more : AreAllDisplayed ups ds → AreAllDisplayed ups (ds ++ o ∷ [])
  whole_more whole earlier a lt shallow =
      ⊎_elim
      (λ (early : a.0 < length ds). let h = whole earlier a early shallow in record { display = h.display; there = get_more ds (o ∷ []) a.0 (Some h.display) h.there })
      (λ (late : length ds ≤ a.0).
      let same : own ≡ a = is_own a late lt in
      subst (λ (x : CoreTypeId). IsDisplayed (ds ++ o ∷ []) x) same
      (own_displayed o refl has whole earlier (subst (λ (x : CoreTypeId). IsShallow ups x) (sym same) shallow)))
      (cases_lt a.0 (length ds))

-- the next display is made
pub one_made : (ups : List (Option CoreTypeId)) (es more : Listed CoreTypeId) (ds now : Listed (Option Display)) (own : CoreTypeId) (o : Option Display)
    → own.0 ≡ length ds.items → own.0 < length ups → Keeps es.items more.items
    → MatchOption o (LacksDisplay ups ds.items own) (HasDisplay ups more.items own) → length more.items ≤ length es.items + 16 → es.room ≤ more.room + 16
    → now.items ≡ ds.items ++ o ∷ [] → ds.room ≤ now.room + 1 → (further : ℕ) → AreSoFar ups ds es further → AreSoFar ups now more further
one_made ups es more ds now own o at lt keeps has long room is now_room further so =
    let size : length now.items ≡ length ds.items + 1 = ap length is ∙ length-append ds.items (o ∷ []) in
    record {
      right = subst (λ (l : List (Option Display)). AreDisplays ups more.items l) (sym is) (right_more ups es.items more.items ds.items own o at has so.right keeps);
      whole = subst (λ (l : List (Option Display)). AreAllDisplayed ups l) (sym is) (whole_more ups es.items more.items ds.items own o at has so.whole);
      some = omega (arith, size, at, lt);
      few = so.few;
      entries_few = let few = so.entries_few in omega (arith, size, long);
      displays_room = let have = so.displays_room in omega (arith, size, now_room);
      entries_room = let have = so.entries_room in omega (arith, size, room);
    }

-- ---- the types themselves

pub if_so : {A : Type 0} (b : Bool) (x y z : A) → x ≡ cond b y z → b ≡ true → x ≡ y
if_so true x y z e is = e
if_so false x y z e is = let no : false ≡ true = is in absurd cc

-- so many further types were reserved, or fewer
pub so_far_fewer : (ups : List (Option CoreTypeId)) (ds : Listed (Option Display)) (es : Listed CoreTypeId) (m n : ℕ) → n ≤ m → AreSoFar ups ds es m → AreSoFar ups ds es n
so_far_fewer ups ds es m n le so = record {
  right = so.right;
  whole = so.whole;
  some = so.some;
  few = let h = so.few in omega arith;
  entries_few = so.entries_few;
  displays_room = let h = so.displays_room in omega arith;
  entries_room = let h = so.entries_room in omega arith;
}

module _ (old more : List (Option CoreTypeId)) (ds : List (Option Display)) where
  -- displays of the first types are displays of them all
  grown_whole : length ds ≡ length old → AreAllDisplayed old ds → AreAllDisplayed (old ++ more) ds
  grown_whole long whole earlier a lt shallow =
      let known : a.0 < length old = omega (arith, long, lt) in
      let before : AreEarlier old = λ i b e. earlier i b (get_more old more i (Some b) e) in
      whole before a lt (record {
        depth = shallow.depth;
        is_depth = depth_before old more earlier a shallow.depth known shallow.is_depth;
        within = shallow.within;
      })

-- further types are added, in room that was reserved
pub types_added : (ups new : Listed (Option CoreTypeId)) (more : List (Option CoreTypeId)) (ds : Listed (Option Display)) (es : Listed CoreTypeId) (room rest : ℕ)
    → AreKept ups ds es room → new.items ≡ ups.items ++ more → rest + length more ≤ room → AreSoFar new.items ds es rest
types_added ups new more ds es room rest k is le =
    let so = k.so_far in
    let size : length new.items ≡ length ups.items + length more = ap length is ∙ length-append ups.items more in
    record {
      right = all_more ups.items new.items es.items es.items (λ i x h. kept ups.items new.items more is i x h) (λ i x h. h) ds.items so.right;
      whole = subst (λ (l : List (Option CoreTypeId)). AreAllDisplayed l ds.items) (sym is) (grown_whole ups.items more ds.items k.all so.whole);
      some = omega (arith, size, k.all);
      few = let h = so.few in omega (arith, size, le);
      entries_few = so.entries_few;
      displays_room = let h = so.displays_room in omega (arith, size, le);
      entries_room = let h = so.entries_room in omega (arith, size, le);
    }

-- and each has its display then
pub all_made : (ups new : Listed (Option CoreTypeId)) (more : List (Option CoreTypeId)) (ds now : Listed (Option Display)) (es fresh : Listed CoreTypeId) (room rest : ℕ)
    → AreKept ups ds es room → new.items ≡ ups.items ++ more → rest + length more ≡ room → ups.room ≤ new.room + length more
    → ((further : ℕ) → AreSoFar new.items ds es further → AreSoFar new.items now fresh further) → length now.items ≡ length new.items → AreKept new now fresh rest
all_made ups new more ds now es fresh room rest k is le new_room made all = record {
  so_far = made rest (types_added ups new more ds es room rest k is (omega (arith, le)));
  all = all;
  supertypes_room = let h = k.supertypes_room in omega (arith, le, new_room);
}

-- ---- lists that hold the same

pub none_kept : (ups : Listed (Option CoreTypeId)) (ds : Listed (Option Display)) (es : Listed CoreTypeId) → ups.items ≡ [] → ds.items ≡ [] → es.items ≡ [] → AreKept ups ds es 0
none_kept ups ds es e f g =
    let no : length ups.items ≡ 0 = ap length e in
    let none : length ds.items ≡ 0 = ap length f in
    let free : length es.items ≡ 0 = ap length g in
    record {
      so_far = record {
        right = λ a d h. absurd (none-some (Some d) (ap (λ (l : List (Option Display)). slice_get l a.0) (sym f) ∙ h));
        whole = λ earlier a lt shallow. absurd (omega (arith, none, lt));
        some = omega (arith, no, none);
        few = omega (arith, no);
        entries_few = omega (arith, free);
        displays_room = omega (arith, no);
        entries_room = omega (arith, no);
      };
      all = omega (arith, no, none);
      supertypes_room = omega arith;
    }

pub same_kept : (ups new : Listed (Option CoreTypeId)) (ds now : Listed (Option Display)) (es fresh : Listed CoreTypeId) (room rest : ℕ)
    → new.items ≡ ups.items → now.items ≡ ds.items → fresh.items ≡ es.items → length ups.items + rest ≤ 0x1000_0000 → rest ≤ new.room → rest ≤ now.room → 16 * rest ≤ fresh.room
    → AreKept ups ds es room → AreKept new now fresh rest
same_kept ups new ds now es fresh room rest e f g few first second third k =
    let so = k.so_far in
    let a : length new.items ≡ length ups.items = ap length e in
    let b : length now.items ≡ length ds.items = ap length f in
    let c : length fresh.items ≡ length es.items = ap length g in
    record {
      so_far = record {
        right = subst (λ (l : List (Option CoreTypeId)). AreDisplays l fresh.items now.items) (sym e)
            (subst (λ (l : List CoreTypeId). AreDisplays ups.items l now.items) (sym g)
            (subst (λ (l : List (Option Display)). AreDisplays ups.items es.items l) (sym f) so.right));
        whole = subst (λ (l : List (Option CoreTypeId)). AreAllDisplayed l now.items) (sym e)
            (subst (λ (l : List (Option Display)). AreAllDisplayed ups.items l) (sym f) so.whole);
        some = let h = so.some in omega (arith, a, b);
        few = omega (arith, few, a);
        entries_few = let h = so.entries_few in omega (arith, b, c);
        displays_room = let h = k.all in omega (arith, a, b, second);
        entries_room = let h = k.all in omega (arith, a, b, third);
      };
      all = b ∙ k.all ∙ sym a;
      supertypes_room = first;
    }

-- no room is left
pub committed : (ups new : Listed (Option CoreTypeId)) (ds now : Listed (Option Display)) (es fresh : Listed CoreTypeId) (room : ℕ)
    → new.items ≡ ups.items → now.items ≡ ds.items → fresh.items ≡ es.items → AreKept ups ds es room → AreKept new now fresh 0
committed ups new ds now es fresh room e f g k =
    let few = k.so_far.few in
    same_kept ups new ds now es fresh room 0 e f g (omega arith) (omega arith) (omega arith) (omega arith) k

-- the rooms only grow
pub roomier_kept : (ups new : Listed (Option CoreTypeId)) (ds now : Listed (Option Display)) (es fresh : Listed CoreTypeId) (room : ℕ)
    → new.items ≡ ups.items → now.items ≡ ds.items → fresh.items ≡ es.items → ups.room ≤ new.room → ds.room ≤ now.room → es.room ≤ fresh.room
    → AreKept ups ds es room → AreKept new now fresh room
roomier_kept ups new ds now es fresh room e f g first second third k =
    let so = k.so_far in
    let all = k.all in
    let few = so.few in
    let s = k.supertypes_room in
    let d = so.displays_room in
    let n = so.entries_room in
    same_kept ups new ds now es fresh room room e f g few (omega (arith, first)) (omega (arith, second, all)) (omega (arith, third, all)) k

-- ---- what can be told of shallow types

pub shallow_displayed : (ups : Listed (Option CoreTypeId)) (ds : Listed (Option Display)) (es : Listed CoreTypeId) (room : ℕ) → AreKept ups ds es room → AreEarlier ups.items
    → (a : CoreTypeId) → IsShallow ups.items a → IsDisplayed ds.items a
shallow_displayed ups ds es room k earlier a shallow =
    let lt = known_by_depth ups.items a shallow.depth shallow.is_depth in
    k.so_far.whole earlier a (omega (arith, k.all, lt)) shallow

-- a type between a shallow one and its ancestors is shallow
pub end_shallow : (ups : List (Option CoreTypeId)) (a end : CoreTypeId) (blocks place block : ℕ) → IsShallow ups a → HasDepth ups a (16 * blocks + place) → block < blocks
    → HasDepth ups end (16 * block + 15) → IsShallow ups end
end_shallow ups a end blocks place block shallow h lt deep_end =
    let e = one_depth ups a shallow.depth (16 * blocks + place) shallow.is_depth h in
    let w = shallow.within in
    record { depth = 16 * block + 15; is_depth = deep_end; within = omega (arith, e, lt) }

-- what is told of one list is told of the same
pub both_told_of : (ups items : List (Option CoreTypeId)) (o : Option Bool) (a b : CoreTypeId) → ups ≡ items
    → (AreEarlier ups → IsShallow ups a → IsShallow ups b → IsSome o) → AreEarlier items → IsShallow items a → IsShallow items b → IsSome o
both_told_of ups items o a b e told = subst (λ (l : List (Option CoreTypeId)). AreEarlier l → IsShallow l a → IsShallow l b → IsSome o) e told

pub one_told_of : (ups items : List (Option CoreTypeId)) (o : Option ℕ) (a : CoreTypeId) → ups ≡ items
    → (AreEarlier ups → IsShallow ups a → IsSome o) → AreEarlier items → IsShallow items a → IsSome o
one_told_of ups items o a e told = subst (λ (l : List (Option CoreTypeId)). AreEarlier l → IsShallow l a → IsSome o) e told
